use Rattle.archetype_store.proofs.Common.{◌≡◌, ◌≤◌, ◌++◌, drop, length, vec_len, vec_capacity, numbers_from, peopled_from}
use Rattle.archetype_store.proofs.table_index.TableIndex.note_rows.Given as goal

-- those so far are named
abbrev pub invariant-loop-number : goal.invariant-loop-number
invariant-loop-number l = record {
  named : l.self.peopled.items ++ peopled_from l.number (drop l.number l.tables) ≡ peopled_from 0 l.tables;
  numbered : l.self.numbers.items ++ numbers_from (vec_len l.self.peopled) (drop l.number l.tables) ≡ numbers_from 0 l.tables;
  few : vec_len l.self.peopled ≤ l.number;
  few_numbers : vec_len l.self.numbers ≤ l.number;
  room : length l.tables ≤ vec_capacity l.self.peopled;
  room_numbers : length l.tables ≤ vec_capacity l.self.numbers;
  shapes : l.self.shapes ≡ l.fn.self.shapes;
  words : l.self.by_word ≡ l.fn.self.by_word;
}
