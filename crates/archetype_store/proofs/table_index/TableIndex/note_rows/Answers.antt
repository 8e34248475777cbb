use Rattle.archetype_store.proofs.Common.{◌≡◌, ◌+◌, suc, drop, ◌++◌, ◌∷◌, [], ◌==◌, ℕ, List, Option, Some, length, map, sym, ap, ◌∙◌, arith, vec_len, TableRow, numbers_from, kept_seen, peopled_from, told_table}
use Rattle.archetype_store.proofs.TableLayouts.{no_rows, some_rows}
use Rattle.archetype_store.proofs.FittingTables.{number_none, number_some, numbers_all}
use Rattle.archetype_store.proofs.TableIndex.{named_none, named_next, named_all, found_other}
use Rattle.archetype_store.proofs.table_index.TableIndex.note_rows.Goals as goal

pub loop-number-preserved-then-is_empty : goal.loop-number-preserved-then-is_empty
loop-number-preserved-then-is_empty c =
    let i = c.loop-number.invariant in
    let none = no_rows (λ (row : TableRow). row.entity) c.index-tables-number.result.rows (ap (λ es. length es == 0) (sym c.entities.ensures.entities) ∙ sym c.is_empty.ensures ∙ c.if-is_empty.true) in
    let m = vec_len c.loop-number.self.peopled in
    record {
      named = named_none c.args.tables.now c.loop-number.number c.index-tables-number.result c.loop-number.self.peopled.items c.loop-number-test.true c.index-tables-number.is none i.named;
      numbered = ap (λ (ns : List (Option ℕ)). ns ++ numbers_from m (drop (c.loop-number.number + 1) c.args.tables.now)) c.push_reserved.ensures.items
          ∙ number_none c.args.tables.now c.loop-number.number m c.index-tables-number.result c.loop-number.self.numbers.items c.loop-number-test.true c.index-tables-number.is none i.numbered;
      few = omega arith;
      few_numbers = omega (arith, i.few_numbers, c.push_reserved.ensures.len);
      room = i.room;
      room_numbers = omega (arith, i.room_numbers, c.push_reserved.ensures.capacity);
      shapes = i.shapes;
      words = i.words;
    }

pub loop-number-preserved : goal.loop-number-preserved
loop-number-preserved c =
    let i = c.loop-number.invariant in
    let some = some_rows (λ (row : TableRow). row.entity) c.index-tables-number.result.rows (ap (λ es. length es == 0) (sym c.entities.ensures.entities) ∙ sym c.is_empty.ensures ∙ c.if-is_empty.false) in
    let m = vec_len c.loop-number.self.peopled in
    let k = vec_len c.push_reserved-in-loop-number-2.new.self in
    let more : k ≡ suc m = omega (arith, c.push_reserved-in-loop-number-2.ensures.len) in
    record {
      named = ap (λ (ns : List ℕ). ns ++ peopled_from (c.loop-number.number + 1) (drop (c.loop-number.number + 1) c.args.tables.now)) c.push_reserved-in-loop-number-2.ensures.items ∙ named_next c.args.tables.now c.loop-number.number c.index-tables-number.result c.loop-number.self.peopled.items c.loop-number-test.true c.index-tables-number.is some i.named;
      numbered = ap (λ (ns : List (Option ℕ)). ns ++ numbers_from k (drop (c.loop-number.number + 1) c.args.tables.now))
          (c.push_reserved-in-loop-number.ensures.items ∙ ap (λ (n : ℕ). c.loop-number.self.numbers.items ++ Some n ∷ []) c.len.ensures)
          ∙ number_some c.args.tables.now c.loop-number.number m k c.index-tables-number.result c.loop-number.self.numbers.items more c.loop-number-test.true c.index-tables-number.is some i.numbered;
      few = omega (arith, i.few, c.push_reserved-in-loop-number-2.ensures.len);
      few_numbers = omega (arith, i.few_numbers, c.push_reserved-in-loop-number.ensures.len);
      room = omega (arith, i.room, c.push_reserved-in-loop-number-2.ensures.capacity);
      room_numbers = omega (arith, i.room_numbers, c.push_reserved-in-loop-number.ensures.capacity);
      shapes = i.shapes;
      words = i.words;
    }

pub returns : goal.returns
returns c =
    let i = c.loop-number.invariant in
    record {
      found = found_other c.args.tables.now c.args.self.now c.loop-number.self (λ word. ap (λ ts. told_table ts word) i.words) i.room i.room_numbers (ap (λ ss. map kept_seen ss.items) i.shapes) c.requires;
      peopled = named_all c.args.tables.now c.loop-number.number c.loop-number.self.peopled.items (omega arith) i.named;
      numbers = numbers_all c.args.tables.now c.loop-number.number (vec_len c.loop-number.self.peopled) c.loop-number.self.numbers.items (omega arith) i.numbered;
    }
