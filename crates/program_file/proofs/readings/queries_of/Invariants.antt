use Rattle.std.proofs.Common.{◌≡◌, map, take, vec_len}
use Rattle.query.specs.Grammar.{IsQuery}
use Rattle.program_file.specs.Readings.{AreSpelled}
use Rattle.program_file.proofs.readings.queries_of.Given as goal

-- the texts so far are read
abbrev pub invariant-loop-text : goal.invariant-loop-text
invariant-loop-text l = record {
  spelled : AreSpelled IsQuery l.queries.items (map (λ text. text.now) (take l.text-index l.texts));
  count : vec_len l.queries ≡ l.text-index;
}
