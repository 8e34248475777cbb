use Rattle.std.proofs.Common.{List, map, rules}
use Rattle.query.specs.Grammar.{IsQuery}
use Rattle.query.specs.declared.query.Query.{Query}
use Rattle.program_file.specs.PlaceFault.{place_fault_of}
use Rattle.program_file.specs.Readings.{AreSpelled}
use Rattle.program_file.proofs.Refusals.{NoneIs-exit, spelled-refused}
use Rattle.program_file.proofs.Spelled.{AreSpelled-take}
use Rattle.program_file.proofs.readings.queries_of.Goals as goal

-- the next text is read
pub loop-text-preserved : goal.loop-text-preserved
loop-text-preserved c = record {
  spelled = AreSpelled-take IsQuery c.args.texts.now c.loop-text.text-index _ c.loop-text.queries.items _ c.in_ok-read.field-0 (search rules)
      c.loop-text-test.true c.loop-text.invariant.spelled c.in_ok-read.ensures;
  count = search rules;
}

-- a text spells none
pub returns-in_err-read-clause-refused : goal.returns-in_err-read-clause-refused
returns-in_err-read-clause-refused c =
    let texts = c.args.texts.now in
    NoneIs-exit (λ (all : List Query). AreSpelled IsQuery all (map (λ text. text.now) texts)) c.from_residual.result (place_fault_of c.in_err-read.field-0.0) c.from_residual.ensures.1
    (spelled-refused IsQuery texts c.loop-text.text-index _ c.in_err-read.field-0.0 c.loop-text-test.true c.in_err-read.ensures)
