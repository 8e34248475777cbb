use Rattle.std.proofs.Common.{List, map, refl, rules}
use Rattle.std.specs.List.{AllZip}
use Rattle.query.specs.Grammar.{IsQuery}
use Rattle.query.specs.declared.query.Query.{Query}
use Rattle.run_condition.specs.Grammar.{IsCondition}
use Rattle.run_condition.specs.declared.cond.Cond.{Cond}
use Rattle.script.specs.declared.instruction.Instruction.{Instruction}
use Rattle.program_file.specs.PlaceFault.{IsNoValue, NoneIs}
use Rattle.program_file.specs.Readings.{AreSpelled}
use Rattle.program_file.specs.Tables.{AreTextsOf, IsCodeOf}
use Rattle.program_file.proofs.Refusals.{NoneIs-part}
use Rattle.program_file.proofs.program_file.read_system.Goals as goal
use Rattle.model.proofs.lists.Results.{handed_on}

-- each text is read, and the rest is as it was
pub returns-clause-ok : goal.returns-clause-ok
returns-clause-ok c = record {
  item = c.in_ok-table.ensures.ok;
  queries = search rules;
  res = refl;
  res_mut = refl;
  reads = refl;
  writes = refl;
  spawns = refl;
  blocks = search rules;
}

-- or a condition, a query or an instruction is none
pub returns-in_err-table-clause-only : goal.returns-in_err-table-clause-only
returns-in_err-table-clause-only c = handed_on IsNoValue c.from_residual.result c.in_err-table.field-0.0 c.from_residual.ensures.1 c.in_err-table.ensures.only

pub returns-in_err-table-clause-refused : goal.returns-in_err-table-clause-refused
returns-in_err-table-clause-refused c =
    let texts = c.args.texts in
    let fault = c.in_err-table.field-0.0 in
    handed_on (NoneIs (AreTextsOf texts)) c.from_residual.result fault c.from_residual.ensures.1
    (NoneIs-part (λ (conditions : List Cond). AreSpelled IsCondition conditions (map (λ text. text.now) texts.item.conditions.items)) (AreTextsOf texts) fault (λ spelled h. (spelled.0, h.conditions)) c.in_err-table.ensures.refused)

pub returns-in_err-asked-clause-only : goal.returns-in_err-asked-clause-only
returns-in_err-asked-clause-only c = handed_on IsNoValue c.from_residual-in_err-asked.result c.in_err-asked.field-0.0 c.from_residual-in_err-asked.ensures.1 c.in_err-asked.ensures.only

pub returns-in_err-asked-clause-refused : goal.returns-in_err-asked-clause-refused
returns-in_err-asked-clause-refused c =
    let texts = c.args.texts in
    let fault = c.in_err-asked.field-0.0 in
    handed_on (NoneIs (AreTextsOf texts)) c.from_residual-in_err-asked.result fault c.from_residual-in_err-asked.ensures.1
    (NoneIs-part (λ (queries : List Query). AreSpelled IsQuery queries (map (λ text. text.now) texts.queries.items)) (AreTextsOf texts) fault (λ spelled h. (spelled.1, h.queries)) (search rules))

pub returns-in_err-code-clause-only : goal.returns-in_err-code-clause-only
returns-in_err-code-clause-only c = handed_on IsNoValue c.from_residual-in_err-code.result c.in_err-code.field-0.0 c.from_residual-in_err-code.ensures.1 c.in_err-code.ensures.only

pub returns-in_err-code-clause-refused : goal.returns-in_err-code-clause-refused
returns-in_err-code-clause-refused c =
    let texts = c.args.texts in
    let fault = c.in_err-code.field-0.0 in
    handed_on (NoneIs (AreTextsOf texts)) c.from_residual-in_err-code.result fault c.from_residual-in_err-code.ensures.1
    (NoneIs-part (λ (code : List (List Instruction)). AllZip IsCodeOf texts.blocks.items code) (AreTextsOf texts) fault (λ spelled h. (spelled.2, h.code)) (search rules))
