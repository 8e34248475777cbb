use Rattle.std.proofs.Common.{◌≡◌, List, None, subst, rules}
use Rattle.std.proofs.lemmas.Iterator.Adapters.{YieldsList-from_vec}
use Rattle.std.proofs.lemmas.Iterator.Consumers.{YieldsList-turn}
use Rattle.parsing.specs.Reads.{Reads}
use Rattle.toml.specs.View.{table_view}
use Rattle.kinds.specs.Res.{res_name, IsRes}
use Rattle.kinds.specs.declared.res.Res.{Res}
use Rattle.program_file.specs.Keys.{HasResources}
use Rattle.program_file.proofs.Refusals.{NoneIs-exit, named-refused}
use Rattle.program_file.proofs.keys.resources_at.Goals as goal

-- a text is the name of no resource
pub returns-in_err-ok_or-clause-refused : goal.returns-in_err-ok_or-clause-refused
returns-in_err-ok_or-clause-refused c =
    let key = c.args.key.now in
    let owner = table_view c.args.table.now in
    let names = c.in_ok-name-items.name-items in
    let turn = YieldsList-turn (YieldsList-from_vec {s = c.into_iter-name-iterator.result} names.items (search rules) (search rules)) c.loop-name.yielded c.loop-name.name-iterator c.loop-name.yielded_by c.next.result c.next.new.self c.in-Some.name c.in-Some.is c.next.ensures.steps in
    let none : c.named.result ≡ None = search rules in
    NoneIs-exit (λ (all : List Res). HasResources key all owner) c.from_residual-in_err-ok_or.result c.in_err-ok_or.field-0.0 c.from_residual-in_err-ok_or.ensures.1
    (named-refused res_name key owner names.items _ c.in-Some.name c.in-Some.name c.in_err-ok_or.field-0.0
    c.in_ok-name-items.ensures.ok turn.0 turn.1 (subst (Reads IsRes c.in-Some.name.now) none c.named.ensures))
