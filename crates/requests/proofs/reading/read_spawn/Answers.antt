-- The text spells what its words do.
use Rattle.std.proofs.Common.{map}
use Rattle.std.proofs.lemmas.Result.{err_from_is_err_and}
use Rattle.model.specs.sessions.Inputs.Input.{Spawn}
use Rattle.parsing.proofs.Grammars.{only_by_words, only_seen}
use Rattle.body.specs.Inputs.{given_by}
use Rattle.requests.specs.Asked.Asked.{Put}
use Rattle.requests.specs.Grammar.{AreComponents, AreSpawned}
use Rattle.requests.proofs.Lines.{spawn_fault}
use Rattle.requests.proofs.reading.read_spawn.Goals as goal

pub returns-in_err-values-clause-err : goal.returns-in_err-values-clause-err
returns-in_err-values-clause-err c =
    let p = err_from_is_err_and c.from_residual-in_err-values.result c.from_residual-in_err-values.ensures.1 in
    rw (p.1, p.2) (spawn_fault _ c.args.text.now c.in_err-values.field-0.0 c.in_ok-words.ensures (rw c.as_slice.ensures.value at c.in_err-values.ensures.err))

pub returns-clause-ok : goal.returns-clause-ok
returns-clause-ok c =
    only_by_words AreSpawned c.args.text.now _ _ c.in_ok-words.ensures
    (only_seen (λ given. Put (Spawn given)) AreComponents _ (map given_by c.in_ok-values.values.items) (rw c.as_slice.ensures.value at c.in_ok-values.ensures.ok))
