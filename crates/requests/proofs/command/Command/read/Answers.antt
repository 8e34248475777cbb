-- What is neither `spawn` nor `query` is read from its words.
use Rattle.std.proofs.Common.{sym, subst}
use Rattle.std.specs.Result.{IfOk, IfErr}
use Rattle.parsing.specs.Reads.{SpellsOnly, SpellsNone}
use Rattle.parsing.proofs.Grammars.{only_by_words, none_by_words}
use Rattle.requests.specs.Asked.{asked_of}
use Rattle.requests.specs.Grammar.{AreArguments, Asks}
use Rattle.requests.specs.Faults.{IsAskFault}
use Rattle.requests.proofs.Lines.{asks_by_words}
use Rattle.requests.proofs.command.Command.read.Goals as goal

pub returns-in-Query-clause-ok : goal.returns-in-Query-clause-ok
returns-in-Query-clause-ok c = subst (λ which. IfOk c.read_rows.result (λ request. SpellsOnly (Asks which) c.args.text.now (asked_of request))) (sym c.in-Query.is) c.read_rows.ensures.ok

pub returns-in-Query-clause-err : goal.returns-in-Query-clause-err
returns-in-Query-clause-err c = subst (λ which. IfErr c.read_rows.result (IsAskFault which c.args.text.now)) (sym c.in-Query.is) c.read_rows.ensures.err

pub returns-in-Spawn-clause-ok : goal.returns-in-Spawn-clause-ok
returns-in-Spawn-clause-ok c = subst (λ which. IfOk c.read_spawn.result (λ request. SpellsOnly (Asks which) c.args.text.now (asked_of request))) (sym c.in-Spawn.is) c.read_spawn.ensures.ok

pub returns-in-Spawn-clause-err : goal.returns-in-Spawn-clause-err
returns-in-Spawn-clause-err c = subst (λ which. IfErr c.read_spawn.result (IsAskFault which c.args.text.now)) (sym c.in-Spawn.is) c.read_spawn.ensures.err

pub returns-in-Some : goal.returns-in-Some
returns-in-Some c = record {
  ok = subst (λ Spells. SpellsOnly Spells c.args.text.now (asked_of c.in-Some.request)) (sym (asks_by_words c.args.self c.in_default.not-Query c.in_default.not-Spawn))
      (only_by_words (AreArguments c.args.self) c.args.text.now _ _ c.in_ok-words-in_default.ensures (rw c.as_slice.ensures.value at c.in-Some.ensures));
  err = tt;
}

pub returns : goal.returns
returns c = record {
  ok = tt;
  err = (
    subst (λ Spells. SpellsNone Spells c.args.text.now) (sym (asks_by_words c.args.self c.in_default.not-Query c.in_default.not-Spawn))
        (none_by_words (AreArguments c.args.self) c.args.text.now _ c.in_ok-words-in_default.ensures (rw c.as_slice.ensures.value at c.in-None.ensures)),
    λ query. absurd (c.in_default.not-Query query),
  );
}
