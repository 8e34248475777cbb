use Rattle.std.proofs.Common.{◌≡◌, ◌∙◌, sym, subst, Result, Ok, Err}
use Rattle.std.specs.Prelude.{IfErr, IsErrAnd}
use Rattle.std.proofs.lemmas.Result.{IfErr-weaker, IfOk-weaker}
use Rattle.ecsplay.specs.Asked.{asked_by, ecsplay_program}
use Rattle.command_line.specs.Grammar.{IsNoWork}
use Rattle.command_line.specs.declared.args.LineFault.{LineFault}
use Rattle.command_line.proofs.Asking.{asked_found, idle_line, unmatched_line}
use Rattle.ecsplay.proofs.Lines.{commands_are_simple}
use Rattle.ecsplay.proofs.args.Args.read.Goals as goal

pub returns-in_err-matches-clause-err : goal.returns-in_err-matches-clause-err
returns-in_err-matches-clause-err c =
    go (IsNoWork asked_by ecsplay_program c.args.words.now) c.from_residual.result c.from_residual.ensures.1 (unmatched_line asked_by c.grammar-grammar.result ecsplay_program c.args.words.now c.in_err-matches.field-0.0 c.in_err-matches.ensures.err c.grammar-grammar.ensures commands_are_simple)
  where
    go : {T : Type 0} {x : LineFault} (Q : LineFault → Type 0) (r : Result T LineFault) → IsErrAnd r (λ fault. fault ≡ x) → Q x → IfErr r Q
    go Q (Err fault) h q = subst Q (sym h) q
    go Q (Ok t) h q = absurd h

pub returns-clause-ok : goal.returns-clause-ok
returns-clause-ok c =
    IfOk-weaker c.of_matches.result _ _ (λ args h. asked_found asked_by c.grammar-grammar.result ecsplay_program c.args.words.now c.in_ok-matches.matches c.in_ok-matches.ensures.ok c.grammar-grammar.ensures commands_are_simple ∙ h) c.of_matches.ensures.ok

pub returns-clause-err : goal.returns-clause-err
returns-clause-err c =
    IfErr-weaker c.of_matches.result _ _ (λ fault h. idle_line asked_by c.grammar-grammar.result ecsplay_program c.args.words.now c.in_ok-matches.matches fault c.in_ok-matches.ensures.ok c.grammar-grammar.ensures commands_are_simple h) c.of_matches.ensures.err
