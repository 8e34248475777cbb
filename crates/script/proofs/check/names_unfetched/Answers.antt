-- The kinds by number are those by themselves.
use Rattle.std.proofs.Common.{ap, ◌∙◌, sym, map}
use Rattle.std.specs.List.{list_any}
use Rattle.query.specs.Term.{term_of}
use Rattle.query.proofs.Terms.{list_any-map}
use Rattle.kinds.specs.Kind.{kind_number}
use Rattle.script.specs.Faults.{is_unfetched}
use Rattle.script.proofs.check.names_unfetched.Goals as goal

pub returns : goal.returns
returns c =
    c.any_unfetched.ensures ∙ (sym (list_any-map (is_unfetched (map term_of c.args.terms.now) c.args.named) kind_number c.every.result.now)
    ∙ ap (list_any (is_unfetched (map term_of c.args.terms.now) c.args.named)) c.every.ensures)
