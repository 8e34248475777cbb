use Rattle.std.proofs.Common.{refl, ap, ◌∙◌}
use Rattle.query.proofs.KindTerms.{term_with, only_with, none_with}
use Rattle.query.proofs.term.Term.of_kind.Goals as goal

pub returns-in-read : goal.returns-in-read
returns-in-read c = ((c.in-read.is, refl), λ v h. only_with c.prove_kinds_apart.ensures.names c.args.kind c.args.word.now v h ∙ ap (term_with c.args.kind) c.in-read.is)

pub returns-in-mut : goal.returns-in-mut
returns-in-mut c = ((c.in-mut.is, refl), λ v h. only_with c.prove_kinds_apart.ensures.names c.args.kind c.args.word.now v h ∙ ap (term_with c.args.kind) c.in-mut.is)

pub returns-in-opt : goal.returns-in-opt
returns-in-opt c = ((c.in-opt.is, refl), λ v h. only_with c.prove_kinds_apart.ensures.names c.args.kind c.args.word.now v h ∙ ap (term_with c.args.kind) c.in-opt.is)

pub returns-in-with : goal.returns-in-with
returns-in-with c = ((c.in-with.is, refl), λ v h. only_with c.prove_kinds_apart.ensures.names c.args.kind c.args.word.now v h ∙ ap (term_with c.args.kind) c.in-with.is)

pub returns-in-without : goal.returns-in-without
returns-in-without c = ((c.in-without.is, refl), λ v h. only_with c.prove_kinds_apart.ensures.names c.args.kind c.args.word.now v h ∙ ap (term_with c.args.kind) c.in-without.is)

pub returns-in-added : goal.returns-in-added
returns-in-added c = ((c.in-added.is, refl), λ v h. only_with c.prove_kinds_apart.ensures.names c.args.kind c.args.word.now v h ∙ ap (term_with c.args.kind) c.in-added.is)

pub returns-in-changed : goal.returns-in-changed
returns-in-changed c = ((c.in-changed.is, refl), λ v h. only_with c.prove_kinds_apart.ensures.names c.args.kind c.args.word.now v h ∙ ap (term_with c.args.kind) c.in-changed.is)

pub returns-in_default : goal.returns-in_default
returns-in_default c =
    none_with c.args.kind c.args.word.now c.in_default.not-read c.in_default.not-mut c.in_default.not-opt c.in_default.not-with
    c.in_default.not-without c.in_default.not-added c.in_default.not-changed
