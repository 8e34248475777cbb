-- A term of a query as the definitions have it: over the number of its kind; and what a term asks of kinds.
use Rattle.std.specs.Prelude.{ℕ, Bool, true, not}
use Rattle.std.specs.List.{list_any}
use Rattle.model.specs.access.Query.{Term as ModelTerm, holds_in}
use Rattle.kinds.specs.Kind.{kind_number}
use Rattle.query.specs.declared.term.Term.{Term}
use Rattle.query.specs.declared.term.Presence.{Presence}
use Rattle.query.specs.declared.term.Presence.TheVariants.{Free, Has, Lacks, AnyOf}
use Rattle.query.specs.declared.term.Term.TheVariants.{Entity, Read, Mut, Opt, With, Without, Added, Changed, Or}
use Rattle.query.specs.Alternative.{alternatives_of}

-- the term that the definitions speak of
abbrev pub term_of : Term → ModelTerm
term_of Entity = ModelTerm.Entity
term_of (Read kind) = ModelTerm.Read (kind_number kind)
term_of (Mut kind) = ModelTerm.Mut (kind_number kind)
term_of (Opt kind) = ModelTerm.Opt (kind_number kind)
term_of (With kind) = ModelTerm.With (kind_number kind)
term_of (Without kind) = ModelTerm.Without (kind_number kind)
term_of (Added kind) = ModelTerm.Added (kind_number kind)
term_of (Changed kind) = ModelTerm.Changed (kind_number kind)
term_of (Or alternatives) = ModelTerm.AnyOf (alternatives_of alternatives)

-- whether a set of kinds has what is asked of it
abbrev pub is_present : (ℕ → Bool) → Presence → Bool
is_present kinds Free = true
is_present kinds (Has kind) = kinds (kind_number kind)
is_present kinds (Lacks kind) = not (kinds (kind_number kind))
is_present kinds (AnyOf alternatives) = list_any (holds_in kinds) (alternatives_of alternatives)
