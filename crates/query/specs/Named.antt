-- The kinds that terms name, each in its way: as required, fetched, excluded.
use Rattle.std.specs.Prelude.{ℕ, Bool, ◌&&◌, List, Option}
use Rattle.std.specs.List.{list_any}
use Rattle.model.specs.Lists.{is_number}
use Rattle.model.specs.access.Query.{Term as ModelTerm}
use Rattle.model.specs.access.QueryFaults.{excluded}
use Rattle.query.specs.declared.term.Term.{Term}
use Rattle.query.specs.Term.{term_of}

-- whether some of the terms names the kind
abbrev pub any_names : (ModelTerm → Option ℕ) → List Term → ℕ → Bool
any_names named terms kind = list_any (λ t. is_number kind (named (term_of t))) terms

-- whether some of the terms names the kind, and some excludes it
abbrev pub names_excluded : (ModelTerm → Option ℕ) → List Term → ℕ → Bool
names_excluded named terms kind = any_names named terms kind && any_names excluded terms kind
