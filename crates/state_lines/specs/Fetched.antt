-- The line of a row from the components of its entity.
use Rattle.std.specs.Prelude.{ℕ, List, [], ◌∷◌, ◌++◌, flat_map}
use Rattle.std.specs.Fmt.{decimal}
use Rattle.model.specs.access.Query.{Term}
use Rattle.model.specs.shown.Input.{fetch, words_of}
use Rattle.model.specs.state.Rows.{cell_at}
use Rattle.model.specs.declared.entities.Entity.{Entity}
use Rattle.model.specs.state.State.{Component}
use Rattle.state_lines.specs.Looks.{fetched_text, term_text}

-- the component of a kind
abbrev pub text_of_kind : List Component → ℕ → List ℕ
text_of_kind row kind = fetched_text kind (words_of (cell_at row kind))

-- what a term fetches of a row
abbrev pub text_of_term : List Component → Term → List ℕ
text_of_term row term = term_text term (fetch row term)

-- what terms fetch of it
abbrev pub text_of_terms : List Component → List Term → List ℕ
text_of_terms row terms = flat_map (text_of_term row) terms

-- the line of an entity with what these terms fetch of its row
abbrev pub line_of_row : List Term → Entity → List Component → List ℕ
line_of_row terms e row = (decimal e.index ++ (118 ∷ decimal e.generation)) ++ text_of_terms row terms ++ 10 ∷ []
