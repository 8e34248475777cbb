-- States that are kept by name.
use Rattle.std.specs.Prelude.{ℕ, Bool, ◌||◌, nat_lt, is_some, List, [], ◌∷◌, ◌++◌, length, position, set, Option, option_map, string_bytes}
use Rattle.std.specs.List.{find, remove}
use Rattle.std.specs.Option.{option_map_or}
use Rattle.std.specs.Str.{bytes_eq}
use Rattle.model.specs.state.State.{State}
use Rattle.session.specs.declared.marks.Mark.{Mark}

-- a name and the state that is kept under it
abbrev pub mark_of : Mark → List ℕ × State
mark_of mark = (string_bytes mark.name, mark.state)

-- whether it has a name
abbrev pub is_named : List ℕ → (List ℕ × State) → Bool
is_named name mark = bytes_eq mark.0 name

-- the state that is kept under a name
abbrev pub kept_at : List ℕ → List (List ℕ × State) → Option State
kept_at name marks = option_map (λ (mark : List ℕ × State). mark.1) (find (is_named name) marks)

-- whether a state is kept under a name
abbrev pub is_kept : List ℕ → List (List ℕ × State) → Bool
is_kept name marks = is_some (position (is_named name) marks)

-- whether a state can be kept under a name
abbrev pub can_keep : List ℕ → List (List ℕ × State) → Bool
can_keep name marks = is_kept name marks || nat_lt (length marks) 64

-- with a state under a name: in the place of the one that was, or behind the others
abbrev pub with_mark : List ℕ → State → List (List ℕ × State) → List (List ℕ × State)
with_mark name state marks = option_map_or (λ place. set marks place (name, state)) (position (is_named name) marks) (marks ++ (name, state) ∷ [])

-- without the state under a name
abbrev pub without : List ℕ → List (List ℕ × State) → List (List ℕ × State)
without name marks = option_map_or (remove marks) (position (is_named name) marks) marks
