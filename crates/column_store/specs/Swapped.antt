-- Lists from which an element is removed by moving the last one into its place.
use Rattle.std.specs.Prelude.{ℕ, List, [], ◌∷◌}
use Rattle.std.specs.List.{swap_remove}

-- the list without the element at an index, where the last one is now
abbrev pub swap_removed : {A : Type 0} → List A → ℕ → List A
swap_removed [] i = []
swap_removed (x ∷ xs) i = swap_remove (x ∷ xs) i x
