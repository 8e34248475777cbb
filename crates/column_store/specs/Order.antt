-- The order of entities: by index, then by generation.
use Rattle.std.specs.Prelude.{◌≡◌, ℕ, Bool, true, ◌||◌, ◌&&◌, ◌==◌, nat_lt, List, [], ◌∷◌, slice_get, Some}
use Rattle.std.specs.List.{AllByRecursion}
use Rattle.model.specs.declared.entities.Entity.{Entity}

-- whether an id comes before another
abbrev pub is_before : Entity → Entity → Bool
is_before x y = nat_lt x.index y.index || ((x.index == y.index) && nat_lt x.generation y.generation)

-- whether two ids are one
abbrev pub is_same : Entity → Entity → Bool
is_same x y = (x.index == y.index) && (x.generation == y.generation)

-- ids of which each comes before those after it
abbrev pub AreRising : List Entity → Type 0
AreRising [] = Unit {0}
AreRising (x ∷ xs) = AllByRecursion (λ y. is_before x y ≡ true) xs × AreRising xs

-- ids of which none is there twice
abbrev pub AreApart : List Entity → Type 0
AreApart entities = (p q : ℕ) (e : Entity) → slice_get entities p ≡ Some e → slice_get entities q ≡ Some e → p ≡ q
