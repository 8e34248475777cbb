-- The words of what a column holds for a row.
use Rattle.std.specs.Prelude.{ℤ, List, [], ◌∷◌}
use Rattle.column_store.specs.declared.packed.Mark.{Mark}
use Rattle.column_store.specs.declared.packed.Amount.{Amount}
use Rattle.column_store.specs.declared.packed.Pair.{Pair}

abbrev pub mark_words : Mark → List ℤ
mark_words p = []

abbrev pub amount_words : Amount → List ℤ
amount_words p = p.v ∷ []

abbrev pub pair_words : Pair → List ℤ
pair_words p = p.x ∷ p.y ∷ []
