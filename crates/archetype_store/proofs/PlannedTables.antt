-- Tables where rows can be changed: some may be made, and some have other room.
use Rattle.archetype_store.proofs.Common.{◌≡◌, ℕ, List, map, Option, refl, AllByRecursion, each-weaker, TableValue, EntityLocation, RowMove, archetypes_of, place_of, AreAlike, IsPlanned, shape_of, AreAllAlike, IsGrown}
use Rattle.archetype_store.proofs.TableGrowth.{planned_alike}
use Rattle.archetype_store.proofs.SingleRowMove.{alike_trans}
use Rattle.archetype_store.proofs.RowMoves.{planned_rest}
use Rattle.archetype_store.proofs.ColumnStandings.{alike_value, value_alike}

-- what is planned doesn't ask for rooms
pub planned_shapes : (T T' : List TableValue) (P : List (Option EntityLocation)) (ms : List RowMove) → map shape_of T' ≡ map shape_of T → AllByRecursion (IsPlanned T P) ms → AllByRecursion (IsPlanned T' P) ms
planned_shapes T T' P ms shapes h = each-weaker (IsPlanned T P) (IsPlanned T' P) (λ m plan. planned_rest T T' P P m shapes refl plan refl) ms h

module _ (T T1 T2 : List TableValue) (P P1 : List (Option EntityLocation)) (grown : IsGrown T T1) (same : (i : ℕ) → place_of P1 i ≡ place_of P i)
    (shapes : map shape_of T2 ≡ map shape_of T1) (alike : AreAllAlike T1 T2) where
  pub ready_rows : AreAlike (archetypes_of T P) (archetypes_of T2 P1)
  ready_rows = alike_trans (archetypes_of T P) (archetypes_of T1 P1) (archetypes_of T2 P1) (planned_alike T T1 P P1 grown same) (value_alike (archetypes_of T1 P1) (archetypes_of T2 P1) (alike_value T1 T2 P1 alike))
