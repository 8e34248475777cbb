-- Resources that are read one after the other.
use Rattle.std.proofs.Common.{◌≡◌, ℕ, zero, suc, ◌+◌, ◌<◌, List, [], ◌∷◌, ◌++◌, length, take, drop, get_or, Some, add-one, refl, ap, sym, ◌∙◌, arith}
use Rattle.kinds.specs.declared.res.Res.{Res}
use Rattle.kinds.specs.Res.{res_number, every_res}
use Rattle.model.specs.Lists.{update_at}
use Rattle.model.specs.state.State.{Resource, no_resource}
use Rattle.model.specs.shown.Overlay.{resource_after}

-- the resource at a place has this number
pub number_is : (i : ℕ) (d : Res) → i < 8 → res_number (get_or every_res i d) ≡ i
number_is zero d low = refl
number_is (suc zero) d low = refl
number_is (suc (suc zero)) d low = refl
number_is (suc (suc (suc zero))) d low = refl
number_is (suc (suc (suc (suc zero)))) d low = refl
number_is (suc (suc (suc (suc (suc zero))))) d low = refl
number_is (suc (suc (suc (suc (suc (suc zero)))))) d low = refl
number_is (suc (suc (suc (suc (suc (suc (suc zero))))))) d low = refl
number_is (suc (suc (suc (suc (suc (suc (suc (suc i)))))))) d low = absurd (omega (arith, low))

-- the next one is set
set_at : (rs old : List Resource) (i : ℕ) → i < length rs → length rs ≡ length old
    → update_at i (resource_after (get_or rs i no_resource).changed (Some (get_or rs i no_resource).value)) (take i rs ++ drop i old) ≡ take (suc i) rs ++ drop (suc i) old
set_at [] old i low many = absurd (omega (arith, low))
set_at (r ∷ rs) [] i low many = absurd (omega (arith, many))
set_at (r ∷ rs) (o ∷ old) zero low many = refl
set_at (r ∷ rs) (o ∷ old) (suc i) low many = ap (λ xs. r ∷ xs) (set_at rs old i (omega (arith, low)) (omega (arith, many)))

pub set_next : (rs old : List Resource) (i n : ℕ) → n ≡ i → i < length rs → length rs ≡ length old
    → update_at n (resource_after (get_or rs n no_resource).changed (Some (get_or rs n no_resource).value)) (take i rs ++ drop i old) ≡ take (i + 1) rs ++ drop (i + 1) old
set_next rs old i n same low many =
    ap (λ k. update_at k (resource_after (get_or rs k no_resource).changed (Some (get_or rs k no_resource).value)) (take i rs ++ drop i old)) same
    ∙ set_at rs old i low many ∙ ap (λ k. take k rs ++ drop k old) (sym (add-one i))
