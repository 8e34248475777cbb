-- What is at a place of a column of packed components.
use Rattle.column_store.proofs.Common.{◌≡◌, ℕ, suc, zero, ◌<◌, ℤ, List, [], ◌∷◌, length, get_or, map, Some, sym, ap, subst, ◌∙◌, arith, slice_get, length-map, Packs, words_in, ColumnWords}

-- what a function makes of an element that was read
got-mapped : {A B : Type 0} (f : A → B) (xs : List A) (i : ℕ) (x : A) (r : B) → i < length xs → x ≡ get_or xs i x → r ≡ f x → slice_get (map f xs) i ≡ Some r
got-mapped f [] i x r l at is = absurd (omega arith)
got-mapped f (y ∷ ys) zero x r l at is = ap Some (sym (is ∙ ap f at))
got-mapped f (y ∷ ys) (suc i) x r l at is = got-mapped f ys i x r (omega arith) at is

-- the words at a place are those of the component there
pub packed-there : {A : Type 0} (f : A → List ℤ) (packs : Packs) (xs : List A) (kind room : ℕ) (seen : ColumnWords) (i : ℕ) (x : A) (r : List ℤ) → words_in packs ≡ map f xs →
    (let v : ColumnWords = record { kind = kind; words = words_in packs; room = room } in v) ≡ seen → i < length seen.words → x ≡ get_or xs i x → r ≡ f x → slice_get seen.words i ≡ Some r
packed-there f packs xs kind room seen i x r e is l at rs =
    let same : seen.words ≡ map f xs = sym (ap (λ (v : ColumnWords). v.words) is) ∙ e in
    ap (λ ws. slice_get ws i) same ∙ got-mapped f xs i x r (subst (λ n. i < n) (ap length same ∙ length-map xs f) l) at rs
