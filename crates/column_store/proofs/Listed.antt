-- What the inside of a list of entities is after one more or one less.
use Rattle.column_store.proofs.Common.{◌≡◌, ℕ, ◌+◌, ◌-◌, ◌<◌, ◌≤◌, Bool, true, false, not, cond, ◌==◌, List, [], ◌∷◌, ◌++◌, length, take, set, get_or, None, Option, sym, ap, subst, ◌∙◌, arith, Vec, Global, Arc, eqb-true, length_push, Entity, GapListValue, row_limit, IsCopy, IsKept, IsEntityList, is_same, AreApart, AreRising, IsNowhere, IsOrderOf, swap_removed}
use Rattle.std.proofs.lemmas.List.{take-set-le}
use Rattle.column_store.proofs.Kept.{apart-push, apart-swap}
use Rattle.column_store.proofs.Rising.{rising-take}
use Rattle.column_store.proofs.Swapped.{length-swap_removed}

-- as many numbers as rows, or none
pub few_numbers : (listed : Bool) (n m : ℕ) → m ≡ cond listed n 0 → m ≤ n
few_numbers true n m h = omega arith
few_numbers false n m h = omega arith

pub none_behind : (es : List Entity) (e : Entity) → length es ≡ 0 → AreRising (es ++ e ∷ [])
none_behind [] e l = (tt, tt)
none_behind (x ∷ xs) e l = absurd (omega arith)

none_rising : (es : List Entity) → length es ≡ 0 → AreRising es
none_rising [] l = tt
none_rising (x ∷ xs) l = absurd (omega arith)

module _ (es es' : List Entity) (listed : Bool) (numbers : GapListValue) where
  pub pushed_listed : (e : Entity) → AreApart es → IsNowhere (λ x. is_same x e) es → es' ≡ es ++ e ∷ [] → listed ≡ true → IsOrderOf (es ++ e ∷ []) numbers.items → length numbers.items ≡ length es + 1 →
      length es + 1 ≤ numbers.room → length es + 1 ≤ row_limit → IsEntityList es' listed numbers None
  pushed_listed e apart absent is on order many room few =
      let long : length es' ≡ length es + 1 = ap length is ∙ length_push es e in
      record {
        apart = subst AreApart (sym is) (apart-push e es apart absent);
        kept = subst (λ b. IsKept es' b numbers.items) (sym on) (subst (λ xs. IsOrderOf xs numbers.items) (sym is) order);
        as_many = many ∙ sym long ∙ ap (λ b. cond b (length es') 0) (sym on);
        room = omega arith;
        few = omega arith;
        copied = tt;
      }

  pub pushed_rising : (e : Entity) (copy : Option (Arc (Vec Entity Global) Global)) → AreApart es → IsNowhere (λ x. is_same x e) es → es' ≡ es ++ e ∷ [] → listed ≡ false → AreRising (es ++ e ∷ []) →
      length numbers.items ≡ cond listed (length es) 0 → length es + 1 ≤ numbers.room → length es + 1 ≤ row_limit → copy ≡ None → IsEntityList es' listed numbers copy
  pushed_rising e copy apart absent is off rising many room few none =
      let long : length es' ≡ length es + 1 = ap length is ∙ length_push es e in
      record {
        apart = subst AreApart (sym is) (apart-push e es apart absent);
        kept = subst (λ b. IsKept es' b numbers.items) (sym off) (subst AreRising (sym is) rising);
        as_many = many ∙ ap (λ b. cond b (length es) 0) off ∙ ap (λ b. cond b (length es') 0) (sym off);
        room = omega arith;
        few = omega arith;
        copied = subst (IsCopy es') (sym none) tt;
      }

  module _ (row : ℕ) (apart : AreApart es) (within : row < length es) (is : es' ≡ swap_removed es row) where
    shorter : length es' + 1 ≡ length es
    shorter = ap (λ xs. length xs + 1) is ∙ length-swap_removed es row within

    pub removed_listed : (empty : Bool) → empty ≡ (length numbers.items == 0) → listed ≡ not empty → IsOrderOf (swap_removed es row) numbers.items → length numbers.items + 1 ≡ length es →
        length es ≤ numbers.room → length es ≤ row_limit → IsEntityList es' listed numbers None
    removed_listed empty test on order many room few =
        let less = shorter in
        record {
          apart = subst AreApart (sym is) (apart-swap es row apart within);
          kept = subst (λ b. IsKept es' b numbers.items) (sym on) (kept empty test);
          as_many = as_many empty test ∙ ap (λ b. cond b (length es') 0) (sym on);
          room = omega arith;
          few = omega arith;
          copied = tt;
        }
      where
        kept : (b : Bool) → b ≡ (length numbers.items == 0) → IsKept es' (not b) numbers.items
        kept true t = none_rising es' (let less = shorter in let none = eqb-true (length numbers.items) 0 (sym t) in omega arith)
        kept false t = subst (λ xs. IsOrderOf xs numbers.items) (sym is) order

        as_many : (b : Bool) → b ≡ (length numbers.items == 0) → length numbers.items ≡ cond (not b) (length es') 0
        as_many true t = eqb-true (length numbers.items) 0 (sym t)
        as_many false t = (let less = shorter in omega arith)

    pub removed_rising : (copy : Option (Arc (Vec Entity Global) Global)) → listed ≡ false → AreRising es → row + 1 ≡ length es → length numbers.items ≡ cond listed (length es) 0 →
        length es ≤ numbers.room → length es ≤ row_limit → copy ≡ None → IsEntityList es' listed numbers copy
    removed_rising copy off rising last many room few none =
        let less = shorter in
        record {
          apart = subst AreApart (sym is) (apart-swap es row apart within);
          kept = subst (λ b. IsKept es' b numbers.items) (sym off) (subst AreRising (sym (is ∙ last_removed es row last)) (rising-take row es rising));
          as_many = many ∙ ap (λ b. cond b (length es) 0) off ∙ ap (λ b. cond b (length es') 0) (sym off);
          room = omega arith;
          few = omega arith;
          copied = subst (IsCopy es') (sym none) tt;
        }
      where
        last_removed : (xs : List Entity) (i : ℕ) → i + 1 ≡ length xs → swap_removed xs i ≡ take i xs
        last_removed [] i l = absurd (omega arith)
        last_removed (x ∷ xs) i l =
            let less : length (x ∷ xs) - 1 ≡ i = omega arith in
            ap (λ m. take m (set (x ∷ xs) i (get_or (x ∷ xs) m x))) less
            ∙ take-set-le i (x ∷ xs) i (get_or (x ∷ xs) i x) (omega arith)
