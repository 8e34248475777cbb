-- A number is read from its digits, and an integer from its sign and its digits.
use Rattle.std.proofs.Common.{◌≡◌, ℕ, suc, ◌<◌, ◌^◌, ℤ, pos, negsuc, neg_ℤ, Option, Some, None, inl, inr, refl, sym, ap, subst, arith, w64}
use Rattle.std.proofs.lemmas.Fmt.{decimal_is_IsNumeral}
use Rattle.std.specs.Fmt.{decimal, signed_decimal}
use Rattle.std.specs.Prelude.{FitsSigned}
use Rattle.std.specs.Int.Signed.{mag}
use Rattle.parsing.specs.Integer.{IsInteger, IsNumber}
use Rattle.parsing.specs.Reads.{Reads}
use Rattle.tokens.specs.LongNumber.{IsLongNumber}

-- what a reader gives of a text that spells a value
pub read_as : {A T : Type 0} (Spells : A → T → Type 0) (text : T) (r : Option A) (x : A) → Spells x text → Reads Spells text r → r ≡ Some x
read_as Spells text None x spelled h = absurd (h x spelled)
read_as Spells text (Some y) x spelled h = ap Some (sym (h.1 x spelled))

pub read_none : {A T : Type 0} (Spells : A → T → Type 0) (text : T) (r : Option A) (x : A) → Spells x text → Reads Spells text r → r ≡ None → ⊥
read_none Spells text r x spelled h none = let some = read_as Spells text r x spelled h in cc

pub read_only : {A T : Type 0} (Spells : A → T → Type 0) (text : T) (r : Option A) (x y : A) → Spells x text → Reads Spells text r → r ≡ Some y → y ≡ x
read_only Spells text r x y spelled h e = let some = read_as Spells text r x spelled h in cc

-- digits
pub long_number : (n : ℕ) → n < 2 ^ 64 → IsLongNumber n (decimal n)
long_number n low = let d = decimal_is_IsNumeral n low in (d.0, low, sym d.1)

pub number : (n : ℕ) → n < 2 ^ 32 → IsNumber n (decimal n)
number n low = let d = decimal_is_IsNumeral n (omega (arith, low)) in (d.0, low, sym d.1)

-- a sign, where there is one, and digits
pub signed : (z : ℤ) → FitsSigned w64 z → mag z < 2 ^ 63 → IsInteger z (signed_decimal z)
signed (pos n) fits low = let d = decimal_is_IsNumeral n (omega (arith, low)) in (decimal n, d.0, fits, inl (refl, ap pos (sym d.1)))
signed (negsuc n) fits low =
    let d = decimal_is_IsNumeral (suc n) (omega (arith, low)) in
    (decimal (suc n), d.0, fits, inr (refl, subst (λ m. negsuc n ≡ neg_ℤ (pos m)) (sym d.1) refl))
