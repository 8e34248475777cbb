-- Numbers in decimal digits, as a relation and as a test.
use Rattle.std.proofs.Common.{◌≡◌, ◌<◌, ◌≤◌, ◌^◌, ℕ, Bool, true, false, List, [], ◌∷◌, None, refl, arith}
use Rattle.std.specs.Prelude.{nat_le, nat_lt}
use Rattle.std.specs.List.{list_all}
use Rattle.std.specs.Char.{digit_value}
use Rattle.std.specs.Str.Parse.{AllDigits, IsNumeral, digits_value}
use Rattle.std.proofs.lemmas.Bool.{and_from, and_parts, leb-true, lt-ltb, ltb-true}
use Rattle.clap.specs.ValueTests.{is_numeral}
use Rattle.parsing.specs.Integer.{IsNumber}
use Rattle.parsing.specs.Reads.{SpellsNone}
use Rattle.command_line.specs.Values.{if_between, number_between}

abbrev is_digit : ℕ → Bool
is_digit d = nat_lt (digit_value d) 10

digits_pass : (ds : List ℕ) → AllDigits 10 ds → list_all is_digit ds ≡ true
digits_pass [] h = refl
digits_pass (d ∷ ds) h = and_from _ _ (lt-ltb _ _ h.0) (digits_pass ds h.1)

digits_passed : (ds : List ℕ) → list_all is_digit ds ≡ true → AllDigits 10 ds
digits_passed [] e = tt
digits_passed (d ∷ ds) e =
    let parts = and_parts _ _ e in
    (ltb-true _ _ parts.0, digits_passed ds parts.1)

numeral_passes : (ds : List ℕ) → IsNumeral 10 ds → is_numeral ds ≡ true
numeral_passes ds h = and_from _ _ (lt-ltb _ _ h.0) (digits_pass ds h.1)

numeral_passed : (ds : List ℕ) → is_numeral ds ≡ true → IsNumeral 10 ds
numeral_passed ds e =
    let parts = and_parts _ _ e in
    (ltb-true _ _ parts.0, digits_passed ds parts.1)

-- a text that spells no number of 32 bits spells none of those up to another such number
pub none_between : (least most : ℕ) (text : List ℕ) → most < 2 ^ 32 → SpellsNone IsNumber text → number_between least most text ≡ None
none_between least most text fits none = go (is_numeral text) (nat_le least (digits_value 10 text)) (nat_le (digits_value 10 text) most) refl refl refl
  where
    go : (a b c : Bool) → is_numeral text ≡ a → nat_le least (digits_value 10 text) ≡ b → nat_le (digits_value 10 text) most ≡ c → number_between least most text ≡ None
    go false b c e f g = rw e refl
    go true false c e f g = rw (e, f) refl
    go true true false e f g = rw (e, f, g) refl
    go true true true e f g =
        let high : digits_value 10 text ≤ most = leb-true _ _ g in
        absurd (none (digits_value 10 text) (numeral_passed text e, omega (arith, high, fits), refl))

-- a text that spells one spells it where it is one of those
pub spelled_between : (least most : ℕ) (text : List ℕ) (n : ℕ) → IsNumber n text → number_between least most text ≡ if_between least most n
spelled_between least most text n is = rw (numeral_passes text is.0, is.2) refl
