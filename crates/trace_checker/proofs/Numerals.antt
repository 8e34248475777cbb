-- Numbers as they are printed, and as they are read.
use Rattle.std.proofs.Common.{◌≡◌, ℕ, zero, suc, ◌<◌, ◌^◌, List, [], ◌∷◌, Option, Some, None, length, get_or, refl, sym, ap, subst, ◌∙◌, arith}
use Rattle.std.proofs.lemmas.Fmt.{decimal_is_IsNumeral, first_decimal, decimal-digits_value, decimal_injective, decimal_nonempty, length-decimal-le, IsAscii-decimal}
use Rattle.std.proofs.lemmas.Str.{IsUtf8-from_ascii}
use Rattle.std.proofs.lemmas.Str.Parse.{numerals_by_value, tells_digits}
use Rattle.std.specs.Fmt.{decimal}
use Rattle.std.specs.Str.{IsUtf8}
use Rattle.std.specs.Str.Parse.{AllDigits, digits_value}
use Rattle.parsing.specs.Integer.{IsNumber}
use Rattle.parsing.specs.Reads.{SpellsNone, SpellsOnly, Reads}
use Rattle.trace_checker.specs.Grammar.{IsNumeralOf}

-- a number of 32 bits has 64
pub wide : (n : ℕ) → n < 2 ^ 32 → n < 2 ^ 64
wide n below = omega (arith, below)

-- one number has a text
pub same_number : (m n : ℕ) (bytes : List ℕ) → IsNumeralOf m bytes → IsNumeralOf n bytes → m ≡ n
same_number m n bytes a b = decimal_injective m n (wide m a.0) (wide n b.0) (sym a.1 ∙ b.1)

-- what is printed is a numeral of digits
pub printed_number : (n : ℕ) (bytes : List ℕ) → IsNumeralOf n bytes → IsNumber n bytes
printed_number n bytes h =
    let d = decimal_is_IsNumeral n (wide n h.0) in
    rw h.1 (d.0, h.0, sym d.1)

-- a numeral that does not begin with a zero before other digits is what is printed
pub plain_number : (n : ℕ) (bytes : List ℕ) → (get_or bytes 0 0 ≡ 48 → length bytes ≡ 1) → IsNumber n bytes → IsNumeralOf n bytes
plain_number n bytes plain h =
    let below : digits_value 10 bytes < 2 ^ 64 = rw (sym h.2) (wide n h.1) in
    let e = decimal-digits_value (numerals_by_value (AllDigits 10) tells_digits) bytes h.0.1 h.0.0 plain below in
    (h.1, sym e ∙ ap decimal (sym h.2))

-- zero is one digit
length_of_zero : length (decimal 0) ≡ 1
length_of_zero = omega (arith, decimal_nonempty 0 (omega arith), length-decimal-le 1 0 (omega arith) (omega arith) (omega arith))

-- what is printed does not begin with a zero before other digits
pub printed_plain : (n : ℕ) → n < 2 ^ 32 → get_or (decimal n) 0 0 ≡ 48 → length (decimal n) ≡ 1
printed_plain zero below e = length_of_zero
printed_plain (suc n) below e =
    let k = first_decimal (suc n) (omega arith) (wide (suc n) below) in absurd (omega (arith, k, e))

-- bytes with a zero before other digits are no number
pub none_with_zero : (bytes : List ℕ) → 1 < length bytes → get_or bytes 0 0 ≡ 48 → SpellsNone IsNumeralOf bytes
none_with_zero bytes long e n h =
    let k = printed_plain n h.0 (subst (λ b. get_or b 0 0 ≡ 48) h.1 e) in
    let l : length bytes ≡ length (decimal n) = ap length h.1 in
    absurd (omega (arith, long, k, l))

-- bytes that are no text are no number
pub none_without_text : (bytes : List ℕ) → (IsUtf8 bytes → ⊥) → SpellsNone IsNumeralOf bytes
none_without_text bytes fault n h = fault (rw h.1 (IsUtf8-from_ascii (decimal n) (IsAscii-decimal n (wide n h.0))))

-- what is read as a numeral is read as what is printed
pub only_printed : (n : ℕ) (bytes : List ℕ) → (get_or bytes 0 0 ≡ 48 → length bytes ≡ 1) → SpellsOnly IsNumber bytes n → SpellsOnly IsNumeralOf bytes n
only_printed n bytes plain only = (plain_number n bytes plain only.0, λ m h. only.1 m (printed_number m bytes h))

pub none_printed : (bytes : List ℕ) → SpellsNone IsNumber bytes → SpellsNone IsNumeralOf bytes
none_printed bytes none n h = none n (printed_number n bytes h)

-- a single byte is plain
pub short_plain : (bytes : List ℕ) → (1 < length bytes → ⊥) → get_or bytes 0 0 ≡ 48 → length bytes ≡ 1
short_plain [] short e = absurd (omega (arith, e))
short_plain (b ∷ []) short e = refl
short_plain (b ∷ d ∷ bytes) short e = absurd (short (omega arith))

-- a reader of numerals reads what is printed, where that is plain
pub reads_printed : (bytes digits : List ℕ) (r : Option ℕ) → (get_or bytes 0 0 ≡ 48 → length bytes ≡ 1) → digits ≡ bytes → Reads IsNumber digits r → Reads IsNumeralOf bytes r
reads_printed bytes digits None plain e h = none_printed bytes (subst (λ b. SpellsNone IsNumber b) e h)
reads_printed bytes digits (Some n) plain e h = only_printed n bytes plain (subst (λ b. SpellsOnly IsNumber b n) e h)
