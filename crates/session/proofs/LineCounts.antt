-- What a request shows determines how many lines it shows.
use Rattle.std.proofs.Common.{◌≡◌, ℕ, zero, suc, ◌+◌, ◌/◌, ◌%◌, ◌==◌, Bool, true, false, cond, nat_lt, List, [], ◌∷◌, ◌++◌, length, filter, refl, sym, ap, ◌∙◌, arith, length-append}
use Rattle.std.specs.Fmt.{decimal, digit_glyph, digits, digits_onto}
use Rattle.std.proofs.lemmas.Bool.{cond-false, ne_eqb}
use Rattle.std.proofs.lemmas.List.Elements.{filter-append}
use Rattle.model.specs.declared.entities.Entity.{Entity}
use Rattle.session.specs.Replies.{id_line, line_count, lines_in, shown_text}
use Rattle.session.specs.declared.reply.Shown.{Shown}
use Rattle.session.specs.declared.reply.Shown.TheVariants.{Nothing, Id, Changed, Lines}

-- a byte that ends no line
passed_byte : (byte : ℕ) (text : List ℕ) → (byte ≡ 10 → ⊥) → lines_in (byte ∷ text) ≡ lines_in text
passed_byte byte text differs = ap length (cond-false (byte == 10) (byte ∷ filter (λ b. b == 10) text) (filter (λ b. b == 10) text) (ne_eqb byte 10 differs))

-- no digit ends a line
glyph-differs : (digit : ℕ) → digit_glyph false digit ≡ 10 → ⊥
glyph-differs digit = go (nat_lt digit 10)
  where
    go : (small : Bool) → cond small (48 + digit) (87 + digit) ≡ 10 → ⊥
    go true e = omega (arith, e)
    go false e = omega (arith, e)

unended : (k n : ℕ) (text : List ℕ) → lines_in text ≡ 0 → lines_in (digits_onto k 10 false n text) ≡ 0
unended zero n text none = none
unended (suc k) n text none = go (n / 10 == 0) more (unended k (n / 10) (digit_glyph false (n % 10) ∷ text) more)
  where
    more : lines_in (digit_glyph false (n % 10) ∷ text) ≡ 0
    more = passed_byte (digit_glyph false (n % 10)) text (glyph-differs (n % 10)) ∙ none

    go : (last : Bool) → lines_in (digit_glyph false (n % 10) ∷ text) ≡ 0 → lines_in (digits_onto k 10 false (n / 10) (digit_glyph false (n % 10) ∷ text)) ≡ 0
        → lines_in (cond last (digit_glyph false (n % 10) ∷ text) (digits_onto k 10 false (n / 10) (digit_glyph false (n % 10) ∷ text))) ≡ 0
    go true here rest = here
    go false here rest = rest

number-unended : (n : ℕ) → lines_in (decimal n) ≡ 0
unfolding digits
number-unended n = unended 64 n [] refl

-- the ends of lines of two texts
lines_in-append : (xs ys : List ℕ) → lines_in (xs ++ ys) ≡ lines_in xs + lines_in ys
lines_in-append xs ys = ap length (filter-append (λ byte. byte == 10) xs ys) ∙ length-append (filter (λ byte. byte == 10) xs) (filter (λ byte. byte == 10) ys)

-- an id is one line
id-line : (e : Entity) → lines_in (id_line e) ≡ 1
id-line e =
    let whole = lines_in-append (decimal e.index ++ (118 ∷ decimal e.generation)) (10 ∷ []) in
    let front = lines_in-append (decimal e.index) (118 ∷ decimal e.generation) in
    let index = number-unended e.index in
    let generation = number-unended e.generation in
    omega (arith, whole, front, index, generation)

-- the count of lines
counted : (shown : Shown) → line_count shown ≡ lines_in (shown_text shown)
counted Nothing = refl
counted (Id e) = sym (id-line e)
counted (Changed true) = refl
counted (Changed false) = refl
counted (Lines text) = refl

-- two that show the same text show as many lines
pub counted_alike : (one other : Shown) → shown_text one ≡ shown_text other → line_count one ≡ line_count other
counted_alike one other same = counted one ∙ ap lines_in same ∙ sym (counted other)
