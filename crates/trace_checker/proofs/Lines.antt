-- Lines: what is printed of one is its own, and lines one after the other are found again in their text.
use Rattle.std.proofs.Common.{◌≡◌, ◌≢◌, ℕ, suc, ◌<◌, ◌^◌, ◌+◌, ◌-◌, Bool, true, false, nat_eq, List, [], ◌∷◌, ◌++◌, length, take, drop, get_or, refl, sym, ap, ◌∙◌, arith}
use Rattle.std.specs.Prelude.{cond}
use Rattle.std.specs.List.{AllByRecursion}
use Rattle.std.specs.Fmt.{decimal}
use Rattle.std.specs.Str.Parse.{digits_value}
use Rattle.std.proofs.Math.Seq.{take-append_seam}
use Rattle.std.proofs.lemmas.Fmt.{decimal_is_IsNumeral}
use Rattle.std.proofs.lemmas.List.{append_assoc, get_or-append-add, length-append}
use Rattle.std.proofs.lemmas.Bool.{false≢true}
use Rattle.model.specs.declared.steps.Step.TheVariants.{Cond, Start, Skip, Finish, Sync}
use Rattle.parsing.specs.Words.{Lacks}
use Rattle.trace_checker.specs.declared.line.Line.{Line}
use Rattle.trace_checker.specs.declared.line.Line.TheVariants.{Begin, Take, There}
use Rattle.trace_checker.specs.Grammar.{answer_code, answer_text, line_text, lines_text, IsFitting}
use Rattle.trace_checker.specs.TextFaults.{is_told}
use Rattle.trace_checker.proofs.Numerals.{wide}
use Rattle.trace_checker.proofs.SetTexts.{lacks_decimal, lacks_append, wide_sets, sets_lack, same_sets}

-- ---- a line is found again in its text

-- the line of a letter, a number and an answer
abbrev line_of : ℕ → ℕ → Bool → Line
line_of letter n answer =
    cond (nat_eq letter 82) (Begin n) (cond (nat_eq letter 67) (Take (Cond n answer)) (cond (nat_eq letter 83) (Take (Start n))
    (cond (nat_eq letter 75) (Take (Skip n)) (cond (nat_eq letter 70) (Take (Finish n)) (Take (Sync n))))))

-- the digits of a line
abbrev digits_in : List ℕ → List ℕ
digits_in bytes = cond (nat_eq (get_or bytes 0 0) 67) (take (length bytes - 4) (drop 2 bytes)) (drop 2 bytes)

-- the line that is printed as these bytes
abbrev line_from : List ℕ → Line
line_from bytes = line_of (get_or bytes 0 0) (digits_value 10 (digits_in bytes)) (nat_eq (get_or bytes (length bytes - 1) 0) 49)

-- the digits before two bytes, and the last of the two
front_of : (front : List ℕ) (a b : ℕ) → take (length (67 ∷ 32 ∷ (front ++ a ∷ b ∷ [])) - 4) (front ++ a ∷ b ∷ []) ≡ front
front_of front a b =
    let n : length (67 ∷ 32 ∷ (front ++ a ∷ b ∷ [])) - 4 ≡ length front = omega (arith, length-append front (a ∷ b ∷ [])) in
    ap (λ k. take k (front ++ a ∷ b ∷ [])) n ∙ take-append_seam front (a ∷ b ∷ [])

last_of : (front : List ℕ) (a b : ℕ) → get_or (67 ∷ 32 ∷ (front ++ a ∷ b ∷ [])) (length (67 ∷ 32 ∷ (front ++ a ∷ b ∷ [])) - 1) 0 ≡ b
last_of front a b =
    let n : length (67 ∷ 32 ∷ (front ++ a ∷ b ∷ [])) - 1 ≡ suc (suc (length front + 1)) = omega (arith, length-append front (a ∷ b ∷ [])) in
    ap (λ k. get_or (67 ∷ 32 ∷ (front ++ a ∷ b ∷ [])) k 0) n ∙ get_or-append-add front (a ∷ b ∷ []) 1 0

answer_back : (answer : Bool) → nat_eq (answer_code answer) 49 ≡ answer
answer_back true = refl
answer_back false = refl

value_back : (n : ℕ) → n < 2 ^ 32 → digits_value 10 (decimal n) ≡ n
value_back n below = (decimal_is_IsNumeral n (wide n below)).1

asked_back : (c : ℕ) (answer : Bool) → c < 2 ^ 32 → line_from (67 ∷ 32 ∷ answer_text c answer) ≡ Take (Cond c answer)
asked_back c answer below =
    ap (λ digits. Take (Cond (digits_value 10 digits) (nat_eq (get_or (67 ∷ 32 ∷ answer_text c answer) (length (67 ∷ 32 ∷ answer_text c answer) - 1) 0) 49))) (front_of (decimal c) 32 (answer_code answer))
    ∙ (ap (λ n. Take (Cond n (nat_eq (get_or (67 ∷ 32 ∷ answer_text c answer) (length (67 ∷ 32 ∷ answer_text c answer) - 1) 0) 49))) (value_back c below)
    ∙ (ap (λ b. Take (Cond c (nat_eq b 49))) (last_of (decimal c) 32 (answer_code answer)) ∙ ap (λ a. Take (Cond c a)) (answer_back answer)))

line_back : (line : Line) → is_told line ≡ false → IsFitting line → line_from (line_text line) ≡ line
line_back (Begin n) plain below = ap Begin (value_back n below)
line_back (Take (Cond c answer)) plain below = asked_back c answer below
line_back (Take (Start n)) plain below = ap (λ m. Take (Start m)) (value_back n below)
line_back (Take (Skip n)) plain below = ap (λ m. Take (Skip m)) (value_back n below)
line_back (Take (Finish n)) plain below = ap (λ m. Take (Finish m)) (value_back n below)
line_back (Take (Sync k)) plain below = ap (λ m. Take (Sync m)) (value_back k below)
line_back (There ns) plain below = absurd (false≢true (sym plain))

-- the first letter tells whether a line tells kind sets
pub told_by : (line : Line) → nat_eq (get_or (line_text line) 0 0) 65 ≡ is_told line
told_by (Begin n) = refl
told_by (Take (Cond c answer)) = refl
told_by (Take (Start n)) = refl
told_by (Take (Skip n)) = refl
told_by (Take (Finish n)) = refl
told_by (Take (Sync k)) = refl
told_by (There ns) = refl

-- a line that tells kind sets is that of those
same_there : (ns : List ℕ) (m : Line) → IsFitting (There ns) → IsFitting m → is_told m ≡ true → line_text (There ns) ≡ line_text m → There ns ≡ m
same_there ns (Begin n) a b told e = absurd (false≢true told)
same_there ns (Take step) a b told e = absurd (false≢true told)
same_there ns (There ms) a b told e = ap There (same_sets ns ms (wide_sets ns a) (wide_sets ms b) (ap (drop 1) e))

-- one line has a text
pub same_line : (l m : Line) → IsFitting l → IsFitting m → line_text l ≡ line_text m → l ≡ m
same_line l m a b e = by (is_told l) refl where
  alike : is_told l ≡ is_told m
  alike = sym (told_by l) ∙ (ap (λ t. nat_eq (get_or t 0 0) 65) e ∙ told_by m)

  there : (k : Line) → IsFitting k → is_told k ≡ true → is_told m ≡ true → line_text k ≡ line_text m → k ≡ m
  there (Begin n) f t u g = absurd (false≢true t)
  there (Take step) f t u g = absurd (false≢true t)
  there (There ns) f t u g = same_there ns m f b u g

  by : (t : Bool) → is_told l ≡ t → l ≡ m
  by true f = there l a f (sym alike ∙ f) e
  by false f = sym (line_back l f a) ∙ (ap line_from e ∙ line_back m (sym alike ∙ f) b)

-- ---- no line holds the end of one

-- two bytes before digits
lacks_opened : (a b : ℕ) (ds : List ℕ) → a ≢ 10 → b ≢ 10 → Lacks 10 ds → Lacks 10 (a ∷ b ∷ ds)
lacks_opened a b ds e f h = (e, (f, h))

answer_lacks : (answer : Bool) → answer_code answer ≢ 10
answer_lacks true = λ e. omega (arith, e)
answer_lacks false = λ e. omega (arith, e)

pub line_lacks : (line : Line) → IsFitting line → Lacks 10 (line_text line)
line_lacks (Begin n) below = lacks_opened 82 32 _ (λ e. omega (arith, e)) (λ e. omega (arith, e)) (lacks_decimal 10 n (omega arith) below)
line_lacks (Take (Cond c answer)) below = lacks_opened 67 32 _ (λ e. omega (arith, e)) (λ e. omega (arith, e))
    (lacks_append 10 (decimal c) (32 ∷ answer_code answer ∷ []) (lacks_decimal 10 c (omega arith) below) ((λ e. omega (arith, e)), (answer_lacks answer, tt)))
line_lacks (Take (Start n)) below = lacks_opened 83 32 _ (λ e. omega (arith, e)) (λ e. omega (arith, e)) (lacks_decimal 10 n (omega arith) below)
line_lacks (Take (Skip n)) below = lacks_opened 75 32 _ (λ e. omega (arith, e)) (λ e. omega (arith, e)) (lacks_decimal 10 n (omega arith) below)
line_lacks (Take (Finish n)) below = lacks_opened 70 32 _ (λ e. omega (arith, e)) (λ e. omega (arith, e)) (lacks_decimal 10 n (omega arith) below)
line_lacks (Take (Sync k)) below = lacks_opened 89 32 _ (λ e. omega (arith, e)) (λ e. omega (arith, e)) (lacks_decimal 10 k (omega arith) below)
line_lacks (There ns) below = ((λ e. omega (arith, e)), sets_lack ns (wide_sets ns below))

-- ---- lines one after the other

-- what stands before the first byte c, and behind it
pub same_cut : (c : ℕ) (a b x y : List ℕ) → Lacks c a → Lacks c b → a ++ c ∷ x ≡ b ++ c ∷ y → (a ≡ b) × (x ≡ y)
same_cut c [] [] x y h k e = (refl, ap (λ l. drop 1 l) e)
same_cut c [] (d ∷ b) x y h k e = absurd (k.0 (sym (ap (λ l. get_or l 0 0) e)))
same_cut c (d ∷ a) [] x y h k e = absurd (h.0 (ap (λ l. get_or l 0 0) e))
same_cut c (d ∷ a) (f ∷ b) x y h k e =
    let p = same_cut c a b x y h.1 k.1 (ap (λ l. drop 1 l) e) in
    let q : d ≡ f = ap (λ l. get_or l 0 0) e in
    (rw (q, p.0) refl, p.1)

-- what has a byte is not empty
filled : (a : List ℕ) (b : ℕ) (x rest : List ℕ) → (a ++ b ∷ x) ++ rest ≡ [] → ⊥
filled [] b x rest e = omega (arith, ap length e)
filled (d ∷ a) b x rest e = omega (arith, ap length e)

-- a text of lines that begins with some has just these first
pub lines_first : (lines front : List Line) (rest : List ℕ) → AllByRecursion IsFitting lines → AllByRecursion IsFitting front
    → lines_text lines ≡ lines_text front ++ rest → (more : List Line) × (lines ≡ front ++ more) × (rest ≡ lines_text more) × AllByRecursion IsFitting more
lines_first lines [] rest a b e = (lines, refl, sym e, a)
lines_first [] (m ∷ front) rest a b e = absurd (filled (line_text m) 10 (lines_text front) rest (sym e))
lines_first (l ∷ lines) (m ∷ front) rest a b e =
    let whole : line_text l ++ 10 ∷ lines_text lines ≡ line_text m ++ 10 ∷ (lines_text front ++ rest) = e ∙ append_assoc (line_text m) (10 ∷ lines_text front) rest in
    let p = same_cut 10 (line_text l) (line_text m) (lines_text lines) (lines_text front ++ rest) (line_lacks l a.0) (line_lacks m b.0) whole in
    let q = same_line l m a.0 b.0 p.0 in
    let k = lines_first lines front rest a.1 b.1 p.1 in
    (k.0, ap (λ x. x ∷ lines) q ∙ ap (λ r. m ∷ r) k.1, k.2, k.3)

-- lines and then one more
pub lines_pushed : (lines : List Line) (line : Line) → lines_text (lines ++ line ∷ []) ≡ lines_text lines ++ (line_text line ++ 10 ∷ [])
lines_pushed [] line = refl
lines_pushed (l ∷ lines) line = ap (λ t. line_text l ++ 10 ∷ t) (lines_pushed lines line) ∙ sym (append_assoc (line_text l) (10 ∷ lines_text lines) (line_text line ++ 10 ∷ []))

pub lines_append : (lines more : List Line) → lines_text (lines ++ more) ≡ lines_text lines ++ lines_text more
lines_append [] more = refl
lines_append (l ∷ lines) more = ap (λ t. line_text l ++ 10 ∷ t) (lines_append lines more) ∙ sym (append_assoc (line_text l) (10 ∷ lines_text lines) (lines_text more))
