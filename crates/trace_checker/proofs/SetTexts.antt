-- Kind sets in a text: they are found again in it, and read number by number.
use Rattle.std.proofs.Common.{◌≡◌, ◌≢◌, ◌==◌, ℕ, zero, suc, ◌<◌, ◌≤◌, ◌^◌, ◌+◌, ◌-◌, Bool, nat_lt, cond, true, false, List, [], ◌∷◌, ◌++◌, length, take, drop, get_or, refl, sym, ap, subst, ◌∙◌, inl, inr, arith}
use Rattle.std.specs.List.{AllByRecursion}
use Rattle.std.specs.Fmt.{decimal}
use Rattle.std.specs.Str.Parse.{AllDigits}
use Rattle.std.proofs.lemmas.Bool.{ne_eqb, le-ltb, false≢true}
use Rattle.std.proofs.lemmas.Fmt.{decimal_is_IsNumeral, decimal_injective}
use Rattle.std.proofs.lemmas.List.{append_assoc, append-nil, take-append-drop, length-drop}
use Rattle.std.proofs.Math.Seq.{take-length}
use Rattle.std.proofs.lemmas.Str.Parse.{digit_from_value}
use Rattle.model.specs.Lists.{IsIn}
use Rattle.model.specs.declarations.Hierarchy.{IsRising}
use Rattle.model.specs.state.KindSets.{AreSetNumbers, set_limit, with_number}
use Rattle.model.proofs.lists.Lists.{has-IsIn, IsIn_from_has}
use Rattle.parsing.specs.Words.{Lacks, EndsWord}
use Rattle.parsing.specs.Reads.{SpellsNone, SpellsOnly}
use Rattle.trace_checker.specs.Grammar.{sets_text, IsNumeralOf, IsNumberBefore, AreSets}
use Rattle.trace_checker.proofs.Numerals.{wide}

-- ---- texts that lack a byte

lacks_digits : (c : ℕ) (ds : List ℕ) → c < 48 → AllDigits 10 ds → Lacks c ds
lacks_digits c [] low h = tt
lacks_digits c (d ∷ ds) low h = ((λ e. let k = digit_from_value d h.0 in omega (arith, e, k.0, low)), lacks_digits c ds low h.1)

pub lacks_decimal : (c n : ℕ) → c < 48 → n < 2 ^ 32 → Lacks c (decimal n)
lacks_decimal c n low below = lacks_digits c (decimal n) low (decimal_is_IsNumeral n (wide n below)).0.1

pub lacks_append : (c : ℕ) (a b : List ℕ) → Lacks c a → Lacks c b → Lacks c (a ++ b)
lacks_append c [] b h k = k
lacks_append c (x ∷ a) b h k = (h.0, lacks_append c a b h.1 k)

-- ---- numbers behind spaces

-- numbers of 32 bits
abbrev pub AreWide : List ℕ → Type 0
AreWide ns = AllByRecursion (λ n. n < 2 ^ 32) ns

wide-below : (ns : List ℕ) → AllByRecursion (λ n. n < set_limit) ns → AreWide ns
wide-below [] h = tt
wide-below (n ∷ ns) h = (let l : n < 1048576 = h.0 in omega (arith, l), wide-below ns h.1)

pub wide_sets : (ns : List ℕ) → AreSetNumbers ns → AreWide ns
wide_sets ns are = wide-below ns are.below

pub sets_lack : (ns : List ℕ) → AreWide ns → Lacks 10 (sets_text ns)
sets_lack [] h = tt
sets_lack (n ∷ ns) h = ((λ e. omega (arith, e)), lacks_append 10 (decimal n) (sets_text ns) (lacks_decimal 10 n (omega arith) h.0) (sets_lack ns h.1))

sets_end : (ns : List ℕ) → EndsWord (sets_text ns)
sets_end [] = tt
sets_end (n ∷ ns) = refl

-- what stands before the first space or the end, and behind it
pub word_cut : (a b x y : List ℕ) → Lacks 32 a → Lacks 32 b → EndsWord x → EndsWord y → a ++ x ≡ b ++ y → (a ≡ b) × (x ≡ y)
word_cut [] [] x y h k f g e = (refl, e)
word_cut [] (d ∷ b) [] y h k f g e = absurd (omega (arith, ap length e))
word_cut [] (d ∷ b) (c ∷ x) y h k f g e = absurd (k.0 (sym (ap (λ l. get_or l 0 0) e) ∙ f))
word_cut (d ∷ a) [] x [] h k f g e = absurd (omega (arith, ap length e))
word_cut (d ∷ a) [] x (c ∷ y) h k f g e = absurd (h.0 (ap (λ l. get_or l 0 0) e ∙ g))
word_cut (d ∷ a) (c ∷ b) x y h k f g e =
    let p = word_cut a b x y h.1 k.1 f g (ap (λ l. drop 1 l) e) in
    let q : d ≡ c = ap (λ l. get_or l 0 0) e in
    (rw (q, p.0) refl, p.1)

same_decimal : (m n : ℕ) → m < 2 ^ 32 → n < 2 ^ 32 → decimal m ≡ decimal n → m ≡ n
same_decimal m n a b e = decimal_injective m n (wide m a) (wide n b) e

-- one number stands before others
pub same_before : (m n : ℕ) (x y : List ℕ) → m < 2 ^ 32 → n < 2 ^ 32 → EndsWord x → EndsWord y → 32 ∷ decimal m ++ x ≡ 32 ∷ decimal n ++ y → (m ≡ n) × (x ≡ y)
same_before m n x y a b f g e =
    let p = word_cut (decimal m) (decimal n) x y (lacks_decimal 32 m (omega arith) a) (lacks_decimal 32 n (omega arith) b) f g (ap (λ l. drop 1 l) e) in
    (same_decimal m n a b p.0, p.1)

-- ---- numbers that rise

-- they rise from this one on, and are below the limit
abbrev pub RiseFrom : ℕ → List ℕ → Type 0
RiseFrom k [] = Unit {0}
RiseFrom k (n ∷ ns) = (k ≤ n) × (n < set_limit) × RiseFrom (suc n) ns

rise_above : (k : ℕ) (ns : List ℕ) → RiseFrom k ns → (m : ℕ) → IsIn m ns → k ≤ m
rise_above k [] h m i = absurd i
rise_above k (n ∷ ns) h m (inl e) = let low : k ≤ n = h.0 in omega (arith, low, e)
rise_above k (n ∷ ns) h m (inr i) = let far : suc n ≤ m = rise_above (suc n) ns h.2 m i in let low : k ≤ n = h.0 in omega (arith, far, low)

rising : (k : ℕ) (ns : List ℕ) → RiseFrom k ns → IsRising ns
rising k [] h = tt
rising k (n ∷ ns) h = ((λ m e. let far : suc n ≤ m = rise_above (suc n) ns h.2 m (IsIn_from_has m ns e) in omega (arith, far)), rising (suc n) ns h.2)

limited : (k : ℕ) (ns : List ℕ) → RiseFrom k ns → AllByRecursion (λ n. n < set_limit) ns
limited k [] h = tt
limited k (n ∷ ns) h = (h.1, limited (suc n) ns h.2)

-- so they are numbers of sets
pub risen_sets : (k : ℕ) (ns : List ℕ) → RiseFrom k ns → AreSetNumbers ns
risen_sets k ns h = record { rise = rising k ns h; below = limited k ns h }

from-rising : (k : ℕ) (ns : List ℕ) → ((m : ℕ) → IsIn m ns → k ≤ m) → IsRising ns → AllByRecursion (λ n. n < set_limit) ns → RiseFrom k ns
from-rising k [] f rise below = tt
from-rising k (n ∷ ns) f rise below =
    (f n (inl refl), below.0, from-rising (suc n) ns (λ m i. let far : n < m = rise.0 m (has-IsIn m ns i) in omega (arith, far)) rise.1 below.1)

-- and the other way round
pub sets_rise : (ns : List ℕ) → AreSetNumbers ns → RiseFrom 0 ns
sets_rise ns are = from-rising 0 ns (λ m i. omega arith) are.rise are.below

-- one more is added at the end
put-behind : (n m : ℕ) (ms : List ℕ) → m < n → with_number n (m ∷ ms) ≡ m ∷ with_number n ms
put-behind n m ms l = go (n == m) (nat_lt n m) (ne_eqb n m (λ e. omega arith)) (le-ltb n m (omega arith))
  where
    go : (same less : Bool) → same ≡ false → less ≡ false → cond same (m ∷ ms) (cond less (n ∷ m ∷ ms) (m ∷ with_number n ms)) ≡ m ∷ with_number n ms
    go true less e f = absurd (false≢true (sym e))
    go false true e f = absurd (false≢true (sym f))
    go false false e f = refl

in-last : (ns : List ℕ) (n : ℕ) → IsIn n (ns ++ n ∷ [])
in-last [] n = inl refl
in-last (m ∷ ns) n = inr (in-last ns n)

put-last : (k n : ℕ) (ns : List ℕ) → RiseFrom k (ns ++ n ∷ []) → with_number n ns ≡ ns ++ n ∷ []
put-last k n [] h = refl
put-last k n (m ∷ ns) h =
    let far : suc m ≤ n = rise_above (suc m) (ns ++ n ∷ []) h.2 n (in-last ns n) in
    put-behind n m ns (omega (arith, far)) ∙ ap (λ l. m ∷ l) (put-last (suc m) n ns h.2)

-- ---- numbers are found again in their text

-- behind a number stands a space or nothing
abbrev pub EndsBehind : List ℕ → List ℕ → Type 0
EndsBehind [] rest = Unit {0}
EndsBehind (n ∷ ns) rest = EndsWord rest

ends_behind : (ns rest : List ℕ) → EndsWord rest → EndsBehind ns rest
ends_behind [] rest h = tt
ends_behind (n ∷ ns) rest h = h

sets_before : (ns rest : List ℕ) → EndsWord rest → EndsWord (sets_text ns ++ rest)
sets_before [] rest h = h
sets_before (n ∷ ns) rest h = refl

-- a text of numbers that begins with some has just these first
pub sets_first : (ns front rest : List ℕ) → AreWide ns → AreWide front → EndsBehind front rest → sets_text ns ≡ sets_text front ++ rest
    → (more : List ℕ) × (ns ≡ front ++ more) × (rest ≡ sets_text more)
sets_first ns [] rest a b f e = (ns, refl, sym e)
sets_first [] (m ∷ front) rest a b f e = absurd (omega (arith, ap length e))
sets_first (n ∷ ns) (m ∷ front) rest a b f e =
    let whole : 32 ∷ decimal n ++ sets_text ns ≡ 32 ∷ decimal m ++ (sets_text front ++ rest) = e ∙ ap (λ l. 32 ∷ l) (append_assoc (decimal m) (sets_text front) rest) in
    let p = same_before n m (sets_text ns) (sets_text front ++ rest) a.0 b.0 (sets_end ns) (sets_before front rest f) whole in
    let k = sets_first ns front rest a.1 b.1 (ends_behind front rest f) p.1 in
    (k.0, ap (λ x. x ∷ ns) p.0 ∙ ap (λ l. m ∷ l) k.1, k.2)

nothing_more : (more : List ℕ) → [] ≡ sets_text more → more ≡ []
nothing_more [] e = refl
nothing_more (n ∷ more) e = absurd (omega (arith, ap length e))

-- one list of numbers has a text
pub same_sets : (a b : List ℕ) → AreWide a → AreWide b → sets_text a ≡ sets_text b → a ≡ b
same_sets a b x y e =
    let k = sets_first a b [] x y (ends_behind b [] tt) (e ∙ sym (append-nil (sets_text b))) in
    k.1 ∙ (ap (λ m. b ++ m) (nothing_more k.0 k.2) ∙ append-nil b)

-- ---- numbers that are read so far

-- the numbers so far, the least that may follow, and what follows
pub record AreSoFar (bytes numbers : List ℕ) (least : ℕ) (rest : List ℕ) : Type 0 where
  pub text : bytes ≡ sets_text numbers ++ rest
  pub ends : EndsBehind numbers rest
  pub rise : (more : List ℕ) → RiseFrom least more → RiseFrom 0 (numbers ++ more)
  pub back : (more : List ℕ) → RiseFrom 0 (numbers ++ more) → RiseFrom least more

pub none_so_far : (bytes numbers : List ℕ) → numbers ≡ [] → AreSoFar bytes numbers 0 bytes
none_so_far bytes numbers e = subst (λ ns. AreSoFar bytes ns 0 bytes) (sym e) (record { text = refl; ends = tt; rise = λ more h. h; back = λ more h. h })

module _ (bytes numbers : List ℕ) (least : ℕ) (rest : List ℕ) (so : AreSoFar bytes numbers least rest) where
  those : AreSetNumbers numbers
  those = risen_sets 0 numbers (subst (RiseFrom 0) (append-nil numbers) (so.rise [] tt))

  -- what others have behind these
  behind_of : (others : List ℕ) → AreSets others bytes → (more : List ℕ) × (rest ≡ sets_text more) × RiseFrom least more × (others ≡ numbers ++ more)
  behind_of others h =
      let k = sets_first others numbers rest (wide_sets others h.0) (wide_sets numbers those) so.ends (sym h.1 ∙ so.text) in
      (k.0, k.2, so.back k.0 (subst (RiseFrom 0) k.1 (sets_rise others h.0)), k.1)

  -- nothing follows
  pub these_sets : rest ≡ [] → SpellsOnly AreSets bytes numbers
  these_sets over = ((those, so.text ∙ (ap (λ r. sets_text numbers ++ r) over ∙ append-nil (sets_text numbers))), same) where
    same : (others : List ℕ) → AreSets others bytes → others ≡ numbers
    same others h =
        let k = behind_of others h in
        k.3 ∙ (ap (λ m. numbers ++ m) (nothing_more k.0 (sym over ∙ k.1)) ∙ append-nil numbers)

  -- something follows that is no number
  pub no_sets : rest ≢ [] → SpellsNone IsNumberBefore rest → SpellsNone AreSets bytes
  no_sets filled none others h = let k = behind_of others h in starts k.0 k.1 k.2 where
    starts : (more : List ℕ) → rest ≡ sets_text more → RiseFrom least more → ⊥
    starts [] e r = filled e
    starts (n ∷ more) e r = let l : n < 1048576 = r.1 in none (n, sets_text more) (omega (arith, l), sets_end more, e)

  -- a number that may not follow
  pub no_rise : (n : ℕ) (behind : List ℕ) → IsNumberBefore (n, behind) rest → (least ≤ n → n < set_limit → ⊥) → SpellsNone AreSets bytes
  no_rise n behind before out others h = let k = behind_of others h in starts k.0 k.1 k.2 where
    starts : (more : List ℕ) → rest ≡ sets_text more → RiseFrom least more → ⊥
    starts [] e r = absurd (omega (arith, ap length (sym before.2 ∙ e)))
    starts (m ∷ more) e r =
        let l : m < 1048576 = r.1 in
        let k = same_before m n (sets_text more) behind (omega (arith, l)) before.0 (sets_end more) before.1 (sym e ∙ before.2) in
        out (subst (λ x. least ≤ x) k.0 r.0) (subst (λ x. x < set_limit) k.0 r.1)

  -- a number that may
  pub more_so_far : (n : ℕ) (behind next : List ℕ) → IsNumberBefore (n, behind) rest → least ≤ n → n < set_limit → next ≡ with_number n numbers → AreSoFar bytes next (n + 1) behind
  more_so_far n behind next before low below put =
      let last : next ≡ numbers ++ n ∷ [] = put ∙ put-last 0 n numbers (so.rise (n ∷ []) (low, below, tt)) in
      subst (λ ns. AreSoFar bytes ns (n + 1) behind) (sym last) (record {
        text = so.text ∙ (ap (λ r. sets_text numbers ++ r) before.2 ∙ sym (text-more numbers));
        ends = ends_behind (numbers ++ n ∷ []) behind before.1;
        rise = λ more h. subst (RiseFrom 0) (sym (append_assoc numbers (n ∷ []) more)) (so.rise (n ∷ more) (low, below, subst (λ k. RiseFrom k more) next-is h));
        back = λ more h. subst (λ k. RiseFrom k more) (sym next-is) ((so.back (n ∷ more) (subst (RiseFrom 0) (append_assoc numbers (n ∷ []) more) h)).2);
      })
    where
      next-is : n + 1 ≡ suc n
      next-is = omega arith

      text-more : (ns : List ℕ) → sets_text (ns ++ n ∷ []) ++ behind ≡ sets_text ns ++ (32 ∷ decimal n ++ behind)
      text-more [] = ap (λ l. 32 ∷ (l ++ behind)) (append-nil (decimal n))
      text-more (m ∷ ns) =
          ap (λ l. 32 ∷ l) (append_assoc (decimal m) (sets_text (ns ++ n ∷ [])) behind ∙ (ap (λ l. decimal m ++ l) (text-more ns) ∙ sym (append_assoc (decimal m) (sets_text ns) (32 ∷ decimal n ++ behind))))

-- ---- one number

ends-at : (i : ℕ) (b : List ℕ) → (i < length b → get_or b i 0 ≡ 32) → EndsWord (drop i b)
ends-at zero [] h = tt
ends-at zero (x ∷ b) h = h (omega arith)
ends-at (suc i) [] h = tt
ends-at (suc i) (x ∷ b) h = ends-at i b (λ l. h (omega (arith, l)))

lacks-before : (i : ℕ) (b : List ℕ) → i ≤ length b → ((k : ℕ) → k < i → get_or b k 0 ≢ 32) → Lacks 32 (take i b)
lacks-before zero b l h = tt
lacks-before (suc i) [] l h = absurd (omega (arith, l))
lacks-before (suc i) (x ∷ b) l h = (h 0 (omega arith), lacks-before i b (omega (arith, l)) (λ k l. h (suc k) (omega (arith, l))))

-- what follows a place is all that is left
pub all_behind : (i : ℕ) (xs : List ℕ) → take (length xs - i) (drop i xs) ≡ drop i xs
all_behind i xs = ap (λ k. take k (drop i xs)) (sym (length-drop i xs)) ∙ take-length (drop i xs)

-- bytes of which the first is known
opened : (bytes : List ℕ) (a : ℕ) → 1 ≤ length bytes → get_or bytes 0 0 ≡ a → bytes ≡ a ∷ drop 1 bytes
opened [] a long e = absurd (omega (arith, long))
opened (x ∷ bytes) a long e = ap (λ y. y ∷ bytes) e

-- a space, and up to the next space or the end a number
module _ (bytes : List ℕ) (long : 1 ≤ length bytes) (space : get_or bytes 0 0 ≡ 32) (tail : List ℕ) (behind : tail ≡ take (length bytes - 1) (drop 1 bytes)) (end : ℕ) (within : end ≤ length tail)
    (before : (k : ℕ) → k < end → get_or tail k 0 ≢ 32) (at : end < length tail → get_or tail end 0 ≡ 32) where
  whole : bytes ≡ 32 ∷ tail
  whole = opened bytes 32 long space ∙ ap (λ l. 32 ∷ l) (sym (behind ∙ all_behind 1 bytes))

  cut_of : (n : ℕ) (rest : List ℕ) → IsNumberBefore (n, rest) bytes → (decimal n ≡ take end tail) × (rest ≡ drop end tail)
  cut_of n rest h =
      word_cut (decimal n) (take end tail) rest (drop end tail) (lacks_decimal 32 n (omega arith) h.0) (lacks-before end tail within before) h.1 (ends-at end tail at)
      (ap (λ l. drop 1 l) (sym h.2 ∙ whole) ∙ sym (take-append-drop end tail))

  pub none_number : SpellsNone IsNumeralOf (take end tail) → SpellsNone IsNumberBefore bytes
  none_number none (n, rest) h = none n (h.0, sym (cut_of n rest h).0)

  pub only_number : (n : ℕ) → SpellsOnly IsNumeralOf (take end tail) n → SpellsOnly IsNumberBefore bytes (n, take (length tail - end) (drop end tail))
  only_number n only = subst (λ r. SpellsOnly IsNumberBefore bytes (n, r)) (sym (all_behind end tail)) (
    (only.0.0, ends-at end tail at, whole ∙ ap (λ l. 32 ∷ l) (sym (take-append-drop end tail) ∙ ap (λ l. l ++ drop end tail) only.0.1)),
    λ v h. same v h,
  ) where
    same : (v : ℕ × List ℕ) → IsNumberBefore v bytes → v ≡ (n, drop end tail)
    same (m, r) h =
        let k = cut_of m r h in
        let p : m ≡ n = only.1 m (h.0, sym k.0) in
        let q : r ≡ drop end tail = k.1 in
        ap (λ x. (x, r)) p ∙ ap (λ x. (n, x)) q
