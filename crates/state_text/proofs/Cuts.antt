-- Texts that can be told from what follows them: where two of them, each with something behind, are equal, they are of related things, and what
-- is behind is equal too.
use Rattle.std.proofs.Common.{◌≡◌, ℕ, zero, suc, ◌+◌, ◌<◌, ◌^◌, ◌%◌, ℤ, pos, negsuc, Bool, true, false, nat_lt, List, [], ◌∷◌, ◌++◌, length, map, flat_map, get_or, append_assoc, refl, sym, ap, subst, ◌∙◌, arith}
use Rattle.std.proofs.lemmas.Bool.{false≢true, lt-ltb}
use Rattle.std.proofs.lemmas.Fmt.{decimal_by_steps, decimal_injective, signed_decimal_injective}
use Rattle.std.specs.Fmt.{decimal, signed_decimal}
use Rattle.std.specs.Int.Signed.{mag}
use Rattle.std.specs.List.{AllByRecursion}
use Rattle.model.specs.Lists.{head_or, tail_of}

-- two texts, of what is related by P, where what follows is in C
pub record Cut (C : List ℕ → Type 0) (f g : List ℕ) (P : Type 0) : Type 0 where
  pub cut : (s t : List ℕ) → C s → C t → f ++ s ≡ g ++ t → P × (s ≡ t)

-- whatever follows
abbrev pub Any : List ℕ → Type 0
Any s = Unit {0}

-- the same text
same_from : (f s t : List ℕ) → f ++ s ≡ f ++ t → s ≡ t
same_from [] s t e = e
same_from (x ∷ f) s t e = same_from f s t (ap tail_of e)

pub same : (f : List ℕ) → Cut Any f f (Unit {0})
same f = record { cut = λ s t cs ct e. (tt, same_from f s t e) }

-- a byte before both
pub behind : {C : List ℕ → Type 0} {f g : List ℕ} {P : Type 0} (x : ℕ) → Cut C f g P → Cut C (x ∷ f) (x ∷ g) P
behind x c = record { cut = λ s t cs ct e. c.cut s t cs ct (ap tail_of e) }

-- what is related otherwise too
pub told : {C : List ℕ → Type 0} {f g : List ℕ} {P Q : Type 0} → Cut C f g P → (P → Q) → Cut C f g Q
told c q = record { cut = λ s t cs ct e. let p = c.cut s t cs ct e in (q p.0, p.1) }

-- one after the other
pub join : {C D : List ℕ → Type 0} {f g f' g' : List ℕ} {P Q : Type 0} → Cut C f g P → ((s : List ℕ) → D s → C (f' ++ s)) → ((s : List ℕ) → D s → C (g' ++ s))
    → (P → Cut D f' g' Q) → Cut D (f ++ f') (g ++ g') (P × Q)
join {f} {g} {f'} {g'} first left right second = record {
  cut = λ s t ds dt e.
      let one = first.cut (f' ++ s) (g' ++ t) (left s ds) (right t dt) (sym (append_assoc f f' s) ∙ e ∙ append_assoc g g' t) in
      let two = (second one.0).cut s t ds dt one.1 in
      ((one.0, two.0), two.1);
}

-- ---- words

-- all bytes of a word pass a test, and the first byte of what follows doesn't
abbrev pub Passes : (ℕ → Bool) → List ℕ → Type 0
Passes test f = AllByRecursion (λ b. test b ≡ true) f

abbrev pub Stops : (ℕ → Bool) → List ℕ → Type 0
Stops test [] = Unit {0}
Stops test (b ∷ s) = test b ≡ false

stopped : (test : ℕ → Bool) (b : ℕ) (f s t : List ℕ) → test b ≡ true → Stops test s → s ≡ (b ∷ f) ++ t → ⊥
stopped test b f s t goes_on ends e = let stop : test b ≡ false = subst (Stops test) e ends in false≢true (sym stop ∙ goes_on)

words_apart : (test : ℕ → Bool) (f g : List ℕ) → Passes test f → Passes test g → (s t : List ℕ) → Stops test s → Stops test t → f ++ s ≡ g ++ t → (f ≡ g) × (s ≡ t)
words_apart test [] [] pf pg s t cs ct e = (refl, e)
words_apart test [] (y ∷ g) pf pg s t cs ct e = absurd (stopped test y g s t pg.0 cs e)
words_apart test (x ∷ f) [] pf pg s t cs ct e = absurd (stopped test x f t s pf.0 ct (sym e))
words_apart test (x ∷ f) (y ∷ g) pf pg s t cs ct e =
    let rest = words_apart test f g pf.1 pg.1 s t cs ct (ap tail_of e) in
    ((λ i. head_or 0 (e i) ∷ rest.0 i), rest.1)

pub word : (test : ℕ → Bool) (f g : List ℕ) → Passes test f → Passes test g → Cut (Stops test) f g (f ≡ g)
word test f g pf pg = record { cut = words_apart test f g pf pg }

-- ---- numbers

-- whether a byte can stand in a word: it is above a space
abbrev pub in_word : ℕ → Bool
in_word b = nat_lt 32 b

-- what follows a word doesn't go on with it
abbrev pub Past : List ℕ → Type 0
Past s = Stops in_word s

passes-append : (f : List ℕ) (b : ℕ) → Passes in_word f → in_word b ≡ true → Passes in_word (f ++ b ∷ [])
passes-append [] b pf pb = (pb, tt)
passes-append (x ∷ f) b pf pb = (pf.0, passes-append f b pf.1 pb)

pub digits : (n : ℕ) → n < 2 ^ 64 → Passes in_word (decimal n)
digits n low = decimal_by_steps (λ n ds. Passes in_word ds)
    (λ n one. (lt-ltb 32 (48 + n) (omega arith), tt))
    (λ n ds more front. passes-append ds (48 + n % 10) front (lt-ltb 32 (48 + n % 10) (omega arith)))
    n low

pub number : (m n : ℕ) → m < 2 ^ 64 → n < 2 ^ 64 → Cut Past (decimal m) (decimal n) (m ≡ n)
number m n low low' = told (word in_word (decimal m) (decimal n) (digits m low) (digits n low')) (decimal_injective m n low low')

pub signed : (z : ℤ) → mag z < 2 ^ 63 → Passes in_word (signed_decimal z)
signed (pos n) low = digits n (omega arith)
signed (negsuc n) low = (refl, digits (suc n) (omega arith))

pub integer : (y z : ℤ) → mag y < 2 ^ 63 → mag z < 2 ^ 63 → Cut Past (signed_decimal y) (signed_decimal z) (y ≡ z)
integer y z low low' =
    told (word in_word (signed_decimal y) (signed_decimal z) (signed y low) (signed z low')) (signed_decimal_injective y z low low')

-- ---- lists

-- an element of a list, or what stands past its end
pub at : {X : Type 0} (P : X → Type 0) (d : X) (xs : List X) (i : ℕ) → P d → AllByRecursion P xs → P (get_or xs i d)
at P d [] i pd h = pd
at P d (x ∷ xs) zero pd h = h.0
at P d (x ∷ xs) (suc i) pd h = at P d xs i pd h.1

-- no elements
pub nothing : {C : List ℕ → Type 0} {X : Type 0} → Cut C [] [] (◌≡◌ {A = List X} [] [])
nothing = record { cut = λ s t cs ct e. (refl, e) }

-- as many of both, of each of which is kept what is told by its text
pub by_count : {X Y : Type 0} {C : List ℕ → Type 0} (f : X → List ℕ) (keep : X → Y) (Fit : X → Type 0)
    → ((x y : X) → Fit x → Fit y → Cut C (f x) (f y) (keep x ≡ keep y)) → ((x : X) (s : List ℕ) → C s → C (f x ++ s))
    → (xs ys : List X) → length xs ≡ length ys → AllByRecursion Fit xs → AllByRecursion Fit ys → Cut C (flat_map f xs) (flat_map f ys) (map keep xs ≡ map keep ys)
by_count f keep Fit each begins [] [] count fx fy = nothing
by_count f keep Fit each begins [] (y ∷ ys) count fx fy = absurd (omega (arith, count))
by_count f keep Fit each begins (x ∷ xs) [] count fx fy = absurd (omega (arith, count))
by_count {X} {Y} {C} f keep Fit each begins (x ∷ xs) (y ∷ ys) count fx fy =
    told (join (each x y fx.0 fy.0) (then xs) (then ys) (λ _. by_count f keep Fit each begins xs ys (omega (arith, count)) fx.1 fy.1)) (λ p i. p.0 i ∷ p.1 i)
  where
    then : (zs : List X) (s : List ℕ) → C s → C (flat_map f zs ++ s)
    then [] s cs = cs
    then (z ∷ zs) s cs = subst C (sym (append_assoc (f z) (flat_map f zs) s)) (begins z (flat_map f zs ++ s) (then zs s cs))

-- the end of a line
abbrev pub Ends : List ℕ → Type 0
Ends s = head_or 0 s ≡ 10

ended : (f s : List ℕ) → Ends s → s ≡ 32 ∷ f → ⊥
ended f s end e = let bad : 32 ≡ 10 = subst Ends e end in omega (arith, bad)

-- what is behind a list of words, or is the end of the line, is past a word
pub past_all : {X : Type 0} (f : X → List ℕ) (zs : List X) (s : List ℕ) → Past s → Past (flat_map (λ z. 32 ∷ f z) zs ++ s)
past_all f [] s past = past
past_all f (z ∷ zs) s past = refl

pub past_end : (s : List ℕ) → Ends s → Past s
past_end [] end = tt
past_end (b ∷ s) end = subst (λ c. in_word c ≡ false) (sym end) refl

-- each behind a space, up to the end of the line
pub to_end : {X Y : Type 0} (f : X → List ℕ) (keep : X → Y) (Fit : X → Type 0) → ((x y : X) → Fit x → Fit y → Cut Past (f x) (f y) (keep x ≡ keep y))
    → (xs ys : List X) → AllByRecursion Fit xs → AllByRecursion Fit ys → Cut Ends (flat_map (λ x. 32 ∷ f x) xs) (flat_map (λ x. 32 ∷ f x) ys) (map keep xs ≡ map keep ys)
to_end f keep Fit each [] [] fx fy = nothing
to_end f keep Fit each [] (y ∷ ys) fx fy = record { cut = λ s t cs ct e. absurd (ended ((f y ++ flat_map (λ x. 32 ∷ f x) ys) ++ t) s cs e) }
to_end f keep Fit each (x ∷ xs) [] fx fy = record { cut = λ s t cs ct e. absurd (ended ((f x ++ flat_map (λ x. 32 ∷ f x) xs) ++ s) t ct (sym e)) }
to_end f keep Fit each (x ∷ xs) (y ∷ ys) fx fy =
    told (behind 32 (join (each x y fx.0 fy.0) (λ s end. past_all f xs s (past_end s end)) (λ s end. past_all f ys s (past_end s end))
    (λ _. to_end f keep Fit each xs ys fx.1 fy.1))) (λ p i. p.0 i ∷ p.1 i)

-- where all of each is kept, all is told
pub map_same : {X : Type 0} (keep : X → X) → ((x : X) → keep x ≡ x) → (xs : List X) → map keep xs ≡ xs
map_same keep is [] = refl
map_same keep is (x ∷ xs) = λ i. is x i ∷ map_same keep is xs i

pub all_told : {C : List ℕ → Type 0} {f g : List ℕ} {X : Type 0} {xs ys : List X} → Cut C f g (map (λ x. x) xs ≡ map (λ x. x) ys) → Cut C f g (xs ≡ ys)
all_told {xs} {ys} c = told c (λ same. sym (map_same (λ x. x) (λ x. refl) xs) ∙ same ∙ map_same (λ x. x) (λ x. refl) ys)
