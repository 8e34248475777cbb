-- How many of the numbers below a bound pass a test.
use Rattle.std.proofs.Common.{ℕ, zero, suc, ◌+◌, ◌<◌, ◌≡◌, ◌≢◌, Bool, true, false, cond, inl, inr, refl, ap, subst, arith, add-one}
use Rattle.std.proofs.lemmas.Bool.{false_from_ne_true, cases_Bool}
use Rattle.std.proofs.lemmas.Bool.Decides.{eqb_tells}
use Rattle.model.specs.Counts.{count_below}
use Rattle.model.proofs.progress.Ends.{count_at_most}

-- one for a test that is passed
abbrev one_for : Bool → ℕ
one_for b = cond b 1 0

-- one number more
count_suc : (test : ℕ → Bool) (n : ℕ) → count_below test (suc n) ≡ count_below test n + one_for (test n)
count_suc test n = one_more (test n) (count_below test n)
  where
    one_more : (b : Bool) (before : ℕ) → cond b (suc before) before ≡ before + one_for b
    one_more true before = omega arith
    one_more false before = omega arith

pub count_next : (test : ℕ → Bool) (n : ℕ) → count_below test (n + 1) ≡ count_below test n + cond (test n) 1 0
count_next test n = rw add-one (count_suc test n)

-- tests that agree below the bound count alike
pub count_same : (first second : ℕ → Bool) (bound : ℕ) → ((m : ℕ) → m < bound → first m ≡ second m) → count_below first bound ≡ count_below second bound
count_same first second zero same = refl
count_same first second (suc n) same =
    let here : first n ≡ second n = same n (omega arith) in
    let rest : count_below first n ≡ count_below second n = count_same first second n (λ m low. same m (omega arith)) in
    cc

-- a test that one number more passes counts one more
pub count_one_more : (more less : ℕ → Bool) (bound m : ℕ) → m < bound → more m ≡ true → less m ≡ false → ((j : ℕ) → j ≢ m → more j ≡ less j) →
    count_below more bound ≡ count_below less bound + 1
count_one_more more less zero m low here gone same = absurd (omega arith)
count_one_more more less (suc n) m low here gone same =
    let first : count_below more (suc n) ≡ count_below more n + one_for (more n) = count_suc more n in
    let second : count_below less (suc n) ≡ count_below less n + one_for (less n) = count_suc less n in
    elim (eqb_tells m n) [
      | inl e ↦
          let at : m ≡ n = e.1 in
          let rest : count_below more n ≡ count_below less n = count_same more less n (λ j below. same j (omega arith)) in
          let new : one_for (more n) ≡ 1 = ap one_for (subst (λ (j : ℕ). more j ≡ true) at here) in
          let old : one_for (less n) ≡ 0 = ap one_for (subst (λ (j : ℕ). less j ≡ false) at gone) in
          omega arith
      | inr e ↦
          let apart : m ≢ n = e.1 in
          let rest : count_below more n ≡ count_below less n + 1 = count_one_more more less n m (omega arith) here gone same in
          let both : one_for (more n) ≡ one_for (less n) = ap one_for (same n (omega arith)) in
          omega arith
    ]

-- what passes is counted
pub count_some : (test : ℕ → Bool) (bound m : ℕ) → m < bound → test m ≡ true → 0 < count_below test bound
count_some test zero m low here = absurd (omega arith)
count_some test (suc n) m low here =
    let all : count_below test (suc n) ≡ count_below test n + one_for (test n) = count_suc test n in
    elim (eqb_tells m n) [
      | inl e ↦ let new : one_for (test n) ≡ 1 = ap one_for (subst (λ (j : ℕ). test j ≡ true) e.1 here) in omega arith
      | inr e ↦ let apart : m ≢ n = e.1 in let rest : 0 < count_below test n = count_some test n m (omega arith) here in omega arith
    ]

-- where nothing is counted nothing passes
pub none_passes : (test : ℕ → Bool) (bound : ℕ) → count_below test bound ≡ 0 → (m : ℕ) → m < bound → test m ≡ false
none_passes test bound none m low = false_from_ne_true (test m) (λ e. let some : 0 < count_below test bound = count_some test bound m low e in omega arith)

-- and the other way round
pub count_none : (test : ℕ → Bool) (bound : ℕ) → ((m : ℕ) → m < bound → test m ≡ false) → count_below test bound ≡ 0
count_none test zero none = refl
count_none test (suc n) none =
    let all : count_below test (suc n) ≡ count_below test n + one_for (test n) = count_suc test n in
    let here : one_for (test n) ≡ 0 = ap one_for (none n (omega arith)) in
    let rest : count_below test n ≡ 0 = count_none test n (λ m low. none m (omega arith)) in
    omega arith

-- what is counted is there
pub some_passes : (test : ℕ → Bool) (bound : ℕ) → 0 < count_below test bound → (m : ℕ) × (m < bound) × (test m ≡ true)
some_passes test zero some = absurd (omega arith)
some_passes test (suc n) some = elim (cases_Bool (test n)) [
  | inl e ↦ (n, omega arith, e)
  | inr e ↦
      let all : count_below test (suc n) ≡ count_below test n + one_for (test n) = count_suc test n in
      let here : one_for (test n) ≡ 0 = ap one_for e in
      let rest : 0 < count_below test n = omega arith in
      let found = some_passes test n rest in
      let low : found.0 < n = found.1 in
      (found.0, omega arith, found.2)
]

-- what a loop that counts asks for
pub ruleset counting = (count_next, count_at_most)
