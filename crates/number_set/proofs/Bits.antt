-- Words of bits: one bit set, and one word within another.
use Rattle.std.proofs.Common.{ℕ, ◌+◌, ◌*◌, ◌/◌, ◌%◌, ◌^◌, ◌<◌, ◌≤◌, ◌≡◌, ◌≢◌, true, false, ◌||◌, eqb, min, inl, inr, List, length, get_or, sym, ap, ◌∙◌, subst, arith, get_or-set_same, get_or-set_other}
use Rattle.std.proofs.Math.ListN.{set}
use Rattle.std.specs.Int.{bit_at, w64}
use Rattle.std.specs.Prelude.{bit_or, bit_and}
use Rattle.std.proofs.lemmas.Bool.{both_ways, eqb-true, eq-eqb, ne_eqb, cases_lt}
use Rattle.std.proofs.lemmas.Bool.Decides.{eqb_tells}
use Rattle.std.proofs.lemmas.Nat.Bits.{bit_at_and, bit_at_set_same, bit_at_set_other, bit_at-lt, same_from_bits, same_from_bits_below, bit_at-zero, bit_at_above}
use Rattle.number_set.specs.Members.{contains}

-- where a bit is set, a word within another has it
bit_within : (x y i : ℕ) → bit_and x y ≡ x → bit_at x i ≡ 1 → bit_at y i ≡ 1
bit_within x y i e set =
    let both : min (bit_at x i) (bit_at y i) ≡ 1 = sym (bit_at_and x y i) ∙ (ap (λ (z : ℕ). bit_at z i) e ∙ set) in
    let low : bit_at y i < 2 = bit_at-lt y i in
    omega arith

-- a bit of the shared part is that of the first word, where the second has each bit of the first
bit_kept : (x y i : ℕ) → (bit_at x i ≡ 1 → bit_at y i ≡ 1) → bit_at (bit_and x y) i ≡ bit_at x i
bit_kept x y i keeps = elim (eqb_tells (bit_at x i) 1) [
  | inl one ↦
      let there : bit_at y i ≡ 1 = keeps one.1 in
      let here : bit_at x i ≡ 1 = one.1 in
      bit_at_and x y i ∙ omega arith
  | inr other ↦
      let apart : bit_at x i ≢ 1 = other.1 in
      let low : bit_at x i < 2 = bit_at-lt x i in
      bit_at_and x y i ∙ omega arith
]

-- a word whose bits are those of another is within it
within_bits : (x y : ℕ) → ((i : ℕ) → 64 ≤ i → bit_at x i ≡ 0) → ((i : ℕ) → i < 64 → bit_at x i ≡ 1 → bit_at y i ≡ 1) → bit_and x y ≡ x
within_bits x y short keeps = same_from_bits (bit_and x y) x (λ i. bit_kept x y i (λ set_here. elim (cases_lt i 64) [
  | inl low ↦ keeps i low set_here
  | inr high ↦ let none : bit_at x i ≡ 0 = short i high in absurd (omega arith)
]))

-- the bits that two words share
shared_bit : (x y i : ℕ) → bit_at x i ≡ 1 → bit_at y i ≡ 1 → bit_at (bit_and x y) i ≡ 1
shared_bit x y i a b = bit_at_and x y i ∙ omega arith

bit_shared : (x y i : ℕ) → bit_at (bit_and x y) i ≡ 1 → (bit_at x i ≡ 1) × (bit_at y i ≡ 1)
bit_shared x y i both =
    let least : min (bit_at x i) (bit_at y i) ≡ 1 = sym (bit_at_and x y i) ∙ both in
    let one : bit_at x i < 2 = bit_at-lt x i in
    let other : bit_at y i < 2 = bit_at-lt y i in
    (omega arith, omega arith)

short_shared : (x y : ℕ) → x < 2 ^ 64 → (i : ℕ) → 64 ≤ i → bit_at (bit_and x y) i ≡ 0
short_shared x y few i high = let none : bit_at x i ≡ 0 = bit_at_above x 64 i few high in bit_at_and x y i ∙ omega arith

-- ---- one bit set

-- the words with the bit of a number set
abbrev pub with_bit : List ℕ → ℕ → List ℕ
with_bit words number = set words (number / 64) (bit_or (get_or words (number / 64) 0) (1 * 2 ^ (number % 64) % 2 ^ 64))

-- the number is a member then
bit_of_same : (words : List ℕ) (number : ℕ) → number / 64 < length words → bit_at (get_or (with_bit words number) (number / 64) 0) (number % 64) ≡ 1
bit_of_same words number room =
    let low : number % 64 < 64 = omega arith in
    ap (λ (x : ℕ). bit_at x (number % 64)) (get_or-set_same words (number / 64) _ 0 room) ∙ bit_at_set_same w64 (get_or words (number / 64) 0) (number % 64) low

-- every other bit stays
bit_of_other : (words : List ℕ) (number n : ℕ) → number / 64 < length words → number ≢ n →
    bit_at (get_or (with_bit words number) (n / 64) 0) (n % 64) ≡ bit_at (get_or words (n / 64) 0) (n % 64)
bit_of_other words number n room apart = elim (eqb_tells (n / 64) (number / 64)) [
  | inl here ↦
      let same : n / 64 ≡ number / 64 = here.1 in
      let low : number % 64 < 64 = omega arith in
      let other : n % 64 ≢ number % 64 = omega arith in
      ap (λ (x : ℕ). bit_at (get_or (with_bit words number) x 0) (n % 64)) same
      ∙ (ap (λ (x : ℕ). bit_at x (n % 64)) (get_or-set_same words (number / 64) _ 0 room)
      ∙ (bit_at_set_other w64 (get_or words (number / 64) 0) (number % 64) low (n % 64) other
      ∙ ap (λ (x : ℕ). bit_at (get_or words x 0) (n % 64)) (sym same)))
  | inr there ↦ ap (λ (x : ℕ). bit_at x (n % 64)) (get_or-set_other words (number / 64) (n / 64) _ 0 there.1)
]

pub put_contains : (words : List ℕ) (number n : ℕ) → number / 64 < length words → contains (with_bit words number) n ≡ (eqb number n || contains words n)
put_contains words number n room = elim (eqb_tells number n) [
  | inl same ↦
      let set_there : contains (with_bit words number) number ≡ true = eq-eqb _ 1 (bit_of_same words number room) in
      subst (λ (m : ℕ). contains (with_bit words number) m ≡ true) same.1 set_there ∙ sym (ap (λ b. b || contains words n) same.0)
  | inr other ↦ ap (λ (x : ℕ). eqb x 1) (bit_of_other words number n room other.1) ∙ sym (ap (λ b. b || contains words n) other.0)
]

-- ---- words compared

-- a member of a set is a bit of the word at its place
bit_of : (words : List ℕ) (n index : ℕ) → n / 64 ≡ index → contains words n ≡ true → bit_at (get_or words index 0) (n % 64) ≡ 1
bit_of words n index here member = subst (λ (i : ℕ). bit_at (get_or words i 0) (n % 64) ≡ 1) here (eqb-true _ 1 member)

member_of : (words : List ℕ) (n index : ℕ) → n / 64 ≡ index → bit_at (get_or words index 0) (n % 64) ≡ 1 → contains words n ≡ true
member_of words n index here set_here = eq-eqb _ 1 (subst (λ (i : ℕ). bit_at (get_or words i 0) (n % 64) ≡ 1) (sym here) set_here)

-- a number of a word and a bit
abbrev number_of : ℕ → ℕ → ℕ
number_of index i = 64 * index + i

word_of : (index i : ℕ) → i < 64 → number_of index i / 64 ≡ index
word_of index i low = omega arith

place_of : (index i : ℕ) → i < 64 → number_of index i % 64 ≡ i
place_of index i low = omega arith

-- a bit of a word is the member that it stands for
member_at : (words : List ℕ) (index i : ℕ) → i < 64 → bit_at (get_or words index 0) i ≡ 1 → contains words (number_of index i) ≡ true
member_at words index i low set_here =
    member_of words (number_of index i) index (word_of index i low) (subst (λ (r : ℕ). bit_at (get_or words index 0) r ≡ 1) (sym (place_of index i low)) set_here)

bit_at_member : (words : List ℕ) (index i : ℕ) → i < 64 → contains words (number_of index i) ≡ true → bit_at (get_or words index 0) i ≡ 1
bit_at_member words index i low member =
    subst (λ (r : ℕ). bit_at (get_or words index 0) r ≡ 1) (place_of index i low) (bit_of words (number_of index i) index (word_of index i low) member)

-- a word that has what two words share takes along the members of both
pub share_within : (first second third : List ℕ) (index n : ℕ) → n / 64 ≡ index →
    bit_and (bit_and (get_or first index 0) (get_or second index 0)) (get_or third index 0) ≡ bit_and (get_or first index 0) (get_or second index 0) →
    contains first n ≡ true → contains second n ≡ true → contains third n ≡ true
share_within first second third index n here same member other =
    member_of third n index here (bit_within (bit_and (get_or first index 0) (get_or second index 0)) (get_or third index 0) (n % 64) same
    (shared_bit (get_or first index 0) (get_or second index 0) (n % 64) (bit_of first n index here member) (bit_of second n index here other)))

-- and the other way round
pub within_share : (first second third : List ℕ) (index : ℕ) → get_or first index 0 < 2 ^ 64 →
    ((n : ℕ) → contains first n ≡ true → contains second n ≡ true → contains third n ≡ true) →
    bit_and (bit_and (get_or first index 0) (get_or second index 0)) (get_or third index 0) ≡ bit_and (get_or first index 0) (get_or second index 0)
within_share first second third index few within =
    within_bits (bit_and (get_or first index 0) (get_or second index 0)) (get_or third index 0) (short_shared (get_or first index 0) (get_or second index 0) few)
    (λ i low set_here.
    let both = bit_shared (get_or first index 0) (get_or second index 0) i set_here in
    bit_at_member third index i low (within (number_of index i) (member_at first index i low both.0) (member_at second index i low both.1)))

-- ---- words without bits

-- a word that is 0 has no members
pub none_in_word : (words : List ℕ) (index n : ℕ) → n / 64 ≡ index → get_or words index 0 ≡ 0 → contains words n ≡ false
none_in_word words index n here none =
    let bit : bit_at (get_or words (n / 64) 0) (n % 64) ≡ 0 = ap (λ (i : ℕ). bit_at (get_or words i 0) (n % 64)) here ∙ (ap (λ (x : ℕ). bit_at x (n % 64)) none ∙ bit_at-zero (n % 64)) in
    ne_eqb (bit_at (get_or words (n / 64) 0) (n % 64)) 1 (λ e. omega arith)

-- and the other way round
pub word_of_none : (words : List ℕ) (index : ℕ) → get_or words index 0 < 2 ^ 64 → ((n : ℕ) → contains words n ≡ false) → get_or words index 0 ≡ 0
word_of_none words index few none = same_from_bits_below 64 (get_or words index 0) 0 few (omega arith) (λ i low.
    let small : bit_at (get_or words index 0) i < 2 = bit_at-lt (get_or words index 0) i in
    let unset : bit_at (get_or words index 0) i ≢ 1 = λ set_here. both_ways (contains words (number_of index i)) (none (number_of index i)) (member_at words index i low set_here) in
    let zero_bit : bit_at (get_or words index 0) i ≡ 0 = omega arith in
    zero_bit ∙ sym (bit_at-zero i))
