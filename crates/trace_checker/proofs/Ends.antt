-- The first line of a text ends at the first end of a line.
use Rattle.std.proofs.Common.{◌≡◌, ℕ, zero, suc, ◌<◌, ◌≤◌, ◌+◌, ◌-◌, true, false, nat_lt, inl, inr, List, [], ◌∷◌, ◌++◌, Some, None, length, take, drop, get_or, refl, sym, ap, ◌∙◌, arith}
use Rattle.std.proofs.Math.ListN.{get_or-append}
use Rattle.std.proofs.Math.Seq.{take-length, get_or-append_seam}
use Rattle.std.proofs.lemmas.Bool.{eqb-false, eqb-true, ne_eqb, cases_Bool, ltb-false}
use Rattle.std.proofs.lemmas.List.Quantifiers.{position-Some}
use Rattle.std.proofs.lemmas.List.Sums.{position_or_len_is}
use Rattle.std.proofs.lemmas.List.{length-append, length-drop, get_or-drop, get_or_past}
use Rattle.std.proofs.lemmas.List.Sums.{fails_before_first}
use Rattle.std.specs.List.{position, position_or_len}
use Rattle.std.specs.Prelude.{cond, ◌==◌, Result, Err}
use Rattle.parsing.specs.Reads.{SpellsNone, SpellsOnly, Refuses}
use Rattle.parsing.specs.declared.read_error.ReadError.{ReadError}
use Rattle.parsing.specs.declared.read_error.ReadError.TheVariants.{Outside, Memory}
use Rattle.parsing.specs.Words.{Lacks}
use Rattle.trace_checker.specs.declared.line.Line.{Line}
use Rattle.trace_checker.specs.Grammar.{is_end, line_text, IsLine, IsLineBefore}
use Rattle.trace_checker.specs.declared.read.TextFault.{TextFault}
use Rattle.trace_checker.specs.declared.read.TextFault.TheVariants as fault
use Rattle.trace_checker.specs.TextFaults.{fault_of_line, is_listed}
use Rattle.trace_checker.proofs.Lines.{line_lacks, same_cut}

-- no end stands before the first
lacks_take : (i : ℕ) (text : List ℕ) → i ≤ length text → ((k : ℕ) → k < i → is_end (get_or text k 0) ≡ false) → Lacks 10 (take i text)
lacks_take zero text within none = tt
lacks_take (suc i) [] within none = tt
lacks_take (suc i) (b ∷ text) within none = (eqb-false b 10 (none 0 (omega arith)), lacks_take i text (omega (arith, within)) (λ k below. none (suc k) (omega (arith, below))))

-- a text cut at a byte that is known
cut_there : (i : ℕ) (text : List ℕ) (c : ℕ) → i < length text → get_or text i 0 ≡ c → text ≡ take i text ++ c ∷ drop (suc i) text
cut_there i [] c below e = absurd (omega (arith, below))
cut_there zero (b ∷ text) c below e = ap (λ x. x ∷ text) e
cut_there (suc i) (b ∷ text) c below e = ap (λ l. b ∷ l) (cut_there i text c (omega (arith, below)) e)

module _ (text : List ℕ) (i : ℕ) (found : position is_end text ≡ Some i) where
  whole : text ≡ take i text ++ 10 ∷ drop (suc i) text
  whole = let k = position-Some is_end text i 0 found in cut_there i text 10 k.0 (eqb-true (get_or text i 0) 10 k.1)

  plain : Lacks 10 (take i text)
  plain = let k = position-Some is_end text i 0 found in lacks_take i text (omega (arith, k.0)) k.2

  -- the line before the end is the only one that the text begins with
  begins : (line : Line) (rest : List ℕ) → IsLineBefore (line, rest) text → (line_text line ≡ take i text) × (rest ≡ drop (suc i) text)
  begins line rest h = same_cut 10 (line_text line) (take i text) rest (drop (suc i) text) (line_lacks line h.0) plain (sym h.1 ∙ whole)

  pub none_before : SpellsNone IsLine (take i text) → SpellsNone IsLineBefore text
  none_before none (line, rest) h = none line (h.0, sym (begins line rest h).0)

  pub only_before : (line : Line) (rest : List ℕ) → rest ≡ drop (suc i) text → SpellsOnly IsLine (take i text) line → SpellsOnly IsLineBefore text (line, rest)
  only_before line rest e only = (
    (only.0.0, whole ∙ (ap (λ l. l ++ 10 ∷ drop (suc i) text) only.0.1 ∙ ap (λ r. line_text line ++ 10 ∷ r) (sym e))),
    λ v h. same v h,
  ) where
    same : (v : Line × List ℕ) → IsLineBefore v text → v ≡ (line, rest)
    same (l, r) h =
        let k = begins l r h in
        let p : l ≡ line = only.1 l (h.0, sym k.0) in
        let q : r ≡ rest = k.1 ∙ sym e in
        ap (λ x. (x, r)) p ∙ ap (λ x. (line, x)) q

-- no byte of a line ends it
passes_nowhere : (a : List ℕ) (k : ℕ) → Lacks 10 a → k < length a → is_end (get_or a k 0) ≡ false
passes_nowhere [] k lacks below = absurd (omega (arith, below))
passes_nowhere (b ∷ a) zero lacks below = ne_eqb b 10 lacks.0
passes_nowhere (b ∷ a) (suc k) lacks below = passes_nowhere a k lacks.1 (omega (arith, below))

-- the end behind a line is found
end_is_found : (a rest : List ℕ) → Lacks 10 a → position_or_len is_end (a ++ 10 ∷ rest) ≡ length a
end_is_found a rest lacks = position_or_len_is is_end (a ++ 10 ∷ rest) (length a) 0 (omega (arith, length-append a (10 ∷ rest)))
    (λ k below. rw (get_or-append a (10 ∷ rest) 0 k below) (passes_nowhere a k lacks below))
    (λ below. rw (get_or-append_seam a 10 rest 0) refl)

found_is_some : (text : List ℕ) → nat_lt (position_or_len is_end text) (length text) ≡ true → position is_end text ≡ None → ⊥
found_is_some text t none = let k : position is_end text ≡ Some (position_or_len is_end text) = rw t refl in cc

-- where no line ends none stands
pub none_without_end : (text : List ℕ) → position is_end text ≡ None → SpellsNone IsLineBefore text
none_without_end text none (line, rest) h =
    let e : position_or_len is_end text ≡ length (line_text line) = ap (position_or_len is_end) h.1 ∙ end_is_found (line_text line) rest (line_lacks line h.0) in
    let n : length text ≡ length (line_text line) + length (10 ∷ rest) = ap length h.1 ∙ length-append (line_text line) (10 ∷ rest) in
    elim (cases_Bool (nat_lt (position_or_len is_end text) (length text))) [
      | inl t ↦ found_is_some text t none
      | inr f ↦ absurd (omega (arith, ltb-false _ _ f, e, n))
    ]

-- what is deferred behind a place
pub rest_behind : (text : List ℕ) (i : ℕ) → take (length text - (i + 1)) (drop (i + 1) text) ≡ drop (suc i) text
rest_behind text i =
    let next : i + 1 ≡ suc i = omega arith in
    let n : length text - (i + 1) ≡ length (drop (suc i) text) = omega (arith, length-drop (suc i) text) in
    ap (λ k. take (length text - (i + 1)) (drop k text)) next ∙ (ap (λ k. take k (drop (suc i) text)) n ∙ take-length (drop (suc i) text))

-- ---- whether a text tells kind sets

-- it is told by the byte behind the first end of a line
pub listed_behind : (a rest : List ℕ) → Lacks 10 a → is_listed (a ++ 10 ∷ rest) ≡ (get_or rest 0 0 == 65)
listed_behind [] rest lacks = refl
listed_behind (b ∷ a) rest lacks = ap (λ t. cond t (get_or (a ++ 10 ∷ rest) 0 0 == 65) (is_listed (a ++ 10 ∷ rest))) (ne_eqb b 10 lacks.0) ∙ listed_behind a rest lacks.1

unlisted : (text : List ℕ) → ((k : ℕ) → k < length text → is_end (get_or text k 0) ≡ false) → is_listed text ≡ false
unlisted [] none = refl
unlisted (b ∷ text) none = ap (λ t. cond t (get_or text 0 0 == 65) (is_listed text)) (none 0 (omega arith)) ∙ unlisted text (λ k below. none (suc k) (omega (arith, below)))

-- where no line ends none is
pub unlisted_without_end : (text : List ℕ) → position is_end text ≡ None → is_listed text ≡ false
unlisted_without_end text none = elim (cases_Bool (nat_lt (position_or_len is_end text) (length text))) [
  | inl t ↦ absurd (found_is_some text t none)
  | inr f ↦ unlisted text (λ k below. fails_before_first is_end text k 0 (let past = ltb-false _ _ f in omega (arith, past, below)))
]

-- where one does
pub listed_at : (text : List ℕ) (i : ℕ) → position is_end text ≡ Some i → is_listed text ≡ (get_or text (i + 1) 0 == 65)
listed_at text i found =
    let next : suc i + 0 ≡ i + 1 = omega arith in
    ap is_listed (whole text i found) ∙ (listed_behind (take i text) (drop (suc i) text) (plain text i found) ∙ ap (λ b. b == 65) (get_or-drop (suc i) text 0 0 ∙ ap (λ k. get_or text k 0) next))

-- no byte stands past the end
pub unlisted_past : (text : List ℕ) (i : ℕ) → position is_end text ≡ Some i → length text ≤ i + 1 → is_listed text ≡ false
unlisted_past text i found past = listed_at text i found ∙ ap (λ b. b == 65) (get_or_past text (i + 1) 0 past)

-- an error that says that the text is outside the grammar
pub outside_refuses : {A T R : Type 0} (Spells : A → T → Type 0) (text : T) (error : ReadError) → ◌≡◌ {A = Result R ReadError} (Err error) (Err Outside) → Refuses Spells text error → SpellsNone Spells text
outside_refuses Spells text Outside told none = none
outside_refuses Spells text Memory told none = absurd (cc)

-- an error that says that an allocation failed, of a reader of something else
pub memory_told : {R S : Type 0} (error : ReadError) → ◌≡◌ {A = Result R ReadError} (Err error) (Err Memory) → ◌≡◌ {A = Result S ReadError} (Err error) (Err Memory)
memory_told Outside told = absurd (cc)
memory_told Memory told = refl

-- the first byte of a front is that of the text
pub first_byte_of : (text : List ℕ) (i : ℕ) → get_or (take i text) 0 0 ≡ 65 → get_or text 0 0 ≡ 65
first_byte_of [] zero is = is
first_byte_of [] (suc i) is = is
first_byte_of (b ∷ text) zero is = absurd (omega (arith, is))
first_byte_of (b ∷ text) (suc i) is = is

-- ---- what is told of a line that is not read

-- where it is no line, there is none to be read
pub unread_memory : (error : ReadError) (number : ℕ) (told : TextFault) → told ≡ fault_of_line error number → (error ≡ Outside → ⊥) → told ≡ fault.Memory
unread_memory Outside number told is read = absurd (read refl)
unread_memory Memory number told is read = is

module _ {R : Type 0} (n : ℕ) where
  pub unread_at : (error : ReadError) (number : ℕ) (told : TextFault) → told ≡ fault_of_line error number → ◌≡◌ {A = Result R TextFault} (Err told) (Err (fault.Line n)) → (error ≡ Outside) × (n ≡ number)
  unread_at Outside number told is line = (refl, cc)
  unread_at Memory number told is line = absurd (cc)

  -- and nothing is told of order or of kind sets
  pub unread_in_order : (error : ReadError) (number : ℕ) (told : TextFault) → told ≡ fault_of_line error number → ◌≡◌ {A = Result R TextFault} (Err told) (Err (fault.Order n)) → ⊥
  unread_in_order Outside number told is order = cc
  unread_in_order Memory number told is order = cc

  pub unread_in_place : (error : ReadError) (number : ℕ) (told : TextFault) → told ≡ fault_of_line error number → ◌≡◌ {A = Result R TextFault} (Err told) (Err (fault.Lists n)) → ⊥
  unread_in_place Outside number told is lists = cc
  unread_in_place Memory number told is lists = cc
