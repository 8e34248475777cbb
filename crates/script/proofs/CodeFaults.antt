-- The first fault of code, one instruction after the other.
use Rattle.std.proofs.Common.{◌≡◌, ℕ, zero, suc, ◌+◌, ◌-◌, ◌<◌, ◌≤◌, Bool, List, [], ◌∷◌, ◌++◌, length, get_or, take, drop, Option, Some, None, refl, sym, ap, ◌∙◌, arith}
use Rattle.std.proofs.lemmas.List.{take_more, drop_more, length-drop}
use Rattle.model.specs.access.Query.{Term}
use Rattle.model.specs.access.Access.{Params}
use Rattle.script.specs.declared.instruction.Instruction.{Instruction}
use Rattle.script.specs.declared.fault.Cause.{Cause}
use Rattle.script.specs.declared.script_body.Rounds.{Rounds}
use Rattle.script.specs.Script.{ScriptBlock}
use Rattle.script.specs.Faults.{is_at_event, instruction_cause, spawn_cause, cause_after, least, fault_at, code_fault}

-- so many are left of a list after a place
rest_long : {A : Type 0} (xs : List A) (i : ℕ) → length (drop (i + 1) xs) ≡ length xs - i - 1
rest_long xs i = length-drop (i + 1) xs ∙ omega arith

taken : {A : Type 0} (xs : List A) (i : ℕ) → i < length xs → length (take i xs) ≡ i
taken [] i l = absurd (omega arith)
taken (x ∷ xs) zero l = refl
taken (x ∷ xs) (suc i) l = ap suc (taken xs i (omega arith))

none_left : {A : Type 0} (xs : List A) (i : ℕ) → length xs ≤ i → drop i xs ≡ []
none_left [] zero l = refl
none_left [] (suc i) l = refl
none_left (x ∷ xs) zero l = absurd (omega arith)
none_left (x ∷ xs) (suc i) l = none_left xs i (omega arith)

module _ (params : Params) (query : List Term) (rounds : Rounds) (before : List ScriptBlock) where
  -- code of which the first instruction has no fault, or this one
  passes : (done code : List Instruction) (x : Instruction) → cause_after params query rounds before done (length code) x ≡ None
      → code_fault params query rounds before done (x ∷ code) ≡ code_fault params query rounds before (done ++ x ∷ []) code
  passes done code x none = rw none refl

  stops : (done code : List Instruction) (x : Instruction) (cause : Cause) → cause_after params query rounds before done (length code) x ≡ Some cause
      → code_fault params query rounds before done (x ∷ code) ≡ Some (fault_at (length before) (length done) cause)
  stops done code x cause some = rw some refl

  -- what is told of the instruction at a place is its cause
  cause_there : (code : List Instruction) (i : ℕ) (d : Instruction) (event : Bool) (own spawned told : Option Cause) → i < length code → event ≡ is_at_event rounds
      → own ≡ instruction_cause params query event (length code - i - 1) (get_or code i d) → spawned ≡ spawn_cause rounds before (take i code) (get_or code i d) → told ≡ least own spawned
      → cause_after params query rounds before (take i code) (length (drop (i + 1) code)) (get_or code i d) ≡ told
  cause_there code i d event own spawned told l event-is own-is spawned-is told-is = rw (rest_long code i, told-is, own-is, spawned-is, event-is) refl

  -- no fault at a place: it is one of the rest, if any
  pub further : (code : List Instruction) (i : ℕ) (d : Instruction) (event : Bool) (own spawned told : Option Cause) → i < length code → event ≡ is_at_event rounds
      → own ≡ instruction_cause params query event (length code - i - 1) (get_or code i d) → spawned ≡ spawn_cause rounds before (take i code) (get_or code i d) → told ≡ least own spawned
      → told ≡ None → code_fault params query rounds before (take i code) (drop i code) ≡ code_fault params query rounds before (take (i + 1) code) (drop (i + 1) code)
  further code i d event own spawned told l event-is own-is spawned-is told-is none =
      ap (code_fault params query rounds before (take i code)) (drop_more code i d l)
      ∙ passes (take i code) (drop (i + 1) code) (get_or code i d) (cause_there code i d event own spawned told l event-is own-is spawned-is told-is ∙ none)
      ∙ ap (λ done. code_fault params query rounds before done (drop (i + 1) code)) (sym (take_more code i d l))

  -- a fault at a place
  pub found : (code : List Instruction) (i : ℕ) (d : Instruction) (event : Bool) (own spawned told : Option Cause) (cause : Cause) (count : ℕ) → i < length code → event ≡ is_at_event rounds
      → own ≡ instruction_cause params query event (length code - i - 1) (get_or code i d) → spawned ≡ spawn_cause rounds before (take i code) (get_or code i d) → told ≡ least own spawned
      → told ≡ Some cause → length before ≡ count → code_fault params query rounds before (take i code) (drop i code) ≡ Some (fault_at count i cause)
  found code i d event own spawned told cause count l event-is own-is spawned-is told-is some counted =
      ap (code_fault params query rounds before (take i code)) (drop_more code i d l)
      ∙ stops (take i code) (drop (i + 1) code) (get_or code i d) cause (cause_there code i d event own spawned told l event-is own-is spawned-is told-is ∙ some)
      ∙ rw (counted, taken code i l) refl

  -- no place is left
  pub ended : (code : List Instruction) (i : ℕ) → length code ≤ i → code_fault params query rounds before (take i code) (drop i code) ≡ None
  ended code i l = ap (code_fault params query rounds before (take i code)) (none_left code i l)
