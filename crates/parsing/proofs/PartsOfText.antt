-- The parts of a text are one list.
use Rattle.std.proofs.Common.{◌≡◌, ℕ, List, Result, IfOk, sym, ◌∙◌, ap}
use Rattle.std.proofs.lemmas.Result.{IfOk-weaker}
use Rattle.std.proofs.lemmas.List.Splits.{join_with_byte-slice_split}
use Rattle.parsing.specs.Parts.{ArePartsOf}
use Rattle.parsing.proofs.Cuts.{cut, cut_join, cut_filled, lacks_cut}

-- what the cut gives are the parts
pub cut_parts : (text : List ℕ) → ArePartsOf (cut 44 text) text
cut_parts text = (cut_filled 44 text, lacks_cut 44 text, sym (join_with_byte-slice_split 44 text))

-- and there are no others
pub parts_cut : (parts : List (List ℕ)) (text : List ℕ) → ArePartsOf parts text → parts ≡ cut 44 text
parts_cut parts text h = sym (ap (cut 44) h.2 ∙ cut_join 44 parts h.0 h.1)

pub same_parts : (ps qs : List (List ℕ)) (text : List ℕ) → ArePartsOf ps text → ArePartsOf qs text → ps ≡ qs
same_parts ps qs text h k = parts_cut ps text h ∙ sym (parts_cut qs text k)

-- a call that gives the cut gives the parts
pub parts_from_cut : {T E : Type 0} (r : Result T E) (items : T → List (List ℕ)) (text : List ℕ)
    → IfOk r (λ w. items w ≡ cut 44 text) → IfOk r (λ w. ArePartsOf (items w) text)
parts_from_cut {T} r items text h =
    IfOk-weaker r (λ w. items w ≡ cut 44 text) (λ w. ArePartsOf (items w) text) (λ w e. rw e (cut_parts text)) h
