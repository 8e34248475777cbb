-- Entries that are taken again one by one.
use Rattle.std.proofs.Common.{◌≡◌, ◌<◌, ◌≤◌, ◌+◌, ℕ, zero, suc, List, [], ◌∷◌, ◌++◌, length, take, get_or, slice_get, Option, Some, None, refl, sym, subst, ◌∙◌, inl, inr, arith}
use Rattle.std.specs.Prelude.{MatchOption}
use Rattle.std.proofs.lemmas.List.{take_all}
use Rattle.std.proofs.lemmas.Option.{get_or_from_slice_get, slice_get_cases}
use Rattle.model.specs.shown.Outcome.{BodyMeaning}
use Rattle.model.proofs.lists.Turns.{seen_next}
use Rattle.script.specs.declared.script_body.ScriptBody.{ScriptBody}
use Rattle.session.specs.Live.{Live}
use Rattle.session.specs.declared.entry.Entry.{Entry as Read}
use Rattle.session_records.specs.Diverging.{AreAllRetaken, AreRetaken, IsRetaken}

-- one more
retaken_next : (bodies : List BodyMeaning) (old mid new : Live ScriptBody) (reads : List Read) (read : Read) → AreRetaken bodies old reads mid → IsRetaken bodies mid read new → AreRetaken bodies old (reads ++ read ∷ []) new
retaken_next bodies old mid new [] read so_far is = (new, subst (λ l. IsRetaken bodies l read new) (sym so_far) is, refl)
retaken_next bodies old mid new (x ∷ reads) read so_far is = (so_far.0, so_far.1, retaken_next bodies so_far.0 mid new reads read so_far.2 is)

-- the entry at a place, where there is one
pub retaken_more : (bodies others : List BodyMeaning) (old mid new : Live ScriptBody) (reads : List Read) (i : ℕ) → others ≡ bodies → AreRetaken bodies old (take i reads) mid → MatchOption (slice_get reads i) (new ≡ mid) (λ read. IsRetaken others mid read new)
    → AreRetaken bodies old (take (i + 1) reads) new
retaken_more bodies others old mid new reads i same so_far next = elim (slice_get_cases reads i).1 [
  | inl (r, known, there, _) ↦ subst (λ rs. AreRetaken bodies old rs new) (sym (seen_next reads i r known (sym (get_or_from_slice_get reads i r r there))))
      (retaken_next bodies old mid new (take i reads) r so_far (subst (λ bs. IsRetaken bs mid r new) same (subst (λ o. MatchOption o (new ≡ mid) (λ read. IsRetaken others mid read new)) there next)))
  | inr (over, gone) ↦
      let stays : new ≡ mid = subst (λ o. MatchOption o (new ≡ mid) (λ read. IsRetaken others mid read new)) gone next in
      subst (λ rs. AreRetaken bodies old rs new) (take_all i reads over ∙ sym (take_all (i + 1) reads (omega (arith, over)))) (subst (AreRetaken bodies old (take i reads)) (sym stays) so_far)
]

-- all of them
pub retaken_all : (bodies : List BodyMeaning) (old new : Live ScriptBody) (reads : List Read) (i : ℕ) → length reads ≤ i → AreRetaken bodies old (take i reads) new → AreAllRetaken bodies old reads
retaken_all bodies old new reads i over so_far = (new, subst (λ rs. AreRetaken bodies old rs new) (take_all i reads over) so_far)
