-- The entries of a record, one more.
use Rattle.std.proofs.Common.{◌≡◌, ℕ, ◌+◌, List, [], ◌∷◌, ◌++◌, length, length-append, refl, sym, ap, ◌∙◌, subst, arith}
use Rattle.session.specs.Records.{IsReadEntry}
use Rattle.session.specs.declared.entry.Entry.{Entry as Read}
use Rattle.session_records.specs.Entries.{AreEntries}

pub entries_more : (text : List ℕ) (reads : List Read) (middle behind : List ℕ) (read : Read) → AreEntries text reads middle → IsReadEntry middle read behind → AreEntries text (reads ++ read ∷ []) behind
entries_more text [] middle behind read so_far is = (behind, subst (λ t. IsReadEntry t read behind) (sym so_far) is, refl)
entries_more text (x ∷ reads) middle behind read so_far is = (so_far.0, so_far.1, entries_more so_far.0 reads middle behind read so_far.2 is)

pub more_count : (old new : List Read) (read : Read) (count : ℕ) → length old ≡ count → new ≡ old ++ read ∷ [] → length new ≡ count + 1
more_count old new read count many more = let e = length-append old (read ∷ []) in let n = ap length more in omega (arith, many, e, n)
