-- The texts of what is found.
use Rattle.std.specs.Prelude.{ℕ, ◌≡◌, ◌+◌, List, ◌∷◌, ◌++◌, [], codes, Option, Some, None}
use Rattle.std.specs.Fmt.{decimal}
use Rattle.std.specs.List.{slice_get}
use Rattle.findings.specs.Apart.{IsFirstApart}
use Rattle.findings.specs.declared.diverging.Parting.{Parting}
use Rattle.findings.specs.declared.diverging.Parting.TheVariants as parting

-- whether the worlds of two records agree, which have so many entries
abbrev pub agreement_line : Parting → ℕ → ℕ → List ℕ
agreement_line (parting.None count) one other = codes "worlds agree after each of " ++ (decimal count ++ (codes " entries" ++ 10 ∷ []))
agreement_line (parting.Longer count) one other =
    codes "worlds agree after each of " ++ (decimal count ++ (codes " entries, of " ++ (decimal one ++ (codes " and " ++ (decimal other ++ 10 ∷ [])))))
agreement_line (parting.After entry world beside) one other = codes "worlds differ after entry " ++ (decimal entry ++ 10 ∷ [])

-- the requests of the entry of a number, where they differ
abbrev pub differing_line : ℕ → List ℕ → List ℕ → List ℕ
differing_line number one other = codes "requests differ in entry " ++ (decimal number ++ (codes ": " ++ (one ++ (codes " | " ++ (other ++ 10 ∷ [])))))

-- the same where one of two lists may have none there, or neither has
abbrev pub requests_line : ℕ → Option (List ℕ) → Option (List ℕ) → List ℕ
requests_line number None None = codes "requests are the same" ++ 10 ∷ []
requests_line number None (Some other) = differing_line number (codes "none") other
requests_line number (Some one) None = differing_line number one (codes "none")
requests_line number (Some one) (Some other) = differing_line number one other

-- the text of the first entry whose requests differ
abbrev pub IsRequestsText : List (List ℕ) → List (List ℕ) → List ℕ → Type 0
IsRequestsText lines others text = (place : ℕ) × IsFirstApart lines others place × (text ≡ requests_line (place + 1) (slice_get lines place) (slice_get others place))
