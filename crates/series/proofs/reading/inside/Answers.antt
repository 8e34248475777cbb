use Rattle.std.proofs.Common.{◌≡◌, ◌≢◌, ℕ, List, [], ◌∷◌, ◌++◌, Option, Some, None, sym, ap, ◌∙◌, lit<}
use Rattle.std.specs.Borrow.{Bor}
use Rattle.std.specs.Option.{MatchOption}
use Rattle.std.proofs.lemmas.List.{append_cancel_left}
use Rattle.std.proofs.lemmas.Str.Pattern.{strip_suffix_char}
use Rattle.series.specs.Names.{HasNone, IsWithin}
use Rattle.series.proofs.reading.inside.Goals as goal

-- what stands between both
within : (opening text rest : List ℕ) (r : Option (Bor (List ℕ))) → text ≡ opening ++ rest → MatchOption r ((front : List ℕ) → rest ≢ front ++ (41 ∷ [])) (λ x. rest ≡ x.now ++ (41 ∷ []))
    → MatchOption r (HasNone opening text) (λ x. IsWithin opening x.now text)
within opening text rest None whole cut = λ inner is. cut inner (append_cancel_left opening rest (inner ++ 41 ∷ []) (sym whole ∙ is))
within opening text rest (Some x) whole cut = whole ∙ ap (λ (bytes : List ℕ). opening ++ bytes) cut

pub returns : goal.returns
returns c =
    let opened = c.in_ok-rest.ensures.cases in
    let whole = opened.1.1 ∙ ap (λ (bytes : List ℕ). c.args.opening.now ++ bytes) (sym opened.2) in
    within c.args.opening.now c.args.text.now c.in_ok-rest.rest.now c.strip_suffix.result whole (strip_suffix_char 41 c.in_ok-rest.rest.now c.strip_suffix.result c.strip_suffix.ensures.cases (lit< tt))
