-- The lines of what is said of runs, one after the other.
use Rattle.std.proofs.Common.{◌≡◌, ℕ, zero, suc, ◌+◌, ◌<◌, ◌≤◌, List, [], ◌∷◌, ◌++◌, length, take, get_or, append_assoc, append-nil, add-zero, sym, ap, ◌∙◌, arith}
use Rattle.trace_checker.specs.declared.check.Verdict.{Verdict}
use Rattle.printing.specs.CheckText.{verdict_line, verdict_lines, check_text}

-- one run more is one line more
verdict_lines-take-suc : (n : ℕ) (verdicts : List Verdict) (i : ℕ) (d : Verdict) → i < length verdicts
    → verdict_lines n (take (suc i) verdicts) ≡ verdict_lines n (take i verdicts) ++ verdict_line (n + i) (get_or verdicts i d)
verdict_lines-take-suc n [] i d h = absurd (omega arith)
verdict_lines-take-suc n (v ∷ vs) zero d h = simp (append-nil, add-zero)
verdict_lines-take-suc n (v ∷ vs) (suc i) d h =
    let here : n + suc i ≡ suc n + i = omega arith in
    let front = verdict_lines (suc n) (take i vs) in
    ap (λ l. verdict_line n v ++ l) (verdict_lines-take-suc (suc n) vs i d (omega arith))
    ∙ (sym (append_assoc (verdict_line n v) front (verdict_line (suc n + i) (get_or vs i d))) ∙ ap (λ k. (verdict_line n v ++ front) ++ verdict_line k (get_or vs i d)) (sym here))

pub check_text-more : (verdicts : List Verdict) (i number : ℕ) (d verdict : Verdict) (now next : List ℕ) → verdict ≡ get_or verdicts i d → i < length verdicts → number ≡ i
    → now ≡ check_text (take i verdicts) → next ≡ now ++ verdict_line (number + 1) verdict → next ≡ check_text (take (i + 1) verdicts)
check_text-more verdicts i number d verdict now next there below count before after =
    let last : i + 1 ≡ suc i = omega arith in
    let here : number + 1 ≡ 1 + i = omega (arith, count) in
    after ∙ (ap (λ l. l ++ verdict_line (number + 1) verdict) before ∙ (ap (λ k. check_text (take i verdicts) ++ verdict_line k verdict) here
    ∙ (ap (λ v. check_text (take i verdicts) ++ verdict_line (1 + i) v) there ∙ (sym (verdict_lines-take-suc 1 verdicts i d below) ∙ ap (λ k. check_text (take k verdicts)) (sym last)))))
