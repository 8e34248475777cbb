-- The paths at each system, one by one.
use Rattle.std.proofs.Common.{ℕ, ◌+◌, ◌≤◌, ◌≡◌, inl, inr, List, [], ◌∷◌, ◌++◌, length, get_or, refl, sym, ap, ◌∙◌, subst, arith}
use Rattle.std.proofs.lemmas.Bool.{cases_lt}
use Rattle.std.proofs.lemmas.List.{get_or_append_left, get_or_push, length_push}
use Rattle.model.specs.steps.Schedule.{Schedule}
use Rattle.ambiguity_report.specs.declared.before.Paths.{Paths}
use Rattle.ambiguity_report.specs.Paths.{ArePaths, AreAllPaths}

pub paths_none : (s : Schedule) (all : List Paths) → all ≡ [] → AreAllPaths s 0 all
paths_none s all none = subst (AreAllPaths s 0) (sym none) (record { long = refl; each = λ n low d. absurd (omega arith) })

pub paths_next : (s : Schedule) (count : ℕ) (all new : List Paths) (p : Paths) → AreAllPaths s count all → ArePaths s count p → new ≡ all ++ p ∷ [] → AreAllPaths s (count + 1) new
paths_next s count all new p front here more =
    let long : length all ≡ count = front.long in
    record {
      long = ap length more ∙ (length_push all p ∙ ap (λ k. k + 1) long);
      each = λ n low d. subst (λ (xs : List Paths). ArePaths s n (get_or xs n d)) (sym more) (elim (cases_lt n count) [
        | inl below ↦ subst (ArePaths s n) (sym (get_or_append_left all (p ∷ []) d n (omega arith))) (front.each n below d)
        | inr above ↦ let at : n ≡ count = omega arith in subst (ArePaths s n) (sym (get_or_push all p d n (omega arith))) (subst (λ (m : ℕ). ArePaths s m p) (sym at) here)
      ]);
    }

pub paths_all : (s : Schedule) (n end : ℕ) (all : List Paths) → n ≤ end → end ≤ n → end ≡ length s.systems → AreAllPaths s n all → AreAllPaths s (length s.systems) all
paths_all s n end all within past count front = let at : n ≡ length s.systems = omega arith in subst (λ (k : ℕ). AreAllPaths s k all) at front
