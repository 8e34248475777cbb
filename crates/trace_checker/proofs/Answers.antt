-- The line of a condition is that of its tail.
use Rattle.std.proofs.Common.{◌≡◌, ℕ, Bool, List, [], ◌∷◌, length, take, drop, get_or, ◌≤◌, ◌-◌, refl, sym, ap, subst, ◌∙◌, arith}
use Rattle.std.proofs.Math.Seq.{take-length}
use Rattle.parsing.specs.Reads.{SpellsNone, SpellsOnly}
use Rattle.model.specs.declared.steps.Step.TheVariants.{Cond, Start, Skip, Finish, Sync}
use Rattle.trace_checker.specs.Grammar.{IsAnswerTail, IsLine}
use Rattle.trace_checker.specs.declared.line.Line.{Line}
use Rattle.trace_checker.specs.declared.line.Line.TheVariants.{Begin, Take, There}

-- no other line than that of a condition begins with its letter
pub none_asked : (tail : List ℕ) → SpellsNone IsAnswerTail tail → SpellsNone IsLine (67 ∷ 32 ∷ tail)
none_asked tail none (Begin n) h = absurd (omega (arith, ap (λ b. get_or b 0 0) h.1))
none_asked tail none (Take (Cond c answer)) h = none (c, answer) (h.0, ap (λ b. drop 2 b) h.1)
none_asked tail none (Take (Start n)) h = absurd (omega (arith, ap (λ b. get_or b 0 0) h.1))
none_asked tail none (Take (Skip n)) h = absurd (omega (arith, ap (λ b. get_or b 0 0) h.1))
none_asked tail none (Take (Finish n)) h = absurd (omega (arith, ap (λ b. get_or b 0 0) h.1))
none_asked tail none (Take (Sync k)) h = absurd (omega (arith, ap (λ b. get_or b 0 0) h.1))
none_asked tail none (There ns) h = absurd (omega (arith, ap (λ b. get_or b 0 0) h.1))

pub only_asked : (tail : List ℕ) (c : ℕ) (answer : Bool) → SpellsOnly IsAnswerTail tail (c, answer) → SpellsOnly IsLine (67 ∷ 32 ∷ tail) (Take (Cond c answer))
only_asked tail c answer only = ((only.0.0, ap (λ b. 67 ∷ 32 ∷ b) only.0.1), other) where
  same : (d : ℕ) (a : Bool) → ◌≡◌ {A = ℕ × Bool} (d, a) (c, answer) → Take (Cond d a) ≡ Take (Cond c answer)
  same d a e = ap (λ p. Take (Cond p.0 p.1)) e

  other : (line : Line) → IsLine line (67 ∷ 32 ∷ tail) → line ≡ Take (Cond c answer)
  other (Begin n) h = absurd (omega (arith, ap (λ b. get_or b 0 0) h.1))
  other (Take (Cond d a)) h = same d a (only.1 (d, a) (h.0, ap (λ b. drop 2 b) h.1))
  other (Take (Start n)) h = absurd (omega (arith, ap (λ b. get_or b 0 0) h.1))
  other (Take (Skip n)) h = absurd (omega (arith, ap (λ b. get_or b 0 0) h.1))
  other (Take (Finish n)) h = absurd (omega (arith, ap (λ b. get_or b 0 0) h.1))
  other (Take (Sync k)) h = absurd (omega (arith, ap (λ b. get_or b 0 0) h.1))
  other (There ns) h = absurd (omega (arith, ap (λ b. get_or b 0 0) h.1))

-- bytes of which the first two are known
opened : (bytes : List ℕ) (a b : ℕ) → 2 ≤ length bytes → get_or bytes 0 0 ≡ a → get_or bytes 1 0 ≡ b → bytes ≡ a ∷ b ∷ take (length bytes - 2) (drop 2 bytes)
opened [] a b long e f = absurd (omega (arith, long))
opened (x ∷ []) a b long e f = absurd (omega (arith, long))
opened (x ∷ y ∷ bytes) a b long e f =
    let n : length (x ∷ y ∷ bytes) - 2 ≡ length bytes = omega arith in
    let whole : take (length (x ∷ y ∷ bytes) - 2) bytes ≡ bytes = ap (λ k. take k bytes) n ∙ take-length bytes in
    rw (e, f, whole) refl

module _ (bytes : List ℕ) (long : 2 ≤ length bytes) (letter : get_or bytes 0 0 ≡ 67) (space : get_or bytes 1 0 ≡ 32) where
  pub none_asked_at : SpellsNone IsAnswerTail (take (length bytes - 2) (drop 2 bytes)) → SpellsNone IsLine bytes
  none_asked_at none = subst (λ b. SpellsNone IsLine b) (sym (opened bytes 67 32 long letter space)) (none_asked _ none)

  pub only_asked_at : (c : ℕ) (answer : Bool) → SpellsOnly IsAnswerTail (take (length bytes - 2) (drop 2 bytes)) (c, answer) → SpellsOnly IsLine bytes (Take (Cond c answer))
  only_asked_at c answer only = subst (λ b. SpellsOnly IsLine b (Take (Cond c answer))) (sym (opened bytes 67 32 long letter space)) (only_asked _ c answer only)
