-- What a reader loses in parts.
use Rattle.std.specs.Prelude.{Option, None, Some, IfSome, if◌then◌else◌}
use Rattle.std.specs.Result.{is_ok, is_err}
use Rattle.std.proofs.lemmas.Bool.{false≢true}
use Rattle.std.proofs.Common.{◌≡◌, ℕ, ◌+◌, ◌<◌, List, [], ◌++◌, length, append_assoc, arith, length-append, Result, Ok, Err, false, ap, sym, ◌∙◌}
use Rattle.std.proofs.lemmas.List.{append-nil}
use Rattle.std.specs.Io.KnownBytes.{Consumes, Keeps, IsAtEnd}

-- what is lost in turn is lost as one
pub consumed_more : (old mid new : Option (List ℕ)) (front more : List ℕ) → Consumes old mid front → Consumes mid new more → Consumes old new (front ++ more)
consumed_more None mid new front more h k = tt
consumed_more (Some xs) None new front more h k = absurd h
consumed_more (Some xs) (Some ys) None front more h k = absurd k
consumed_more (Some xs) (Some ys) (Some zs) front more h k = h ∙ (ap (λ w. front ++ w) k ∙ sym (append_assoc front more zs))

-- a reader that keeps what it has has lost what it had lost
pub consumed_kept : (old mid new : Option (List ℕ)) (front : List ℕ) → Consumes old mid front → Keeps mid new → Consumes old new front
consumed_kept None mid new front h k = tt
consumed_kept (Some xs) None new front h k = absurd h
consumed_kept (Some xs) (Some ys) None front h k = absurd k
consumed_kept (Some xs) (Some ys) (Some zs) front h k = h ∙ ap (λ w. front ++ w) (sym k)

-- at its end it has lost all, where the last read gave nothing
pub consumed_all : (old mid new : Option (List ℕ)) (front more : List ℕ) → Consumes old mid front → Consumes mid new more → more ≡ [] → IsAtEnd new → IfSome old (λ all. front ≡ all)
consumed_all None mid new front more h k none end = tt
consumed_all (Some xs) None new front more h k none end = absurd h
consumed_all (Some xs) (Some ys) None front more h k none end = absurd k
consumed_all (Some xs) (Some ys) (Some zs) front more h k none end = sym (h ∙ (ap (λ w. front ++ w) (k ∙ (ap (λ w. w ++ zs) none ∙ end)) ∙ append-nil front))

-- and it had at least as much as it lost
pub consumed_long : (old mid new : Option (List ℕ)) (front more : List ℕ) (limit : ℕ) → Consumes old mid front → Consumes mid new more → limit < length front + length more → IfSome old (λ all. limit < length all)
consumed_long None mid new front more limit h k long = tt
consumed_long (Some xs) None new front more limit h k long = absurd h
consumed_long (Some xs) (Some ys) None front more limit h k long = absurd k
consumed_long (Some xs) (Some ys) (Some zs) front more limit h k long = omega (arith, ap length h, ap length k, length-append front ys, length-append more zs)

-- what a call that may fail for memory gives where it does not
pub given : {A E : Type 0} (r : Result (Unit {0}) E) (more old new : A) → false ≡ is_err r → new ≡ (if is_ok r then more else old) → new ≡ more
given (Ok x) more old new fine is = is
given (Err y) more old new fine is = absurd (false≢true fine)
