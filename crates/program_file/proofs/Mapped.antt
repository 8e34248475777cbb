-- Results whose errors are told otherwise.
use Rattle.std.proofs.Common.{◌≡◌, ◌∙◌, true, false, Result, Ok, Err, IfOk, MatchResult, is_ok, ap, sym, subst}

-- what is known of a value still is where an error would have been told otherwise
pub of-mapped : {T E D : Type 0} (P : T → Type 0) (Q : E → Type 0) (r : Result T E) (told : Result T D) (x : T)
    → MatchResult r (λ y. told ≡ Ok y) Q → is_ok told ≡ is_ok r → told ≡ Ok x → IfOk r P → P x
of-mapped P Q (Ok y) told x cases variant is h = subst P (let same : Ok y ≡ Ok x = sym cases ∙ is in cc) h
of-mapped P Q (Err e) told x cases variant is h = absurd (let same : true ≡ false = sym (ap is_ok is) ∙ variant in cc)

-- what follows of a value that is there
pub of-ok : {T E : Type 0} (P Q : T → Type 0) (r : Result T E) → ((x : T) → P x → Q x) → IfOk r P → IfOk r Q
of-ok P Q (Ok x) f h = f x h
of-ok P Q (Err e) f h = h
