-- What is known of results.
use Rattle.std.proofs.Common.{◌≡◌, Result, Ok, Err, IfErr, sym, subst}
use Rattle.std.specs.Result.{IsErrAnd, OnOk}

-- an error that is handed on
pub handed_on : {T E : Type 0} (P : E → Type 0) (r : Result T E) (fault : E) → IsErrAnd r (λ told. told ≡ fault) → P fault → IfErr r P
handed_on P (Ok x) fault told is = tt
handed_on P (Err other) fault told is = subst P (sym told) is

-- what follows of what is known of an error
pub err_as : {T E : Type 0} (P Q : E → Type 0) (r : Result T E) → ((e : E) → P e → Q e) → IfErr r P → IfErr r Q
err_as P Q (Ok x) f h = tt
err_as P Q (Err e) f h = f e h

-- what follows of what holds of a success
pub ok_as : {T E : Type 0} (P Q : Type 0) (r : Result T E) → (P → Q) → OnOk r P → OnOk r Q
ok_as P Q (Ok x) f h = f h
ok_as P Q (Err e) f h = h
