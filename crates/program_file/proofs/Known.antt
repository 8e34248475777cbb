-- The keys of a table, and those that are known.
use Rattle.std.proofs.Common.{◌∙◌, ◌↔◌, ℕ, zero, suc, ◌<◌, Bool, true, false, List, [], ◌∷◌, length, map, get_or, Bor, MatchBool, IsTrue, String, Global, string_bytes, ap, refl, arith}
use Rattle.std.proofs.lemmas.Bool.{false≢true}
use Rattle.std.proofs.lemmas.List.{length-map, get_or-map}
use Rattle.std.specs.List.{AllWithin, HoldsAt, Contains}
use Rattle.std.specs.Map.{keys_of}
use Rattle.toml.specs.View.{members_view}
use Rattle.toml.proofs.Views.{Entry}
use Rattle.program_file.specs.Keys.{HasOnly}
use Rattle.program_file.specs.Among.{IsAmong}

-- the texts that are lent
abbrev texts : List (Bor (List ℕ)) → List (List ℕ)
texts names = map (λ name. name.now) names

-- a text that is among names that are lent is one of them
contains-among : (text : List ℕ) (names : List (Bor (List ℕ))) → IsAmong text names → Contains (texts names) text
contains-among text names (k, x, below, at, same) =
    (k, (let e = length-map names (λ (name : Bor (List ℕ)). name.now) in omega (arith, e, below)), get_or-map (λ (name : Bor (List ℕ)). name.now) names k x text below ∙ ap (λ (name : Bor (List ℕ)). name.now) at ∙ same)

-- and the other way round
among-contains : (text : List ℕ) (names : List (Bor (List ℕ))) → Contains (texts names) text → IsAmong text names
among-contains text [] (k, below, at) = absurd (omega (arith, below))
among-contains text (n ∷ ns) (zero, below, at) = (zero, n, omega arith, refl, at)
among-contains text (n ∷ ns) (suc k, below, at) = let (i, x, l, is, same) = among-contains text ns (k, omega (arith, below), at) in (suc i, x, omega (arith, l), is, same)

-- keys each of which is known
only-known : (names : List (Bor (List ℕ))) (es : List Entry) → AllWithin (λ (key : String Global). IsAmong (string_bytes key) names) (keys_of es) 0 (length (keys_of es))
    → HasOnly (texts names) (members_view es)
only-known names [] h = tt
only-known names (e ∷ es) h = (contains-among (string_bytes e.0) names (h 0 e.0 (omega arith) (omega arith)), only-known names es (λ k d low high. h (suc k) d (omega arith) (omega (arith, high))))

-- each is known
each-known : (names : List (Bor (List ℕ))) (es : List Entry) (k : ℕ) (d : String Global) → HasOnly (texts names) (members_view es) → k < length (keys_of es) → IsAmong (string_bytes (get_or (keys_of es) k d)) names
each-known names [] k d h below = absurd (omega (arith, below))
each-known names (e ∷ es) zero d h below = among-contains (string_bytes e.0) names h.0
each-known names (e ∷ es) (suc k) d h below = each-known names es k d h.1 (omega (arith, below))

none-other : (names : List (Bor (List ℕ))) (es : List Entry) → (k : ℕ) × (k < length (keys_of es)) × HoldsAt (λ (key : String Global). IsAmong (string_bytes key) names → ⊥) (keys_of es) k
    → HasOnly (texts names) (members_view es) → ⊥
none-other names [] (k, below, other) h = absurd (omega (arith, below))
none-other names (e ∷ es) (k, below, other) h = other e.0 (each-known names (e ∷ es) k e.0 h below)

-- what it says that each key is known, or some is not
pub has_only-from_cases : (r : Bool) (names : List (Bor (List ℕ))) (es : List Entry)
    → MatchBool r (AllWithin (λ (key : String Global). IsAmong (string_bytes key) names) (keys_of es) 0 (length (keys_of es))) ((k : ℕ) × (k < length (keys_of es)) × HoldsAt (λ (key : String Global). IsAmong (string_bytes key) names → ⊥) (keys_of es) k)
    → IsTrue r ↔ HasOnly (map (λ name. name.now) names) (members_view es)
has_only-from_cases true names es h = (λ _. only-known names es h, λ _. refl)
has_only-from_cases false names es h = (λ e. absurd (false≢true e), λ only. absurd (none-other names es h only))
