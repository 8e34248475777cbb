-- Values that texts spell, one more at a time.
use Rattle.std.proofs.Common.{◌≡◌, ℕ, Bor, ◌+◌, ◌<◌, List, [], ◌∷◌, ◌++◌, length, map, take, get_or}
use Rattle.std.proofs.lemmas.List.{take_more, map-append}
use Rattle.parsing.specs.Reads.{SpellsOnly}
use Rattle.program_file.specs.Readings.{AreSpelled}

-- a value more, spelled by a text more
pub AreSpelled-push : {A : Type 0} (Spells : A → List ℕ → Type 0) (xs : List A) (texts : List (List ℕ)) (x : A) (text : List ℕ)
    → AreSpelled Spells xs texts → SpellsOnly Spells text x → AreSpelled Spells (xs ++ x ∷ []) (texts ++ text ∷ [])
AreSpelled-push Spells [] [] x text h k = (k, tt)
AreSpelled-push Spells [] (t ∷ ts) x text h k = absurd h
AreSpelled-push Spells (y ∷ ys) [] x text h k = absurd h
AreSpelled-push Spells (y ∷ ys) (t ∷ ts) x text h k = (h.0, AreSpelled-push Spells ys ts x text h.1 k)

-- the next text of a list is read
pub AreSpelled-take : {A : Type 0} (Spells : A → List ℕ → Type 0) (texts : List (Bor (List ℕ))) (i : ℕ) (d : Bor (List ℕ)) (xs more : List A) (x : A)
    → more ≡ xs ++ x ∷ [] → i < length texts → AreSpelled Spells xs (map (λ text. text.now) (take i texts)) → SpellsOnly Spells ((get_or texts i d).now) x
    → AreSpelled Spells more (map (λ text. text.now) (take (i + 1) texts))
AreSpelled-take Spells texts i d xs more x pushed below h k =
    rw (pushed, take_more texts i d below, map-append (λ (text : Bor (List ℕ)). text.now) (take i texts) (get_or texts i d ∷ []))
    (AreSpelled-push Spells xs (map (λ text. text.now) (take i texts)) x ((get_or texts i d).now) h k)
