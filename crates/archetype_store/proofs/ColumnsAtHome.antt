-- Where all columns are at home, that of each kind of an archetype is.
use Rattle.archetype_store.proofs.Common.{◌≡◌, ℕ, zero, suc, Bool, true, false, cond, ◌==◌, ◌||◌, List, [], ◌∷◌, length, Some, ap, arith, list_all, AllByRecursion, has, at_kind, Archetype, archetype_at, column_home, AreAllHome, IsArchetype, KindsAreHome}
use Rattle.std.proofs.lemmas.Bool.{and_parts as both}

home_in : (ks : List ℕ) (k : ℕ) (homes : List Bool) → length homes ≡ length ks → list_all (λ home. home) homes ≡ true → has k ks ≡ true → at_kind ks k homes ≡ Some true
home_in [] k homes l h there = absurd (cc)
home_in (n ∷ ks) k [] l h there = absurd (omega arith)
home_in (n ∷ ks) k (b ∷ bs) l h there = go (n == k) there (home_in ks k bs (omega arith) (both b (list_all (λ home. home) bs) h).1)
  where
    go : (t : Bool) → (t || has k ks) ≡ true → (has k ks ≡ true → at_kind ks k bs ≡ Some true) → cond t (Some b) (at_kind ks k bs) ≡ Some true
    go true e more = ap (λ x. Some x) (both b (list_all (λ home. home) bs) h).0
    go false e more = more e

home_of : (layout : List Archetype) (n k : ℕ) → AllByRecursion IsArchetype layout → AreAllHome layout → has k (archetype_at layout n).kinds ≡ true → column_home (archetype_at layout n) k ≡ Some true
home_of [] n k each home there = absurd (cc)
home_of (a ∷ rest) zero k each home there = home_in a.kinds k a.homes each.0.shape.each home.0 there
home_of (a ∷ rest) (suc n) k each home there = home_of rest n k each.1 home.1 there

pub prove_kinds_home : KindsAreHome
prove_kinds_home slots layout n kind laid home there = home_of layout n kind laid.each home there
