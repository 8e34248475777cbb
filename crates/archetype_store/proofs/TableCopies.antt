-- Copies of tables whose columns are at home: they hold the same, and their columns are theirs alone.
use Rattle.archetype_store.proofs.Common.{◌≡◌, ℕ, Bool, true, false, List, [], ◌∷◌, map, Option, refl, sym, ap₂, subst, and_parts, list_all, Standing, TableValue, is_home, owned, IsAlike, Owned, EntityLocation, AreHome, AreOwned, AreAllAlike, AreKept}
use Rattle.archetype_store.proofs.ColumnStandings.{owned_all, alike_whole, owned_stored}
use Rattle.archetype_store.proofs.RowNumbers.{known_kept}
use Rattle.archetype_store.proofs.TableRoom.{alike_entities}

homes_owned : (ss : List Standing) → list_all is_home ss ≡ true → map is_home (map (λ (s : Standing). Owned) ss) ≡ map is_home ss
homes_owned [] h = refl
homes_owned (s ∷ ss) h = let k = and_parts (is_home s) (list_all is_home ss) h in ap₂ (λ b bs. b ∷ bs) (sym k.0) (homes_owned ss k.1)

copy_alike : (t : TableValue) → list_all is_home t.standings ≡ true → IsAlike t (owned t)
copy_alike t h = record { kinds = refl; homes = homes_owned t.standings h; rows = refl }

copies_alike : (ts : List TableValue) → AreHome ts → AreAllAlike ts (map owned ts)
copies_alike [] h = tt
copies_alike (t ∷ ts) h = (copy_alike t h.0, copies_alike ts h.1)

copies_owned : (ts : List TableValue) → AreOwned (map owned ts)
copies_owned [] = tt
copies_owned (t ∷ ts) = (owned_all t.standings, copies_owned ts)

module _ (T U : List TableValue) (P Q : List (Option EntityLocation)) (tables : U ≡ map owned T) (places : Q ≡ P) (home : AreHome T) where
  pub copied_alike : AreAllAlike T U
  copied_alike = subst (AreAllAlike T) (sym tables) (copies_alike T home)

  -- they are as whole, and no column is read elsewhere
  pub copied_kept : (N M : List ℕ) → M ≡ N → (s : Bool) → AreKept T P N s → AreKept U Q M false
  copied_kept N M numbers s h = subst (λ R. AreKept U R M false) (sym places) (subst (λ ns. AreKept U P ns false) (sym numbers) (record {
    stored = owned_stored U P false (alike_whole T U P s s copied_alike h.stored.whole) (subst AreOwned (sym tables) (copies_owned T));
    known = known_kept T U P N (alike_entities T U copied_alike) h.known;
  }))
