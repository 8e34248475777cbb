-- Changes of entities of a store: whose rows they are, and that they can be made.
use Rattle.archetype_store.proofs.Common.{◌≡◌, ℕ, List, sym, subst, AllByRecursion, each-weaker, CanChange, EntityChange, IsHeldBy, IsHolder, IsStore, IsTheirs, RowsValue, Slot, StoreValue, World, row_of, rows_seen, store_seen}
use Rattle.model.specs.state.State.{Resource}
use Rattle.archetype_store.specs.declared.table_index.TableIndex.{TableIndex}
use Rattle.archetype_store.proofs.BookChanges.{held_in_book}
use Rattle.archetype_store.proofs.PlacesAfterRowChange.{holder_seen}
use Rattle.archetype_store.proofs.SlotRows.{holder_there}

module _ {book : List Slot} {v : RowsValue} {index : TableIndex} {resources : List Resource} {clock : ℕ} (h : IsStore book v index resources clock) (x : StoreValue) (seen : store_seen book v resources clock ≡ x)
    (cs : List EntityChange) (can : AllByRecursion (CanChange x.state) cs) where
  abbrev world : World
  world = (store_seen book v resources clock).state

  pub can_there : AllByRecursion (CanChange world) cs
  can_there = subst (λ (y : StoreValue). AllByRecursion (CanChange y.state) cs) (sym seen) can

  pub all_held : AllByRecursion (IsHeldBy book) cs
  all_held = held_in_book (row_of (rows_seen v).rows) book cs (each-weaker (CanChange world) (IsHeldBy world.slots) (λ c k. record { held = k.held; generation = k.generation }) cs can_there)

  pub all_theirs : AllByRecursion (λ (c : EntityChange). IsTheirs v c.entity) cs
  all_theirs = each-weaker (IsHeldBy book) (λ (c : EntityChange). IsTheirs v c.entity)
      (λ c k. subst (IsHolder c.entity.generation) (holder_seen v.tables v.places c.entity.index) (holder_there book (rows_seen v) h.held c.entity k.generation)) cs all_held
