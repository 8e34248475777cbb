-- The first change of an entity that lives: it is put without components, and then has those that the entity has.
use Rattle.std.proofs.Common.{◌≡◌, ℕ, true, List, length, get_or, set, None, refl, sym, ap, subst, ◌∙◌}
use Rattle.kinds.specs.Components.{widths}
use Rattle.model.specs.declared.entities.Entity.{Entity}
use Rattle.model.specs.state.State.{World}
use Rattle.model.specs.state.Rows.{row_at}
use Rattle.model.specs.state.Shape.{IsWorld}
use Rattle.model.specs.state.Commands.{is_alive}
use Rattle.archetype_store.specs.declared.change.EntityChange.{EntityChange}
use Rattle.archetype_store.specs.Changes.{components_left, changed}
use Rattle.command_queue.specs.Pending.{place_of, put_change, is_left_alive, AreChanges, IsKept}
use Rattle.command_queue.proofs.Puts.{put_filled, place_filled, read_first}
use Rattle.command_queue.proofs.Targets.{opened_changes, opened_slots, opened_kept}

-- d is put, of an entity that has no change
module _ (cs : List EntityChange) (e : Entity) (first : place_of e.index cs ≡ None) (d : EntityChange) (bare : d.entity ≡ e) (ds : List EntityChange) (put : ds ≡ put_change d cs) (place : ℕ) (at : length cs ≡ place) where
  first_of : place_of d.entity.index cs ≡ None
  first_of = ap (λ (x : Entity). place_of x.index cs) bare ∙ first

  -- it is what stands there
  pub put_there : (x : EntityChange) → get_or ds place x ≡ d
  put_there x = ap (λ ys. get_or ys place x) put ∙ ap (λ n. get_or (put_change d cs) n x) (sym at) ∙ read_first cs d d refl first_of x

  -- another one of the entity in its place
  module _ (c : EntityChange) (its : c.entity ≡ e) where
    same_index : c.entity.index ≡ d.entity.index
    same_index = ap (λ (x : Entity). x.index) (its ∙ sym bare)

    set_there : set ds place c ≡ set (put_change d cs) (length cs) c
    set_there = ap (λ ys. set ys place c) put ∙ ap (λ n. set (put_change d cs) n c) (sym at)

    pub filled : set ds place c ≡ put_change c cs
    filled = set_there ∙ put_filled cs d c same_index first_of

    pub filled_places : (q : ℕ) → place_of q (set ds place c) ≡ place_of q ds
    filled_places q = ap (place_of q) set_there ∙ place_filled cs d c same_index first_of q ∙ ap (place_of q) (sym put)

    module _ (w : World) (valid : AreChanges w cs) (alive : is_alive w.slots e ≡ true) (world : IsWorld widths w) (lasts : is_left_alive c.fate ≡ true) (row : components_left c.fate ≡ row_at w.slots e.index) where
      pub filled_changes : AreChanges w (set ds place c)
      filled_changes = subst (AreChanges w) (sym filled) (opened_changes w cs valid e alive first world c its lasts row)

      pub filled_slots : changed (set ds place c) w.slots ≡ changed cs w.slots
      filled_slots = ap (λ ys. changed ys w.slots) filled ∙ opened_slots w cs valid e alive first world c its lasts row

      pub filled_kept : IsKept (set ds place c) e place
      filled_kept = subst (λ ys. IsKept ys e place) (sym filled) (subst (IsKept (put_change c cs) e) at (opened_kept w cs valid e alive first world c its lasts row))
