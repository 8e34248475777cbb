-- What rows are after a step of one that moves: it has gone from where it was, or has come where it goes.
use Rattle.archetype_store.proofs.Common.{◌≡◌, ℕ, ◌+◌, ◌<◌, ◌≤◌, Bool, true, false, cond, length, map, Option, Some, None, refl, sym, ap, ap₂, subst, ◌∙◌, true≢false, length-set, EntityLocation, RowMove, components_left, component_of, components_moved, arrives_in, stays_there, stays_in, is_table, one_if, gone, come_to, come, HasLeft, IsPlanned, AreAlikeBut, RowsValue, rows_seen, placed_in, left_from, left, AreRows, CanJoin, CanRenew, place_of, row_in, holder_in, IsHolder, HasRow, room_at, shape_of}
use Rattle.archetype_store.proofs.PlacesAfterRowChange.{with_at_same}
use Rattle.archetype_store.proofs.RowDepartures.{arrives_cleared, planned_cleared, cleared_but}
use Rattle.archetype_store.proofs.RowNumbers.{placed_within}
use Rattle.archetype_store.proofs.RowTargets.{arrives_here, arrives_there, arrives_moves, some_there, others_kept, rooms_same, rooms_joined}
use Rattle.archetype_store.proofs.RowsChanged.{left_held, left_rows, left_seen, left_room, joined_held, joined_rows, joined_seen, joined_room, renewed_held, renewed_rows, renewed_seen, renewed_room}
use Rattle.archetype_store.proofs.SingleRowMove.{has_row_kept, placed_set}

-- ---- it has gone

pub record HasGone (v : RowsValue) (m : RowMove) (w : RowsValue) : Type 0 where
  pub rows : AreRows w
  pub shapes : map shape_of w.tables ≡ map shape_of v.tables
  pub alike : AreAlikeBut (rows_seen v) m.change.now.entity.index (rows_seen w)
  pub others : (i : ℕ) → (i ≡ m.change.now.entity.index → ⊥) → place_of w.places i ≡ place_of v.places i
  pub planned : IsPlanned w.tables w.places m
  pub gone : HasLeft w.places m
  pub arrives : arrives_in w.places m ≡ arrives_in v.places m
  pub many : length w.places ≡ length v.places
  pub rooms : (t : ℕ) → room_at w.tables t ≡ room_at v.tables t

module _ (v : RowsValue) (h : AreRows v) (m : RowMove) (plan : IsPlanned v.tables v.places m) where
  unmoved : HasLeft v.places m → HasGone v m v
  unmoved left = record { rows = h; shapes = refl; alike = record { rows = λ i o. refl; holders = λ i o. refl }; others = λ i o. refl; planned = plan; gone = left; arrives = refl; many = refl; rooms = λ t. refl }

  from_place : stays_in v.places m ≡ false → (o : Option EntityLocation) → place_of v.places m.change.now.entity.index ≡ o → HasGone v m (left_from v m.change.now.entity o)
  from_place moves None at = unmoved (λ _. at)
  from_place moves (Some p) at =
      let e = m.change.now.entity in
      let w = left_from v e (Some p) in
      let places = placed_set v.places e.index None (placed_within v.places e.index p at) in
      let none = places e.index ∙ with_at_same e.index None (place_of v.places) in
      let shapes = (left_held v h e plan.holder p at).shapes in
      let many = length-set v.places e.index None in
      record {
        rows = left_rows v h e plan.holder p at;
        shapes = shapes;
        alike = cleared_but (rows_seen v) (rows_seen w) e.index e.generation (left_seen v h e plan.holder p at);
        others = others_kept v.places w.places e.index None places;
        planned = planned_cleared v.tables w.tables v.places w.places m shapes many plan none;
        gone = λ _. none;
        arrives = arrives_cleared v.places w.places m none moves;
        many = many;
        rooms = left_room v h e plan.holder p at;
      }

  by_stay : (b : Bool) → stays_in v.places m ≡ b → HasGone v m (cond b v (left v m.change.now.entity))
  by_stay true stays = unmoved (λ moves. absurd (true≢false (sym stays ∙ moves)))
  by_stay false moves = from_place moves (place_of v.places m.change.now.entity.index) refl

  pub has_gone : HasGone v m (gone v m)
  has_gone = by_stay (stays_in v.places m) refl

-- ---- it has come

pub record HasCome (v : RowsValue) (m : RowMove) (w : RowsValue) : Type 0 where
  pub rows : AreRows w
  pub shapes : map shape_of w.tables ≡ map shape_of v.tables
  pub left : HasRow (rows_seen v) m.change.now.entity (components_left m.change.now.fate) (rows_seen w)
  pub others : (i : ℕ) → (i ≡ m.change.now.entity.index → ⊥) → place_of w.places i ≡ place_of v.places i
  pub many : length w.places ≡ length v.places
  pub rooms : (t : ℕ) → room_at v.tables t ≤ one_if (is_table (arrives_in v.places m) t) + room_at w.tables t

module _ (v : RowsValue) (m : RowMove) (plan : IsPlanned v.tables v.places m) (to : ℕ) (is : m.to ≡ Some to) where
  -- where it stays it can be replaced
  pub can_renew : arrives_in v.places m ≡ None → CanRenew v m.change.now.entity to (components_moved m)
  can_renew none =
      let told = arrives_here v.places m to is none in
      let gen : told.0.generation ≡ m.change.now.entity.generation = subst (λ o. IsHolder m.change.now.entity.generation (holder_in o)) told.1 plan.holder in
      let target = plan.to to is in
      record {
        here = told.1 ∙ ap₂ (λ g t. let o : Option EntityLocation = Some (record { generation = g; table = t }) in o) gen told.2;
        kinds = target.kinds;
        some = some_there (components_moved m) target.there;
      }

  -- where it newly comes it can join
  pub can_join : (newly : ℕ) → arrives_in v.places m ≡ Some newly → HasLeft v.places m → ((t : ℕ) → arrives_in v.places m ≡ Some t → 0 < room_at v.tables t) → CanJoin v m.change.now.entity to (components_moved m)
  can_join newly at left room =
      let target = plan.to to is in
      record {
        within = plan.within;
        none = left (arrives_moves v.places m to newly is at);
        there = target.within;
        kinds = target.kinds;
        some = some_there (components_moved m) target.there;
        room = room to (arrives_there v.places m to newly is at);
      }

module _ (v : RowsValue) (h : AreRows v) (m : RowMove) (plan : IsPlanned v.tables v.places m) (left : HasLeft v.places m) (room : (t : ℕ) → arrives_in v.places m ≡ Some t → 0 < room_at v.tables t) where
  nowhere : m.to ≡ None → HasCome v m v
  nowhere is =
      let e = m.change.now.entity in
      let none : place_of v.places e.index ≡ None = left (ap (stays_there (place_of v.places e.index)) is) in
      record {
        rows = h;
        shapes = refl;
        left = subst (λ row. HasRow (rows_seen v) e row (rows_seen v)) (ap (row_in v.tables e.index) none ∙ sym (ap (map component_of) (plan.none is)))
            (has_row_kept v.tables v.places e h.whole plan.holder);
        others = λ i o. refl;
        many = refl;
        rooms = rooms_same v.tables v.tables (is_table (arrives_in v.places m)) (λ t. refl);
      }

  by_target : (to newly : Option ℕ) → m.to ≡ to → arrives_in v.places m ≡ newly → HasCome v m (come_to v m to newly)
  by_target None newly is at = nowhere is
  by_target (Some to) None is at =
      let e = m.change.now.entity in
      let can = can_renew v m plan to is at in
      record {
        rows = renewed_rows v h e to (components_moved m) can;
        shapes = (renewed_held v h e to (components_moved m) can).shapes;
        left = renewed_seen v h e to (components_moved m) can;
        others = λ i o. refl;
        many = refl;
        rooms = rooms_same v.tables _ (is_table (arrives_in v.places m)) (renewed_room v h e to (components_moved m) can);
      }
  by_target (Some to) (Some newly) is at =
      let e = m.change.now.entity in
      let can = can_join v m plan to is newly at left room in
      record {
        rows = joined_rows v h e to (components_moved m) can;
        shapes = (joined_held v h e to (components_moved m) can).shapes;
        left = joined_seen v h e to (components_moved m) can;
        others = others_kept v.places _ e.index (placed_in e to) (placed_set v.places e.index (placed_in e to) can.within);
        many = length-set v.places e.index (placed_in e to);
        rooms = rooms_joined v.tables v.tables _ v.places m to (arrives_there v.places m to newly is at) (λ t. refl) (joined_room v h e to (components_moved m) can);
      }

  pub has_come : HasCome v m (come v m)
  has_come = by_target m.to (arrives_in v.places m) refl refl
