-- The room of a table, and what is left of it.
use Rattle.column_store.proofs.Common.{◌≡◌, ℕ, ◌+◌, ◌-◌, ◌<◌, ◌≤◌, List, [], ◌∷◌, ◌++◌, length, map, sym, ap, subst, ◌∙◌, arith, length_push, AllByRecursion, Cell, Entity, EntityListValue, swap_removed, ColumnSlotValue, swap_out_in, push_all, replace_all, HasRoom, AreRoomier, IsTable, IsTableWithRoom, IsTableWithSpare}
use Rattle.column_store.proofs.Swapped.{length-swap_removed}
use Rattle.column_store.proofs.Kept.{fewer_rooms, rooms-push, rooms-swap, rooms-replace, rooms-roomier}

pub no_room : (ns : List ℕ) (es : EntityListValue) (ps : List ColumnSlotValue) → IsTable ns es.list ps → IsTableWithRoom ns es ps 0
no_room ns es ps h = record { table = h; within = λ some. absurd (omega arith); each = λ some. absurd (omega arith) }

module _ (ns : List ℕ) (es es' : EntityListValue) (ps ps' : List ColumnSlotValue) (room : ℕ) (h : IsTableWithRoom ns es ps room) (table : IsTable ns es'.list ps') where
  pub pushed_room : (e : Entity) (cells : List Cell) → 0 < room → es'.list ≡ es.list ++ e ∷ [] → es.room ≤ es'.room → ps' ≡ push_all ps cells → IsTableWithRoom ns es' ps' (room - 1)
  pushed_room e cells some entities more columns =
      let within = h.within some in
      let long : length es'.list ≡ length es.list + 1 = ap length entities ∙ length_push es.list e in
      record {
        table = table;
        within = λ _. omega arith;
        each = λ _. subst (AllByRecursion (HasRoom (length es'.list + (room - 1)))) (sym columns)
            (rooms-push (length es'.list + (room - 1)) ps cells (fewer_rooms (length es.list + room) (length es'.list + (room - 1)) ps (omega arith) (h.each some)));
      }

  pub swapped_room : (i : ℕ) → i < length es.list → es'.list ≡ swap_removed es.list i → es'.room ≡ es.room → ps' ≡ map (swap_out_in i) ps → IsTableWithRoom ns es' ps' room
  swapped_room i l entities same columns =
      let long = ap length entities in
      let shorter = length-swap_removed es.list i l in
      record {
        table = table;
        within = λ some. (let within = h.within some in omega arith);
        each = λ some. subst (AllByRecursion (HasRoom (length es'.list + room))) (sym columns)
            (rooms-swap (length es'.list + room) i ps (fewer_rooms (length es.list + room) (length es'.list + room) ps (omega arith) (h.each some)));
      }

  pub renewed_room : (i : ℕ) (cells : List Cell) → es' ≡ es → ps' ≡ replace_all i ps cells → IsTableWithRoom ns es' ps' room
  renewed_room i cells entities columns =
      record {
        table = table;
        within = λ some. subst (λ (v : EntityListValue). length v.list + room ≤ v.room) (sym entities) (h.within some);
        each = λ some. subst (λ (v : EntityListValue). AllByRecursion (HasRoom (length v.list + room)) ps') (sym entities)
            (subst (AllByRecursion (HasRoom (length es.list + room))) (sym columns) (rooms-replace (length es.list + room) i ps cells (h.each some)));
      }

  pub roomier_room : es'.list ≡ es.list → es.room ≤ es'.room → AreRoomier ps ps' → IsTableWithRoom ns es' ps' room
  roomier_room entities more roomier =
      let long = ap length entities in
      record {
        table = table;
        within = λ some. (let within = h.within some in omega arith);
        each = λ some. subst (λ n. AllByRecursion (HasRoom (n + room)) ps') (sym long) (rooms-roomier (length es.list + room) ps ps' roomier (h.each some));
      }

pub reserved_room : (ns : List ℕ) (es : EntityListValue) (ps : List ColumnSlotValue) (room : ℕ) → IsTable ns es.list ps → length es.list + room ≤ es.room → AllByRecursion (HasRoom (length es.list + room)) ps →
    IsTableWithRoom ns es ps room
reserved_room ns es ps room table within each = record { table = table; within = λ some. within; each = λ some. each }

-- and with as much asked for
pub no_spare : (ns : List ℕ) (es : EntityListValue) (ps : List ColumnSlotValue) → IsTable ns es.list ps → IsTableWithSpare ns es ps 0 0
no_spare ns es ps h = record { kept = no_room ns es ps h; asked = omega arith }

-- where no more is asked for than there is
pub with_spare : (ns : List ℕ) (es : EntityListValue) (ps : List ColumnSlotValue) (spare room : ℕ) → IsTableWithRoom ns es ps spare → room ≤ spare → IsTableWithSpare ns es ps spare room
with_spare ns es ps spare room kept asked = record { kept = kept; asked = asked }
