use Rattle.archetype_store.proofs.Common.{◌≡◌, ◌≤◌, suc, ◌++◌, [], ◌∷◌, length, List, map, refl, sym, ap, ap₂, subst, ◌∙◌, arith, vec_capacity, set_number, kept_seen, noted, TableValue, TableIndex, IsFound}
use Rattle.archetype_store.proofs.TableIndex.{found_added, found_other}
use Rattle.archetype_store.proofs.table_index.TableIndex.add.Goals as goal

pub returns-in_err-reserve-2-clause-found : goal.returns-in_err-reserve-2-clause-found
returns-in_err-reserve-2-clause-found c =
    let index : TableIndex = c.args.self.now in
    let new : TableIndex = record { by_word = index.by_word; peopled = c.reserve-2.new.self; numbers = index.numbers; shapes = index.shapes; by_shape = index.by_shape } in
    subst (λ T. IsFound T new) (sym c.reserve.ensures.items) (found_other c.args.tables.now.items index new (λ word. refl) (omega (arith, c.requires.found.room, c.reserve-2.ensures.capacity)) c.requires.found.room_numbers refl c.requires.found)

pub returns-in_err-reserve-3-clause-found : goal.returns-in_err-reserve-3-clause-found
returns-in_err-reserve-3-clause-found c =
    let index : TableIndex = c.args.self.now in
    let new : TableIndex = record { by_word = index.by_word; peopled = c.reserve-2.new.self; numbers = c.reserve-3.new.self; shapes = index.shapes; by_shape = index.by_shape } in
    subst (λ T. IsFound T new) (sym c.reserve.ensures.items) (found_other c.args.tables.now.items index new (λ word. refl) (omega (arith, c.requires.found.room, c.reserve-2.ensures.capacity)) (omega (arith, c.requires.found.room_numbers, c.reserve-3.ensures.capacity)) refl c.requires.found)

pub returns-in_err-reserve_all-clause-found : goal.returns-in_err-reserve_all-clause-found
returns-in_err-reserve_all-clause-found c =
    let index : TableIndex = c.args.self.now in
    let new : TableIndex = record { by_word = index.by_word; peopled = c.reserve-2.new.self; numbers = c.reserve-3.new.self; shapes = c.reserve_all.new.shapes; by_shape = index.by_shape } in
    subst (λ T. IsFound T new) (sym c.reserve.ensures.items)
    (found_other c.args.tables.now.items index new (λ word. refl) (omega (arith, c.requires.found.room, c.reserve-2.ensures.capacity)) (omega (arith, c.requires.found.room_numbers, c.reserve-3.ensures.capacity)) (c.reserve_all.ensures.same) c.requires.found)

pub returns-in_err-insert-clause-found : goal.returns-in_err-insert-clause-found
returns-in_err-insert-clause-found c =
    let index : TableIndex = c.args.self.now in
    let new : TableIndex = record { by_word = c.insert.new.self; peopled = c.reserve-2.new.self; numbers = c.reserve-3.new.self; shapes = c.reserve_all.new.shapes; by_shape = index.by_shape } in
    subst (λ T. IsFound T new) (sym c.reserve.ensures.items)
    (found_other c.args.tables.now.items index new c.in_err-insert.ensures.err (omega (arith, c.requires.found.room, c.reserve-2.ensures.capacity)) (omega (arith, c.requires.found.room_numbers, c.reserve-3.ensures.capacity)) (c.reserve_all.ensures.same) c.requires.found)

pub returns-clause-found : goal.returns-clause-found
returns-clause-found c =
    let T = c.args.tables.now.items in
    let index : TableIndex = c.args.self.now in
    let new : TableIndex = record { by_word = c.insert.new.self; peopled = c.reserve-2.new.self; numbers = c.reserve-3.new.self; shapes = c.note_all.new.shapes; by_shape = index.by_shape } in
    let many : c.len-table.result ≡ length T = c.len-table.ensures ∙ c.args.tables.now.ok.0 in
    let more = c.in_ok-reserve-2.ensures.ok in
    let more_numbers = c.in_ok-reserve-3.ensures.ok in
    let room : suc (length T) ≤ vec_capacity new.peopled = omega arith in
    let room_numbers : suc (length T) ≤ vec_capacity new.numbers = omega arith in
    let word = c.number_of.ensures.sum ∙ ap set_number c.kinds.ensures.kinds in
    let noted_all = c.note_all.ensures ∙ ap₂ (λ w t. map (noted w t) (map kept_seen c.reserve_all.new.shapes.items)) word many
    ∙ ap (map (noted (set_number c.args.made.kinds) (length T))) (c.reserve_all.ensures.same) in
    let pushed = c.push_reserved.ensures.items ∙ ap (λ (xs : List TableValue). xs ++ c.args.made ∷ []) c.reserve.ensures.items in
    subst (λ U. IsFound U new) (sym pushed)
    (found_added T index new c.args.word c.args.made c.requires.found c.requires.other c.requires.word (rw many at c.in_ok-insert.ensures.ok) room room_numbers noted_all)
