use Rattle.archetype_store.proofs.Common.{◌≤◌, ◌++◌, ℕ, List, Option, length, map, ap, ap₂, ◌∙◌, arith, vec_capacity, TableIndex, kept_seen}
use Rattle.archetype_store.proofs.TableIndex.{found_other}
use Rattle.archetype_store.proofs.table_index.TableIndex.copy.Goals as goal

pub returns : goal.returns
returns c = λ tables i.
    let index : TableIndex = c.args.self.now in
    let new : TableIndex = record { by_word = c.in_ok-by_word.by_word; peopled = c.extend_from_slice.new.self; numbers = c.extend_from_slice-2.new.self; shapes = c.in_ok-shapes.shapes; by_shape = c.in_ok-by_shape.by_shape } in
    let room : length tables ≤ vec_capacity new.peopled =
    (let held : length tables ≤ vec_capacity index.peopled = i.found.room in omega (arith, c.capacity.ensures, c.in_ok-peopled.ensures.capacity, c.in_ok-extend_from_slice.ensures.capacity)) in
    let room_numbers : length tables ≤ vec_capacity new.numbers =
    (let held : length tables ≤ vec_capacity index.numbers = i.found.room_numbers in omega (arith, c.capacity-2.ensures, c.in_ok-numbers.ensures.capacity, c.in_ok-extend_from_slice-2.ensures.capacity)) in
    record {
      found = found_other tables index new c.in_ok-by_word.ensures room room_numbers (c.in_ok-shapes.ensures ∙ ap (map kept_seen) c.as_slice-3.ensures.value) i.found;
      peopled = c.in_ok-extend_from_slice.ensures.items ∙ ap₂ (λ (l m : List ℕ). l ++ m) c.in_ok-peopled.ensures.items c.as_slice.ensures.value ∙ i.peopled;
      numbers = c.in_ok-extend_from_slice-2.ensures.items ∙ ap₂ (λ (l m : List (Option ℕ)). l ++ m) c.in_ok-numbers.ensures.items c.as_slice-2.ensures.value ∙ i.numbers;
    }
