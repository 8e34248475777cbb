use Rattle.std.proofs.Common.{◌≡◌, ◌++◌, ◌+◌, ◌-◌, ◌<◌, ℕ, [], ◌∷◌, List, Vec, Global, length, get_or, set, take, drop, map, sum, ap, ap₂, sym, ◌∙◌, arith, append_assoc, add-one}
use Rattle.std.proofs.Math.Seq.{drop-cons}
use Rattle.std.proofs.lemmas.List.{append-nil, drop_all, take_all, take_more_set, map-append, length-set, get_or-set_other}
use Rattle.std.proofs.lemmas.List.Sums.{sum_by-drop_more}
use Rattle.model.specs.declared.entities.Entity.{Entity}
use Rattle.model.specs.state.State.{Slot}
use Rattle.model.specs.state.Ids.{vacant_indices, granted_ids, grant, ids_of_each, grant_each}
use Rattle.entity_table.specs.Granting.{AreRoomy}
use Rattle.entity_table.proofs.Grants.{length-grant}
use Rattle.entity_table.proofs.Levels.{vacant-left}
use Rattle.entity_table.proofs.granting.grant_lists.Goals as goal

-- the ids in each list
abbrev ids_in : List (Vec Entity Global) → List (List Entity)
ids_in lists = map (λ list. list.items) lists

-- the counts from this one on
from_here : (ns : List ℕ) (i : ℕ) → i < length ns → drop i ns ≡ get_or ns i 0 ∷ drop (i + 1) ns
from_here ns i l = rw (add-one, drop-cons ns i 0)

-- the lists after one is filled
roomy_after : (ns : List ℕ) (lists : List (Vec Entity Global)) (i : ℕ) (x : Vec Entity Global) → AreRoomy i ns lists → AreRoomy (i + 1) ns (set lists i x)
roomy_after ns lists i x h = record {
  many = length-set lists i x ∙ h.many;
  empty = λ k d from within. rw (get_or-set_other lists i k x d (omega arith)) (h.empty k d (omega arith) within);
  room = λ k d from within. rw (get_or-set_other lists i k x d (omega arith)) (h.room k d (omega arith) within);
}

-- the ids once one list is filled
ids_after : (lists : List (Vec Entity Global)) (i : ℕ) (x : Vec Entity Global) → i < length lists → ids_in (take (i + 1) (set lists i x)) ≡ ids_in (take i lists) ++ x.items ∷ []
ids_after lists i x l = ap ids_in (take_more_set lists i x l) ∙ map-append (λ (list : Vec Entity Global). list.items) (take i lists) (x ∷ [])

pub loop-place-preserved : goal.loop-place-preserved
unfolding ids_of_each grant_each
loop-place-preserved c =
    let counts = c.args.counts.now in
    let i = c.loop-place.place in
    let at = c.loop-place-test.true in
    let n = get_or counts i 0 in
    let rest = drop (i + 1) counts in
    let lists = c.loop-place.lists.items in
    let before : List Slot = c.loop-place.places.items in
    let one = c.grant_each.ensures in
    let v = c.loop-place.invariant in
    let here : drop i counts ≡ n ∷ rest = from_here counts i at in
    let total : sum (drop i counts) ≡ n + sum rest = sum_by-drop_more (λ x. x) counts i 0 at in
    let within : i < length lists = (let many = v.lists.many in omega arith) in
    let empty : c.index_mut.result.now.items ≡ [] = ap (λ (list : Vec Entity Global). list.items) c.index_mut.ensures.value ∙ v.lists.empty i c.index_mut.result.now (omega arith) at in
    let filled : c.grant_each.new.granted.items ≡ granted_ids n before = one.ids ∙ ap (λ ids. ids ++ granted_ids n before) empty in
    let left : length c.grant_each.new.vacant.rising ≡ length c.loop-place.vacant.rising - n =
    ap length one.kept ∙ ap (λ xs. length (vacant_indices xs)) one.grants ∙ vacant-left n before ∙ ap (λ ns. length ns - n) (sym v.kept) in
    let many : length c.grant_each.new.places.items ≡ length before + (n - length c.loop-place.vacant.rising) =
    ap length one.grants ∙ length-grant n before ∙ ap (λ ns. length before + (n - length ns)) (sym v.kept) in
    let held = c.loop-place.places.ok.0 in
    let held_after = c.grant_each.new.places.ok.0 in
    record {
      kept = one.kept;
      grants = ap (grant_each rest) one.grants ∙ ap (λ ns. grant_each ns before) (sym here) ∙ v.grants;
      ids = ap₂ (λ filled xs. filled ++ ids_of_each rest xs) (ids_after lists i c.grant_each.new.granted within) one.grants
          ∙ append_assoc (ids_in (take i lists)) (c.grant_each.new.granted.items ∷ []) (ids_of_each rest (grant n before))
          ∙ ap (λ ids. ids_in (take i lists) ++ (ids ∷ ids_of_each rest (grant n before))) filled
          ∙ ap (λ ns. ids_in (take i lists) ++ ids_of_each ns before) (sym here) ∙ v.ids;
      few = (let f = v.few in omega arith);
      room = (let f = v.room in let d = one.capacity in omega arith);
      lists = roomy_after counts lists i c.grant_each.new.granted v.lists;
      vacant_room = (let f = v.vacant_room in let d = one.room in omega arith);
    }

pub returns-clause-grants : goal.returns-clause-grants
unfolding grant_each
returns-clause-grants c =
    let none : drop c.loop-place.place c.args.counts.now ≡ [] = drop_all c.loop-place.place c.args.counts.now c.loop-place-test.false in
    ap (λ ns. grant_each ns c.loop-place.places.items) (sym none) ∙ c.loop-place.invariant.grants

pub returns-clause-ids : goal.returns-clause-ids
unfolding ids_of_each
returns-clause-ids c =
    let lists = c.loop-place.lists.items in
    let many = c.loop-place.invariant.lists.many in
    let all : take c.loop-place.place lists ≡ lists = take_all c.loop-place.place lists (let l = c.loop-place-test.false in omega arith) in
    let none : drop c.loop-place.place c.args.counts.now ≡ [] = drop_all c.loop-place.place c.args.counts.now c.loop-place-test.false in
    sym (append-nil (ids_in lists)) ∙ ap₂ (λ filled ns. ids_in filled ++ ids_of_each ns c.loop-place.places.items) (sym all) (sym none) ∙ c.loop-place.invariant.ids
