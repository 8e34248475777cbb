use Rattle.std.proofs.Common.{◌≡◌, true, ℕ, ℤ, List, [], ◌∷◌, ◌++◌, Some, Result, OnOk, length, get_or, set, map, sym, ap, ◌∙◌, subst, arith}
use Rattle.std.proofs.lemmas.Int.{to_z-of_z}
use Rattle.std.proofs.lemmas.Result.{on_ok_weaker}
use Rattle.kinds.specs.Res.{event_number}
use Rattle.model.specs.Lists.{has}
use Rattle.event_buffers.specs.Lists.{ListValue, ListsValue, lists_of, place_in, with_event}
use Rattle.event_buffers.proofs.ListsOfEvents.{pushed, place-within, has-place, lists-pushed}
use Rattle.event_buffers.proofs.lists.EventLists.push.Goals as goal

-- the lists with one more event
abbrev more : ListsValue → ℕ → ℤ → ListsValue
more x k v = record { kinds = x.kinds; values = with_event x.kinds k v x.values }

pushed-ok : {E : Type 0} (r : Result (Unit {0}) E) (lists : List ListValue) (k n : ℕ) (old new : ListValue) (x v : ℤ) (was : ListsValue) → place_in (map (λ (l : ListValue). l.kind) lists) k ≡ Some n →
    old ≡ get_or lists n old → x ≡ v → lists_of lists ≡ was → OnOk r (new ≡ record { kind = old.kind; values = old.values ++ x ∷ [] }) → OnOk r (lists_of (set lists n new) ≡ more was k v)
pushed-ok r lists k n old new x v was place is same seen ok =
    on_ok_weaker r (λ e. lists-pushed lists k n old new v place (e ∙ ap (pushed old) same ∙ ap (λ (l : ListValue). pushed l v) is) ∙ ap (λ (w : ListsValue). more w k v) seen) ok

pub index_mut-list-requires : goal.index_mut-list-requires
index_mut-list-requires c =
    let lists = c.self.inside.lists.items in
    let within = place-within lists (event_number c.args.kind) c.in-Some.place
    (ap (λ (ls : List ListValue). place_in (map (λ (l : ListValue). l.kind) ls) (event_number c.args.kind)) (sym c.as_slice.ensures.value) ∙ sym c.place_of.ensures ∙ c.in-Some.is) in
    let len = c.as_slice.ensures.len in
    let same = ap length c.as_slice.ensures.value in
    omega arith

pub unreachable-requires : goal.unreachable-requires
unreachable-requires c =
    let lists = c.self.inside.lists.items in
    let k = event_number c.args.kind in
    has-place (map (λ (l : ListValue). l.kind) lists) k (subst (λ (x : ListsValue). has k x.kinds ≡ true) (sym c.self.view_is) c.requires)
    (ap (λ (ls : List ListValue). place_in (map (λ (l : ListValue). l.kind) ls) k) (sym c.as_slice.ensures.value) ∙ sym c.place_of.ensures ∙ c.in-None.is)

pub returns-clause-ok : goal.returns-clause-ok
returns-clause-ok c =
    let lists = c.self.inside.lists.items in
    let k = event_number c.args.kind in
    let place = ap (λ (ls : List ListValue). place_in (map (λ (l : ListValue). l.kind) ls) k) (sym c.as_slice.ensures.value) ∙ sym c.place_of.ensures ∙ c.in-Some.is in
    pushed-ok c.push.result lists k c.in-Some.place c.index_mut-list.result.now c.push.new.self _ c.args.value c.args.self.now place c.index_mut-list.ensures.value (search to_z-of_z) c.self.view_is c.push.ensures.ok
