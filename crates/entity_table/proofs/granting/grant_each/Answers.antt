use Rattle.std.proofs.Common.{◌≡◌, ◌+◌, ◌-◌, ◌<◌, suc, true, [], ◌∷◌, ◌++◌, List, vec_len, vec_capacity, if◌then◌else◌, is_ok, ap, ap₂, sym, ◌∙◌, append_assoc, arith}
use Rattle.std.proofs.lemmas.List.{append-nil}
use Rattle.model.specs.declared.entities.Entity.{Entity}
use Rattle.model.specs.state.State.{Slot}
use Rattle.model.specs.state.Ids.{granted_ids, grant}
use Rattle.model.proofs.serial.Engine.{grant-none as grant-zero, granted_ids-none as granted_ids-zero}
use Rattle.entity_table.proofs.Grants.{grant-suc, granted_ids-suc}
use Rattle.entity_table.proofs.granting.grant_each.Goals as goal

pub loop-preserved : goal.loop-preserved
loop-preserved c =
    let went = c.loop-test.true in
    let left : c.args.count - c.loop.counter ≡ suc (c.args.count - (c.loop.counter + 1)) = omega arith in
    let before : List Slot = c.loop.places.items in
    let after : List Slot = c.grant_one-e.new.places.items in
    let one = c.grant_one-e.ensures in
    let i = c.loop.invariant in
    let held = c.loop.places.ok.0 in
    let held_after = c.grant_one-e.new.places.ok.0 in
    let room : vec_len c.loop.granted < vec_capacity c.loop.granted = (let r = i.granted_room in omega arith) in
    let added : is_ok c.push.result ≡ true = c.push.ensures.succeeds room in
    let pushed : c.push.new.self.items ≡ c.loop.granted.items ++ c.grant_one-e.result ∷ [] =
    c.push.ensures.items ∙ ap (λ b. if b then (c.loop.granted.items ++ c.grant_one-e.result ∷ []) else c.loop.granted.items) added in
    let pushed_len : vec_len c.push.new.self ≡ vec_len c.loop.granted + 1 = c.push.ensures.len ∙ ap (λ b. if b then (vec_len c.loop.granted + 1) else vec_len c.loop.granted) added in
    let m = c.args.count - (c.loop.counter + 1) in
    record {
      kept = one.kept;
      grants = ap (grant m) one.grants ∙ sym (grant-suc m before) ∙ ap (λ k. grant k before) (sym left) ∙ i.grants;
      ids = ap₂ (λ ids xs. ids ++ granted_ids m xs) pushed one.grants ∙ append_assoc c.loop.granted.items (c.grant_one-e.result ∷ []) (granted_ids m (grant 1 before))
          ∙ ap (λ (ids : List Entity). c.loop.granted.items ++ (ids ++ granted_ids m (grant 1 before))) (sym one.id)
          ∙ ap (λ (ids : List Entity). c.loop.granted.items ++ ids) (sym (granted_ids-suc m before) ∙ ap (λ k. granted_ids k before) (sym left)) ∙ i.ids;
      few = (let f = i.few in let a = one.len in let b = one.places in omega arith);
      room = (let f = i.room in let a = one.len in let b = one.places in let d = one.capacity in omega arith);
      granted_room = (let f = i.granted_room in let b = c.push.ensures.capacity in omega arith);
      capacity = (let f = i.capacity in let d = one.capacity in omega arith);
      vacant_room = (let f = i.vacant_room in let a = one.room in omega arith);
    }

pub returns-clause-grants : goal.returns-clause-grants
returns-clause-grants c =
    let none : c.args.count - c.loop.counter ≡ 0 = (let e = c.loop-test.false in omega arith) in
    let i = c.loop.invariant in
    sym (grant-zero c.loop.places.items) ∙ ap (λ k. grant k c.loop.places.items) (sym none) ∙ i.grants

pub returns-clause-ids : goal.returns-clause-ids
returns-clause-ids c =
    let none : c.args.count - c.loop.counter ≡ 0 = (let e = c.loop-test.false in omega arith) in
    let i = c.loop.invariant in
    sym (append-nil c.loop.granted.items) ∙ ap (λ (ids : List Entity). c.loop.granted.items ++ ids) (sym (granted_ids-zero c.loop.places.items) ∙ ap (λ k. granted_ids k c.loop.places.items) (sym none)) ∙ i.ids
