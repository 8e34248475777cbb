use Rattle.column_store.proofs.Common.{◌≡◌, true, OnOk, OnErr, ◌⊎◌, inl, inr, ⊎_elim, get_or, map, set, sym, ap, subst, ◌∙◌, kind_number, standing_at, table_of, IsKindPlace, TableValue, standing_of, is_home, IsAlike, IsHome, Shared, on_ok_weaker, shared}
use Rattle.std.proofs.lemmas.Result.{on_err_weaker}
use Rattle.column_store.proofs.Found.{home_found, home_there, shared_alike, shared_column, shared_err, shared_kept, shared_there}
use Rattle.column_store.proofs.Roomy.{no_spare}
use Rattle.column_store.proofs.Tables.{alike_room}
use Rattle.column_store.proofs.table.Table.share.Goals as goal
use Rattle.column_store.proofs.table.Table.share.Goals.{After-share}

-- where the column is
at : (c : After-share) → IsKindPlace (map kind_number c.self.inside.columns.kinds.items) c.self.inside.entities.list c.self.inside.columns.slots.items (kind_number c.args.kind) c.in-Some.place
at c = c.in-Some.ensures c.self.inside.entities.list c.self.inside.columns.slots.items c.self.invariant.kept.table

-- it was at home
home : (c : After-share) → is_home (get_or c.self.inside.columns.slots.items c.in-Some.place c.index_mut.result.now).standing ≡ true
home c = home_found _ _ ((at c).standing c.index_mut.result.now) (subst (λ (t : TableValue). IsHome (standing_of t (kind_number c.args.kind))) (sym c.self.view_is) c.requires)

-- what its slot is now
ok : (c : After-share) → OnOk c.share.result (c.share.new.self ≡ standing_at Shared (get_or c.self.inside.columns.slots.items c.in-Some.place c.index_mut.result.now))
ok c = subst (λ x. OnOk c.share.result (c.share.new.self ≡ standing_at Shared x)) c.index_mut.ensures.value c.share.ensures.ok

err : (c : After-share) → (let p = get_or c.self.inside.columns.slots.items c.in-Some.place c.index_mut.result.now in OnErr c.share.result ((c.share.new.self ≡ p) ⊎ (c.share.new.self ≡ standing_at Shared p)))
err c = subst (λ x. OnErr c.share.result ((c.share.new.self ≡ x) ⊎ (c.share.new.self ≡ standing_at Shared x))) c.index_mut.ensures.value c.share.ensures.err

pub unreachable-requires : goal.unreachable-requires
unreachable-requires c =
    home_there _ (c.in_default.ensures.standing c.self.inside.entities.list c.self.inside.columns.slots.items) (subst (λ (t : TableValue). IsHome (standing_of t (kind_number c.args.kind))) (sym c.self.view_is) c.requires)

pub invariant_of-self : goal.invariant_of-self
invariant_of-self c =
    let a = (goal.at.invariant_of-self c).After-share in
    let kept = shared_column _ _ _ _ _ (at a) _ _ c.share.result (ok a) (err a) (home a) in
    no_spare _ c.self.inside.entities (set c.self.inside.columns.slots.items c.in-Some.place c.share.new.self) (shared_kept _ _ _ _ _ (at a) _ _ kept.0 c.self.invariant.kept.table)

pub returns-clause-ok : goal.returns-clause-ok
returns-clause-ok c =
    let a = (goal.at.returns-clause-ok c).After-share in
    on_ok_weaker c.share.result (λ h. h ∙ ap (λ (t : TableValue). shared t (kind_number c.args.kind)) c.self.view_is) (shared_there _ _ _ _ _ (at a) _ _ c.share.result (ok a))

pub returns-clause-err : goal.returns-clause-err
returns-clause-err c =
    let a = (goal.at.returns-clause-err c).After-share in
    let ns = map kind_number c.self.inside.columns.kinds.items in
    on_err_weaker c.share.result
    (⊎_elim (λ s. inl (ap (table_of ns c.self.inside.entities.list) s ∙ ap (λ (t : TableValue). let u : TableValue = record { kinds = t.kinds; standings = t.standings; rows = t.rows; room = 0 } in u) c.self.view_is))
    (λ t. inr (t ∙ ap (λ (t : TableValue). shared t (kind_number c.args.kind)) c.self.view_is))) (shared_err _ _ _ _ _ (at a) _ _ c.share.result (err a))

pub returns-clause-alike : goal.returns-clause-alike
returns-clause-alike c =
    let a = (goal.at.returns-clause-alike c).After-share in
    let kept = shared_column _ _ _ _ _ (at a) _ _ c.share.result (ok a) (err a) (home a) in
    let ns = map kind_number c.self.inside.columns.kinds.items in
    subst (λ (t : TableValue). IsAlike t (table_of ns c.self.inside.entities.list (set c.self.inside.columns.slots.items c.in-Some.place c.share.new.self))) c.self.view_is
    (alike_room _ _ c.self.inside.room 0 (shared_alike _ _ _ _ _ (at a) _ _ kept.0 kept.1 (home a)))
