use Rattle.std.proofs.Common.{◌≡◌, ◌<◌, ℕ, false, IfSome, IfNone, [], ◌∷◌, length, subst, arith}
use Rattle.model.proofs.lists.Each.{each-append}
use Rattle.query_plan.specs.Marks.{IsRowOf}
use Rattle.query_plan.specs.Standing.{is_row_at, IsStanding}
use Rattle.query_plan.proofs.IndexWalks.{index_taken, index_passed, indices_done}
use Rattle.query_plan.proofs.index_walk.walk.Goals as goal

-- an index without a row
pub loop-index-preserved-in_default-2 : goal.loop-index-preserved-in_default-2
loop-index-preserved-in_default-2 c =
    let query = c.args.query.now in
    let slots = c.args.world.now.state.slots in
    let i = c.loop-index.index in
    let here : i < length slots = (let e = c.slot_count-index-end.ensures in let t = c.loop-index-test.true in omega arith) in
    let none = subst (λ o. IfNone o ((last : ℕ) → is_row_at query last slots i ≡ false)) c.in_default-2.is c.in_ok-row.ensures.none in
    record {
      rows = index_passed query slots c.args.world.now.layout i c.loop-index.rows.items here c.loop-index.invariant.rows none;
      places = c.loop-index.invariant.places;
    }

-- one with a row
pub loop-index-preserved : goal.loop-index-preserved
loop-index-preserved c =
    let query = c.args.query.now in
    let slots = c.args.world.now.state.slots in
    let layout = c.args.world.now.layout in
    let i = c.loop-index.index in
    let row = c.in-Some.row in
    let here : i < length slots = (let e = c.slot_count-index-end.ensures in let t = c.loop-index-test.true in omega arith) in
    let is : IsRowOf query slots layout i row = subst (λ o. IfSome o (IsRowOf query slots layout i)) c.in-Some.is c.in_ok-row.ensures.some in
    rw (c.in_ok-push.ensures.items) (record {
      rows = index_taken query slots layout i c.loop-index.rows.items here c.loop-index.invariant.rows row is;
      places = each-append (IsStanding slots layout) c.loop-index.rows.items (row ∷ []) c.loop-index.invariant.places (is.stands, tt);
    })

pub returns-clause-rows : goal.returns-clause-rows
returns-clause-rows c =
    let slots = c.args.world.now.state.slots in
    indices_done c.args.query.now slots c.loop-index.index c.loop-index.rows.items (let e = c.slot_count-index-end.ensures in let t = c.loop-index-test.false in omega arith) c.loop-index.invariant.rows
