use Rattle.std.proofs.Common.{◌≡◌, length, arith}
use Rattle.std.proofs.lemmas.List.{with_items_is}
use Rattle.body.proofs.view_query.set_in.Goals as goal

pub returns : goal.returns
returns c =
    let same : length c.set_at.new.columns ≡ c.args.columns.now.len = (let a = c.set_at.auto.columns in let v = c.args.columns.now.ok.0 in omega (arith, c.deref_mut.ensures.len)) in
    rw (with_items_is c.args.columns.now c.set_at.new.columns same) (rw c.deref_mut.ensures.value at c.set_at.ensures)
