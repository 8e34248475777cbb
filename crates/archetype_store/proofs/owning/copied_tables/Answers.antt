use Rattle.archetype_store.proofs.Common.{◌≡◌, true, [], sym, ap, subst, ◌∙◌, arith, list_all, TableValue, is_home, owned, each-at, mapped_next, mapped_all}
use Rattle.archetype_store.proofs.owning.copied_tables.Goals as goal

pub copy-requires : goal.copy-requires
copy-requires c =
    let P = λ (t : TableValue). list_all is_home t.standings ≡ true in
    subst P (sym c.table-item.is) (each-at P c.args.tables.now c.loop-table.table-index c.table-item.result c.loop-table-test.true c.requires)

pub loop-table-preserved : goal.loop-table-preserved
loop-table-preserved c = record {
  same = mapped_next owned c.args.tables.now c.loop-table.table-index c.table-item.result [] c.loop-table.copies.items c.push_reserved.new.self.items c.in_ok-copy.field-0 c.loop-table-test.true c.loop-table.invariant.same (c.in_ok-copy.ensures ∙ ap owned c.table-item.is) c.push_reserved.ensures.items;
  many = omega (arith, c.push_reserved.ensures.len, c.loop-table.invariant.many);
  room = omega (arith, c.push_reserved.ensures.capacity, c.loop-table.invariant.room);
}

pub returns : goal.returns
returns c = mapped_all owned c.args.tables.now c.loop-table.table-index [] c.loop-table.copies.items c.loop-table-test.false c.loop-table.invariant.same
