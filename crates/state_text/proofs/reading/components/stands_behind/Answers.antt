use Rattle.std.proofs.Common.{◌<◌, ◌-◌, length, sym, arith}
use Rattle.std.proofs.lemmas.Bool.{lt-ltb}
use Rattle.kinds.specs.Kind.{kind_number}
use Rattle.archetype_store.specs.Row.{component_of}
use Rattle.state_text.proofs.RowsRead.{holds_at}
use Rattle.state_text.proofs.reading.components.stands_behind.Goals as goal

pub returns-in-Some : goal.returns-in-Some
returns-in-Some c below =
    let low = holds_at (λ x. x.kind < kind_number c.args.kind) component_of c.args.row.now (length c.args.row.now - 1) c.in-Some.last.now (sym c.in-Some.ensures.value) below in
    lt-ltb c.number.result c.number-in-Some.result (omega (arith, low, c.number.ensures, c.number-in-Some.ensures))
