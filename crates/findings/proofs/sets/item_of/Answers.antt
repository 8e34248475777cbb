use Rattle.std.proofs.Common.{◌-◌, ◌+◌, ◌≡◌, length, arith}
use Rattle.findings.proofs.SetsFound.{item_later}
use Rattle.findings.proofs.sets.item_of.Goals as goal

-- the systems come behind the sets
pub returns-else-number-sets : goal.returns-else-number-sets
returns-else-number-sets c =
    let sets = c.args.sets.now in
    let place : length sets + (c.args.number - length sets) ≡ c.args.number = omega (arith, c.if-number-sets.false) in
    item_later sets c.args.systems.now c.args.number (c.args.number - length sets) c.index-systems-number.result _ place (omega (arith, c.requires, c.if-number-sets.false))
