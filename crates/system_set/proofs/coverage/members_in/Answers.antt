use Rattle.std.proofs.Common.{ℕ, ◌+◌, ◌-◌, ◌≡◌, List, sym, subst, arith}
use Rattle.system_set.specs.Coverage.{AreNumbersTo}
use Rattle.system_set.proofs.Coverages.{no_numbers, numbers_more}
use Rattle.system_set.proofs.coverage.members_in.Goals as goal

pub loop-system-init : goal.loop-system-init
loop-system-init c =
    subst (λ (numbers : List ℕ). AreNumbersTo c.args.sets c.args.rows.now c.args.item c.args.sets numbers) (sym c.new-numbers.ensures.items)
    (no_numbers c.args.sets c.args.rows.now c.args.item)

pub loop-system-preserved : goal.loop-system-preserved
loop-system-preserved c =
    let number : ℕ = c.loop-system.system - c.args.sets in
    let at : c.args.sets + number ≡ c.loop-system.system = omega arith in
    subst (λ (numbers : List ℕ). AreNumbersTo c.args.sets c.args.rows.now c.args.item (c.loop-system.system + 1) numbers) (sym c.in_ok-push_if.ensures)
    (numbers_more c.args.sets c.args.rows.now c.args.item c.loop-system.system number c.loop-system.numbers.items c.is_member_of.result at (sym c.is_member_of.ensures) c.loop-system.invariant)

pub returns : goal.returns
returns c =
    let end : c.loop-system.system ≡ c.args.items = omega (arith, c.loop-system.auto.system-end c.requires.order) in
    subst (λ (k : ℕ). AreNumbersTo c.args.sets c.args.rows.now c.args.item k c.loop-system.numbers.items) end c.loop-system.invariant
