use Rattle.std.proofs.Common.{List, ℕ, ◌≡◌, Ok, Err, Result, sym, subst}
use Rattle.std.specs.Prelude.{OnOk, OnErr}
use Rattle.model.specs.state.KindSets.{AreSetNumbers, with_number}
use Rattle.model.proofs.serial.SetNumbers.{set_numbers-more}
use Rattle.model.proofs.kind_sets.KindSets.add.Goals as goal

pub invariant_of-self : goal.invariant_of-self
invariant_of-self c = go c.add_number.result c.add_number.ensures.ok c.add_number.ensures.err
  where
    before : List ℕ
    before = c.self.inside.numbers.items

    after : List ℕ
    after = c.add_number.new.numbers.items

    go : {E : Type 0} (r : Result (Unit {0}) E) → OnOk r (after ≡ with_number c.args.number before) → OnErr r (after ≡ before) → AreSetNumbers after
    go (Ok done) ok err = subst AreSetNumbers (sym ok) (set_numbers-more c.args.number before c.requires c.self.invariant)
    go (Err e) ok err = subst AreSetNumbers (sym err) c.self.invariant
