use Rattle.std.proofs.Common.{rules, pos, get_or, ap, sym, ◌∙◌, arith}
use Rattle.model.specs.state.State.{World}
use Rattle.kinds.specs.declared.res.Res.TheVariants.{Round}
use Rattle.kinds.specs.Res.{res_number, every_res}
use Rattle.body.proofs.Values.{res_number-at}
use Rattle.program.proofs.LoadedWorlds.{resources-more, resources-all}
use Rattle.program.proofs.world.give_resources.Goals as goal

pub set_res-requires : goal.set_res-requires
set_res-requires c = let e = ap (λ (w : World). w.clock) c.loop-number.invariant.given in let h = c.requires.clock in omega arith

pub loop-number-preserved : goal.loop-number-preserved
loop-number-preserved c =
    let e = c.told-values in
    let h = c.loop-number-test.true in
    record {
      given = resources-more c.loop-number.number (res_number (get_or every_res c.loop-number.number Round)) c.args.values.now c.args.world.now.state.resources _ (pos 0) c.args.world.now.state c.loop-number.world.state c.set_res.new.self.state
          (omega arith) (c.requires.count ∙ sym e) (res_number-at c.loop-number.number Round h) (search rules) c.loop-number.invariant.given c.set_res.ensures.state;
      layout = c.set_res.ensures.layout ∙ c.loop-number.invariant.layout;
    }

pub returns-clause-resources : goal.returns-clause-resources
returns-clause-resources c =
    let e = c.told-values in
    let h = c.loop-number-test.false in
    resources-all c.loop-number.number c.args.values.now c.args.world.now.state.resources c.args.world.now.state c.loop-number.world.state (omega arith) (c.requires.count ∙ sym e) c.loop-number.invariant.given
