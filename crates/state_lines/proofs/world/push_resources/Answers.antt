use Rattle.std.proofs.Common.{◌≡◌, ◌++◌, w64, SFits, get_or, refl, ap, ◌∙◌, string_bytes, rules}
use Rattle.std.proofs.lemmas.Int.{to_z-of_z}
use Rattle.kinds.specs.declared.res.Res.{Res}
use Rattle.kinds.specs.declared.res.Res.TheVariants.{Round}
use Rattle.kinds.specs.Res.{res_number}
use Rattle.model.specs.shown.Input.{value_of}
use Rattle.state_lines.specs.WorldText.{resource_line}
use Rattle.state_lines.proofs.Lines.{texts_next, texts_all}
use Rattle.state_lines.proofs.world.push_resources.Goals as goal

pub loop-res-preserved : goal.loop-res-preserved
loop-res-preserved c =
    let res : Res = get_or c.args.list.now c.loop-res.res-index Round in
    let fits : SFits w64 c.res.result = search rules in
    let more : string_bytes c.push_resource.new.text ≡ string_bytes c.loop-res.text ++ resource_line res (value_of c.args.world.now.state.resources (res_number res)) =
    c.in_ok-push_resource.ensures ∙ ap (λ value. string_bytes c.loop-res.text ++ resource_line res value) (to_z-of_z w64 c.res.result fits ∙ c.res.ensures) in
    texts_next (λ (r : Res). resource_line r (value_of c.args.world.now.state.resources (res_number r))) c.args.list.now c.loop-res.res-index Round res (string_bytes c.args.text.now) (string_bytes c.loop-res.text) (string_bytes c.push_resource.new.text)
    c.loop-res-test.true refl c.loop-res.invariant more

pub returns : goal.returns
returns c =
    texts_all (λ (res : Res). resource_line res (value_of c.args.world.now.state.resources (res_number res))) c.args.list.now c.loop-res.res-index (string_bytes c.args.text.now) (string_bytes c.loop-res.text) c.loop-res-test.false c.loop-res.invariant
