use Rattle.std.proofs.Common.{◌≡◌, ◌++◌, ℕ, List, length, map, refl, ap, subst, ◌∙◌, string_bytes}
use Rattle.program.specs.Setup.{meanings_of_scripts}
use Rattle.ecsview.specs.Found.{AreRaces, races_line}
use Rattle.ecsview.proofs.PairTexts.{races_next}
use Rattle.ecsview.proofs.found.witnesses_of.Goals as goal

pub loop-pair-init : goal.loop-pair-init
loop-pair-init c = record {
  meant = refl;
  rest = λ whole h.
      let text : string_bytes c.writeln.new.self ≡ races_line (length c.args.pairs.now) = c.in_ok-writeln.ensures.bytes ∙ ap (λ (xs : List ℕ). xs ++ races_line (length c.args.pairs.now)) c.new-text.ensures.bytes in
      subst (λ (words : List ℕ). AreRaces c.args.built.now (meanings_of_scripts c.args.built.now c.args.bodies.now) c.args.start.now.state c.args.start.now.number (map (λ name. name.now) c.args.names.now) c.args.pairs.now words whole) text h;
}

-- one pair more
pub loop-pair-preserved : goal.loop-pair-preserved
loop-pair-preserved c =
    let s = c.args.built.now in
    let ms = meanings_of_scripts s c.args.bodies.now in
    let names : List (List ℕ) = map (λ name. name.now) c.args.names.now in
    let inv = c.loop-pair.invariant in
    let more = c.in_ok-push_found.ensures in
    record {
      meant = c.witness_of.ensures.meanings ∙ inv.meant;
      rest = λ whole h. inv.rest whole
          (races_next s ms _ c.args.start.now.state c.args.start.now.number names c.args.pairs.now c.loop-pair.pair-index _ _ c.in_ok-found.found more.0 (string_bytes c.loop-pair.text) _ _ whole c.loop-pair-test.true refl inv.meant
          c.in_ok-found.ensures.witness more.1 c.in_ok-push_pair.ensures more.2 h);
    }
