use Rattle.std.proofs.Common.{◌≤◌, ◌+◌, ◌++◌, length, map, take_all, ap, subst, ◌∙◌, arith}
use Rattle.std.proofs.lemmas.List.{drop_all}
use Rattle.archetype_store.specs.Store.{with_slots}
use Rattle.state_text.specs.LineWords.{AreLines, slots_before}
use Rattle.state_text.proofs.Passed.{passed}
use Rattle.state_text.proofs.SlotsRead.{here}
use Rattle.state_text.proofs.reading.slots.read_slots.Goals as goal

pub returns-in_err-words-clause-all : goal.returns-in_err-words-clause-all
returns-in_err-words-clause-all c slots more many room is h =
    let so_far = c.loop-at.invariant.read slots more many room is h in
    let at = here c.args.world.now.state c.loop-at.world.state slots more c.loop-at._at c.loop-at.lines.rest.now (omega (arith, many, c.loop-at-test.true)) room c.loop-at.invariant.clock is so_far.0 so_far.1 in
    passed _ _ _ c.from_residual.ensures.1 (c.in_err-words.ensures _ _ at.lines)

pub returns-in_err-read_slot-clause-all : goal.returns-in_err-read_slot-clause-all
returns-in_err-read_slot-clause-all c slots more many room is h =
    let so_far = c.loop-at.invariant.read slots more many room is h in
    let at = here c.args.world.now.state c.loop-at.world.state slots more c.loop-at._at c.loop-at.lines.rest.now (omega (arith, many, c.loop-at-test.true)) room c.loop-at.invariant.clock is so_far.0 so_far.1 in
    let read = c.in_ok-words.ensures _ _ at.lines in
    passed _ _ _ c.from_residual-in_err-read_slot.ensures.1 (c.in_err-read_slot.ensures.all at.slot at.is at.room (ap (map (λ word. word.now)) c.deref.ensures.value ∙ read.0))

pub loop-at-preserved : goal.loop-at-preserved
loop-at-preserved c = record {
  home = c.in_ok-read_slot.ensures.home;
  clock = c.in_ok-read_slot.ensures.clock ∙ c.loop-at.invariant.clock;
  read = λ slots more many room is h.
      let so_far = c.loop-at.invariant.read slots more many room is h in
      let at = here c.args.world.now.state c.loop-at.world.state slots more c.loop-at._at c.loop-at.lines.rest.now (omega (arith, many, c.loop-at-test.true)) room c.loop-at.invariant.clock is so_far.0 so_far.1 in
      let read = c.in_ok-words.ensures _ _ at.lines in
      (c.in_ok-read_slot.ensures.all at.slot at.is at.room (ap (map (λ word. word.now)) c.deref.ensures.value ∙ read.0) ∙ at.added, read.1);
}

pub returns-clause-all : goal.returns-clause-all
returns-clause-all c slots more many room is h =
    let i = c.loop-at._at in
    let w = c.args.world.now.state in
    let past : length slots ≤ i = omega (arith, many, c.loop-at-test.false) in
    let so_far = c.loop-at.invariant.read slots more many room is h in (
      so_far.0 ∙ ap (λ xs. with_slots (λ front. front ++ xs) w) (take_all i slots past),
      subst (λ list. AreLines (slots_before (length w.slots + i) list more) c.loop-at.lines.rest.now) (drop_all i slots past) so_far.1,
    )
