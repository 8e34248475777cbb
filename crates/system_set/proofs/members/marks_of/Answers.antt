use Rattle.std.proofs.Common.{ℕ, true, ◌≡◌, ◌<◌, Bool, List, length, get_or, sym, ap, ◌∙◌, subst}
use Rattle.std.specs.List.{All}
use Rattle.std.proofs.lemmas.List.{length-set}
use Rattle.std.proofs.lemmas.Bool.{and_parts}
use Rattle.cycle_search.specs.declared.order.Order.{Order}
use Rattle.cycle_search.specs.Orders.{IsBetween}
use Rattle.system_set.specs.Pairs.{AreSound, IsSpread, is_open_pair}
use Rattle.system_set.proofs.Reaching.{sound_at, fewer_unmarked}
use Rattle.system_set.proofs.members.marks_of.Goals as goal

pub loop-marks-preserved : goal.loop-marks-preserved
loop-marks-preserved c =
    let marks : List Bool = c.loop-marks.marks.items in
    let d : Order = record { first = 0; second = 0 } in
    let pair : Order = get_or c.args.pairs.now c.in-Some.place d in
    let found = c.in-Some.ensures.found in
    let open_pair : is_open_pair marks c.args.set pair ≡ true = subst (λ (xs : List Bool). is_open_pair xs c.args.set pair ≡ true) c.as_slice.ensures.value (found.1 d) in
    record {
      long = length-set marks pair.first true ∙ c.loop-marks.invariant.long;
      sound = sound_at c.args.pairs.now c.args.set marks c.in-Some.place d c.loop-marks.invariant.sound found.0 (and_parts _ _ open_pair).1;
    }

pub returns-in-None : goal.returns-in-None
returns-in-None c = record {
  long = c.loop-marks.invariant.long;
  sound = c.loop-marks.invariant.sound;
  whole = subst (λ (xs : List Bool). All (IsSpread xs c.args.set) c.args.pairs.now) c.as_slice.ensures.value c.in-None.ensures.none;
}

pub spread-requires : goal.spread-requires
spread-requires c = record {
  between = subst (λ (n : ℕ). All (IsBetween n) c.args.pairs.now) (sym (ap length c.as_mut_slice.ensures.value ∙ c.loop-place.invariant.long)) c.requires;
  known = c.if-place-pairs.true;
  sound = subst (AreSound c.args.pairs.now c.args.set) (sym c.as_mut_slice.ensures.value) c.loop-place.invariant.sound;
}

pub loop-marks-smaller : goal.loop-marks-smaller
loop-marks-smaller c =
    let marks : List Bool = c.loop-marks.marks.items in
    let d : Order = record { first = 0; second = 0 } in
    let pair : Order = get_or c.args.pairs.now c.in-Some.place d in
    let found = c.in-Some.ensures.found in
    let open_pair : is_open_pair marks c.args.set pair ≡ true = subst (λ (xs : List Bool). is_open_pair xs c.args.set pair ≡ true) c.as_slice.ensures.value (found.1 d) in
    let low : pair.first < length marks = subst (λ (n : ℕ). pair.first < n) (sym c.loop-marks.invariant.long) (c.requires c.in-Some.place d found.0).first in
    fewer_unmarked marks pair.first low (and_parts _ _ open_pair).0
