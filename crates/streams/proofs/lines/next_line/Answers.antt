-- The line is what was lost in parts, and its end.
use Rattle.std.proofs.Common.{ℕ, ◌≡◌, ◌+◌, ◌++◌, length, length-take, refl, subst, ap, rules, arith}
use Rattle.streams.specs.Lines.{TakesShown}
use Rattle.streams.proofs.LineParts.{lost_more, line_long}
use Rattle.streams.proofs.lines.next_line.Goals as goal

pub loop-preserved : goal.loop-preserved
loop-preserved g c =
    let room : ℕ = c.args.limit + 1 in
    let taken = subst (λ x. TakesShown room (g.R.Read.remaining c.loop.reader) (g.R.Read.remaining c.take_shown.new.reader) c.loop.line.items c.take_shown.new.line.items x) c.in-Part.is c.in_ok-take_shown.ensures.taken in
    record {
      within = omega (arith, ap length taken.1.1, length-take room (c.loop.line.items ++ taken.0));
      capacity = omega (arith, c.loop.invariant.capacity, c.in_ok-take_shown.ensures.capacity);
      lost = lost_more room _ _ _ _ _ taken.0 c.loop.invariant.lost taken.1 taken.2;
    }

pub returns-in-Rest-2-clause-given : goal.returns-in-Rest-2-clause-given
returns-in-Rest-2-clause-given g c =
    let room : ℕ = c.args.limit + 1 in
    let taken = subst (λ x. TakesShown room (g.R.Read.remaining c.loop.reader) (g.R.Read.remaining c.take_shown.new.reader) c.loop.line.items c.take_shown.new.line.items x) c.in-Rest-2.is c.in_ok-take_shown.ensures.taken in
    let many : c.len.result ≡ length c.take_shown.new.line.items = search rules in
    line_long room _ _ _ _ _ taken.0 c.loop.invariant.lost taken.1 c.args.limit refl (omega (arith, many, c.if-len-room.false)) taken.2
