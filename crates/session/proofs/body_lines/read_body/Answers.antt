use Rattle.std.proofs.Common.{Option, Ok, subst}
use Rattle.session.specs.Body.{TakesLine}
use Rattle.session.specs.declared.body_lines.Follows.{Follows}
use Rattle.session.proofs.BodyLines.{read_none, read_more, read_cut}
use Rattle.session.proofs.body_lines.read_body.Goals as goal

pub loop-read-init : goal.loop-read-init
loop-read-init g c = rw c.requires (read_none (g.R.Read.remaining c.args.requests.now))

pub returns-in-None : goal.returns-in-None
returns-in-None g c =
    let before = g.R.Read.remaining c.args.requests.now in
    let mid = g.R.Read.remaining c.loop-read.requests in
    let after = g.R.Read.remaining c.take_line.new.requests in
    let over = subst (λ (o : Option Follows). TakesLine c.loop-read.known mid after c.loop-read.body.items c.take_line.new.body.items (Ok o)) c.in-None.is c.in_ok-next.ensures in
    read_cut c.args.count c.loop-read.read before mid after c.loop-read.body.items c.loop-read.known c.loop-read-test.true c.loop-read.invariant over

pub loop-read-preserved : goal.loop-read-preserved
loop-read-preserved g c =
    let before = g.R.Read.remaining c.args.requests.now in
    let mid = g.R.Read.remaining c.loop-read.requests in
    let after = g.R.Read.remaining c.take_line.new.requests in
    let more = subst (λ (o : Option Follows). TakesLine c.loop-read.known mid after c.loop-read.body.items c.take_line.new.body.items (Ok o)) c.in-Some.is c.in_ok-next.ensures in
    read_more c.loop-read.read before mid after c.loop-read.body.items c.take_line.new.body.items c.loop-read.known c.in-Some.next c.loop-read.invariant more
