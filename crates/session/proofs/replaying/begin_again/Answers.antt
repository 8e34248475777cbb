use Rattle.std.proofs.Common.{ap, ◌∙◌}
use Rattle.session.specs.Live.{Live}
use Rattle.session.specs.Records.{head_line}
use Rattle.session.proofs.Retaken.{split_behind, told_same}
use Rattle.session.proofs.replaying.begin_again.Goals as goal

-- the record begins with the line of the file
pub returns-clause-behind : goal.returns-clause-behind
returns-clause-behind g c =
    split_behind c.len.result c.args.journal.now c.in-Some.front.now c.in-Some.rest.now (head_line c.args.session.now.file) c.in-Some.ensures.cases.1 c.in-Some.ensures.cases.2
    (told_same c.in-Some.front.now c.as_bytes.result.now c.if-ne.ensures ∙ c.as_bytes.ensures.value ∙ c.in_ok-head.ensures ∙ ap (λ (l : Live g.row.B.Denot). head_line l.file) c.session.view_is)
