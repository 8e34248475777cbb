-- spaces are the query without terms
use Rattle.query.proofs.QueryTexts.{blank_query}
use Rattle.query.proofs.query.Query.read_terms.Goals as goal

pub returns-then-is_blank : goal.returns-then-is_blank
returns-then-is_blank c = rw c.new.ensures (blank_query c.args.text.now (c.is_blank.ensures.0 c.if-is_blank.true))
