use Rattle.requests.proofs.Widths.{lines_have_widths, requests_have_widths as have_widths}
use Rattle.requests.proofs.laws.requests_have_widths.Goals as goal

pub returns-clause-requests : goal.returns-clause-requests
returns-clause-requests c = have_widths

pub returns-clause-lines : goal.returns-clause-lines
returns-clause-lines c = lines_have_widths
