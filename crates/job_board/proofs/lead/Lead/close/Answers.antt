use Rattle.std.proofs.Common.{rules, refl}
use Rattle.job_board.proofs.Looks.{closes}
use Rattle.job_board.proofs.lead.Lead.close.Goals as goal

pub swap-requires : goal.swap-requires
swap-requires g c = (search rules, search rules, closes g.T.Task.answers _ _ _ _ _ c.args.self.now.leads (search rules) refl)
