use Rattle.std.proofs.Common.{◌≡◌, List, true, remove, slice_index_or, subst}
use Rattle.worker_pool.specs.JobOut.{JobOut}
use Rattle.worker_pool.specs.Ran.{Ran}
use Rattle.worker_pool.proofs.Tickets.{came_of, lost_of}
use Rattle.worker_pool.proofs.threaded.Threaded.bring_back.Goals as goal

pub returns-clause-ran : goal.returns-clause-ran
returns-clause-ran g c = let at = c.place_of_done-at.result in let out = c.take_out.result in let rest = c.take_out.new.list.items in
    let seen : c.self.inside.out.items ≡ c.args.self.now = c.self.view_is in
    came_of rest c.args.self.now at out c.place_of_done-at.ensures (subst (λ (l : List (JobOut g.row.B.Denot)). out ≡ slice_index_or l at out) seen c.take_out.ensures.value)
    (λ job done. Ran {B = g.row.B.Denot} g.B.Body.meaning g.B.Body.fits job.number job.system job.body job.view done.number done.system done.body done.view.value done.answer) c.finish.result
    (subst (λ (l : List (JobOut g.row.B.Denot)). rest ≡ remove l at) seen c.take_out.ensures.items) c.finish.ensures.ran

pub returns-clause-none : goal.returns-clause-none
returns-clause-none g c = let at = c.place_of_done-at.result in let out = c.take_out.result in
    let seen : c.self.inside.out.items ≡ c.args.self.now = c.self.view_is in
    lost_of c.take_out.new.list.items c.args.self.now at out c.place_of_done-at.ensures (subst (λ (l : List (JobOut g.row.B.Denot)). out ≡ slice_index_or l at out) seen c.take_out.ensures.value)
    (λ job. job.there ≡ true) c.finish.result c.finish.ensures.none
