use Rattle.std.proofs.Common.{◌≡◌, ℕ, [], sym, ap, ◌∙◌, subst, refl}
use mathlib.Core.Option.{some, some-ne-none}
use lib.ListN.{get_elem?}
use Rattle.job_board.specs.Ends.{lead_view}
use Rattle.job_board.specs.Views.{opened, after_post, HasPosted, Uncollected}
use Rattle.job_board.specs.declared.view.View.{View}
use Rattle.calls.proofs.tests.board.waits.Goals as goal

-- the job that was posted is not collected: nothing is on a new board
pub collect_wait-collected-requires-after_bounds : goal.collect_wait-collected-requires-after_bounds
collect_wait-collected-requires-after_bounds g c κs within =
    let made = c.in-Ok.ensures.lead.1 in
    let n = c.in-Ok-post.posted in
    let seen : lead_view c.post.new.self ≡ after_post (opened made.0 made.1) n 4
    = c.in-Ok-post.ensures.posted.1 ∙ ap (λ (v : View ℕ ℕ). after_post v n 4) made.2 in
    subst (λ (v : View ℕ ℕ). (number : ℕ) × (job : ℕ) × HasPosted v number job × Uncollected v number) (sym seen) (n, 4, (0, refl), λ at o e. some-ne-none (n, o) (sym e))
