use Rattle.std.proofs.Common.{◌≤◌, subst, sym}
use Rattle.std.proofs.lemmas.Result.{on_ok_weaker}
use Rattle.serde_json.specs.Data.{members_depth}
use Rattle.serde_json.specs.View.{members_view, view}
use Rattle.diagnostics.proofs.Depths.{put_more}
use Rattle.diagnostics.proofs.json.add.Goals as goal

pub returns : goal.returns
returns c =
    on_ok_weaker c.put.result (λ e. subst (λ ms. members_depth ms ≤ 2) (sym e) (put_more 2 c.args.key.now (view c.args.value) (members_view c.args.map.now.entries) c.requires.value c.requires.shallow)) c.put.ensures.ok
