use Rattle.std.proofs.Common.{string_bytes}
use Rattle.drawing.proofs.Joining.{joined}
use Rattle.drawing.proofs.chart.push_plot.Goals as goal

pub returns : goal.returns
returns c =
    let start = string_bytes c.args.text.now in
    let opened = string_bytes c.write.new.self in
    let pointed = string_bytes c.push_points.new.text in
    joined start pointed (string_bytes c.push_str.new.self) _ _ (joined start opened pointed _ _ c.in_ok-write.ensures.bytes c.in_ok-push_points.ensures) c.in_ok-push_str.ensures.bytes
