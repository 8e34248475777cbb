use Rattle.std.proofs.Common.{◌≡◌, ◌++◌, map, ap, ◌∙◌, string_bytes, rules}
use Rattle.std.specs.Prelude.{◌≢◌}
use Rattle.std.specs.Str.Lines.{lines}
use Rattle.findings.specs.Texts.{apart_text}
use Rattle.findings.proofs.Apart.{told_apart}
use Rattle.findings.proofs.texts.push_difference.Goals as goal

pub returns : goal.returns
returns c =
    let apart : c.args.one.now ≢ c.args.other.now = search rules in
    let ones : map (λ line. line.now) c.as_slice.result.now ≡ lines c.args.one.now = ap (map (λ line. line.now)) c.as_slice.ensures.value ∙ c.in_ok-lines.ensures in
    let others : map (λ line. line.now) c.as_slice-2.result.now ≡ lines c.args.other.now = ap (map (λ line. line.now)) c.as_slice-2.ensures.value ∙ c.in_ok-beside.ensures in
    let place = c.first_apart-place.result in
    let text : string_bytes c.push_apart.new.text ≡ string_bytes c.args.text.now ++ apart_text (map (λ line. line.now) c.as_slice.result.now) (map (λ line. line.now) c.as_slice-2.result.now) place = search rules in
    told_apart c.args.one.now c.args.other.now (map (λ line. line.now) c.as_slice.result.now) (map (λ line. line.now) c.as_slice-2.result.now) place (string_bytes c.args.text.now) (string_bytes c.push_apart.new.text)
    apart ones others c.first_apart-place.ensures text
