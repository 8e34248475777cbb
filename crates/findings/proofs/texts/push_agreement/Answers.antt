use Rattle.std.proofs.Common.{◌≡◌, ◌++◌, OnOk, subst, sym, string_bytes}
use Rattle.findings.specs.declared.diverging.Parting.{Parting}
use Rattle.findings.specs.Texts.{agreement_line}
use Rattle.findings.proofs.texts.push_agreement.Goals as goal

-- the worlds differ after a run
pub returns-in-After : goal.returns-in-After
returns-in-After c =
    let told = string_bytes c.writeln-in-After.new.self in
    subst (λ (p : Parting). OnOk c.writeln-in-After.result (told ≡ string_bytes c.args.text.now ++ agreement_line p c.args.runs.0 c.args.runs.1)) (sym c.in-After.is) c.writeln-in-After.ensures.bytes
