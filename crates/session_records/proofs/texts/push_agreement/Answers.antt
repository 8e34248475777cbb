use Rattle.std.proofs.Common.{◌≡◌, ◌++◌, OnOk, subst, sym, string_bytes}
use Rattle.findings.specs.declared.diverging.Parting.{Parting}
use Rattle.session_records.specs.Texts.{agreement_line}
use Rattle.session_records.proofs.texts.push_agreement.Goals as goal

-- the worlds differ after an entry
pub returns-in-After : goal.returns-in-After
returns-in-After c =
    let told = string_bytes c.writeln-in-After.new.self in
    subst (λ (p : Parting). OnOk c.writeln-in-After.result (told ≡ string_bytes c.args.text.now ++ agreement_line p c.args.counts.0 c.args.counts.1)) (sym c.in-After.is) c.writeln-in-After.ensures.bytes
