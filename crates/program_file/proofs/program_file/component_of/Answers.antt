use Rattle.std.proofs.Common.{◌≡◌, Some, length, subst, rules}
use Rattle.parsing.specs.Reads.{Reads}
use Rattle.toml.specs.View.{view}
use Rattle.kinds.specs.Components.{widths}
use Rattle.kinds.specs.Kind.{IsKind, kind_number}
use Rattle.program_file.proofs.Unread.{width-refused}
use Rattle.program_file.proofs.program_file.component_of.Goals as goal

-- as many fields as no component of the kind has
pub returns-then-len-width-clause-refused : goal.returns-then-len-width-clause-refused
returns-then-len-width-clause-refused c =
    let kind = c.in_ok-kind.kind in
    let fields = c.in_ok-fields.fields.items in
    let some : c.named.result ≡ Some kind = search rules in
    width-refused c.args.name.now (view c.args.value.now) kind fields (subst (Reads IsKind c.args.name.now) some c.named.ensures) c.in_ok-fields.ensures.ok
    (λ (same : length fields ≡ widths (kind_number kind)). search (rules, same))
