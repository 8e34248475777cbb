use Rattle.std.proofs.Common.{◌≡◌, ◌<◌}
use Rattle.kinds.specs.declared.kind.Kind.{Kind}
use Rattle.kinds.specs.Kind.{kind_number, kind_name}
use Rattle.kinds.proofs.kind.Kind.named.Given as goal

abbrev pub invariant-loop-kind : goal.invariant-loop-kind
invariant-loop-kind l = (k : Kind) → kind_number k < l.kind-index → l.word ≡ kind_name k → ⊥
