use Rattle.std.proofs.Common.{◌≡◌, ◌<◌}
use Rattle.kinds.specs.declared.res.Res.{Res}
use Rattle.kinds.specs.Res.{res_number, res_name}
use Rattle.kinds.proofs.res.Res.named.Given as goal

abbrev pub invariant-loop-res : goal.invariant-loop-res
invariant-loop-res l = (k : Res) → res_number k < l.res-index → l.word ≡ res_name k → ⊥
