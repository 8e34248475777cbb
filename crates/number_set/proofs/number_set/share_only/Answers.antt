use Rattle.std.proofs.Common.{◌/◌, inl, inr, arith}
use Rattle.std.proofs.lemmas.Bool.{false≢true, cases_lt}
use Rattle.number_set.proofs.Bits.{share_within, within_share}
use Rattle.number_set.proofs.number_set.share_only.Goals as goal

pub returns-then-shared-third : goal.returns-then-shared-third
returns-then-shared-third c = (
  (λ e. absurd (false≢true e)),
  (λ within. absurd (c.if-shared-third.true (within_share c.args.first.now c.args.second.now c.args.third.now c.loop-index.index (omega (arith, c.type_inv.first c.loop-index.index)) within))),
)

pub loop-index-preserved : goal.loop-index-preserved
loop-index-preserved c = λ n low member other. elim (cases_lt (n / 64) c.loop-index.index) [
  | inl below ↦ c.loop-index.invariant n below member other
  | inr here ↦ share_within c.args.first.now c.args.second.now c.args.third.now c.loop-index.index n (omega arith) c.if-shared-third.false member other
]
