use Rattle.std.proofs.Common.{ℕ, ◌<◌, ◌≡◌, ◌||◌, Option, ap, ◌∙◌, subst, sym, arith}
use Rattle.std.specs.Option.{option_map}
use Rattle.kinds.specs.Kind.{kind_number}
use Rattle.kinds.specs.declared.kind.Kind.{Kind}
use Rattle.model.specs.Lists.{is_number}
use Rattle.access_set.specs.Footprints.{has_bit}
use Rattle.access_set.proofs.Bits.{bit_set}
use Rattle.access_set.proofs.footprint.with_kind.Goals as goal

pub returns-in-Some : goal.returns-in-Some
returns-in-Some c = λ number.
    let low : kind_number c.in-Some.kind < 64 = let below = c.prove_kinds_apart.ensures.below c.in-Some.kind in omega arith in
    subst (λ (k : Option Kind). has_bit c.with_bit.result number ≡ (is_number number (option_map kind_number k) || has_bit c.args.word number)) (sym c.in-Some.is)
    (ap (λ (word : ℕ). has_bit word number) c.with_bit.ensures ∙ bit_set c.args.word (kind_number c.in-Some.kind) number low)
