use Rattle.archetype_store.proofs.Common.{◌≡◌, ℕ, ◌<◌, ◌==◌, ◌||◌, ◌*◌, ◌%◌, ◌^◌, sym, subst, arith, bit_or, kind_number, has_bit}
use Rattle.archetype_store.proofs.TableIndex.{bit_set}
use Rattle.archetype_store.proofs.table_index.with_kind.Goals as goal

pub returns : goal.returns
returns c = λ k.
    let low : kind_number c.args.kind < 32 = let below = c.prove_kinds_apart.ensures.below c.args.kind in omega arith in
    subst (λ (n : ℕ). has_bit (bit_or c.args.word (1 * 2 ^ n % 2 ^ 32)) k ≡ ((kind_number c.args.kind == k) || has_bit c.args.word k)) (sym c.number.ensures)
    (bit_set c.args.word (kind_number c.args.kind) k low)
