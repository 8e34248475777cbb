use Rattle.archetype_store.proofs.Common.{ℕ, ◌≡◌, ◌<◌, ◌^◌, ◌*◌, ◌%◌, sym, subst, arith, bit_or, Kind, kind_number, set_limit}
use Rattle.std.proofs.lemmas.Nat.{or_lt}
use Rattle.std.proofs.Math.Pow.{pow-lt}
use Rattle.kinds.proofs.Numbers.{number_below}
use Rattle.archetype_store.proofs.kind_sets.+number_of.Goals as goal

-- the sum stays below the limit
below_limit : (kind : Kind) (n rest : ℕ) → n ≡ kind_number kind → rest < set_limit → bit_or (1 * 2 ^ n % 4294967296) rest < set_limit
below_limit kind n rest e below =
    let low : n < 20 = subst (λ k. k < 20) (sym e) (number_below kind) in
    let power : 2 ^ n < 1048576 = pow-lt low in
    let first : 1 * 2 ^ n % 4294967296 < 1048576 = omega (arith, power) in
    or_lt 20 (1 * 2 ^ n % 4294967296) rest first below

pub returns-clause-below : goal.returns-clause-below
returns-clause-below n c = below_limit c.in-Some.kind.now c.number.result c.number_of.result c.number.ensures c.number_of.ensures.below
