-- Numbers in rising order, and the order in which the least comes first.
use Rattle.std.specs.Prelude.{ℕ, nat_le, cond, List, [], ◌∷◌, map}
use Rattle.std.specs.Ordering.{nat_cmp}
use Rattle.std.specs.declared.cmp.Ordering.{Ordering}
use Rattle.std.specs.declared.cmp.Reverse.{Reverse}

-- numbers, rising, and for how many there is room
pub record Numbers : Type 0 where
  pub rising : List ℕ
  pub room : ℕ

-- a number put in its place among rising ones
abbrev pub insert_rising : ℕ → List ℕ → List ℕ
insert_rising n [] = n ∷ []
insert_rising n (m ∷ ms) = cond (nat_le n m) (n ∷ m ∷ ms) (m ∷ insert_rising n ms)

-- the numbers, rising
abbrev pub rising_of : List ℕ → List ℕ
rising_of [] = []
rising_of (n ∷ ns) = insert_rising n (rising_of ns)

-- the numbers that are compared the other way round
abbrev pub values_of : List (Reverse ℕ) → List ℕ
values_of xs = map (λ (r : Reverse ℕ). r.0) xs

-- how they are compared
abbrev pub reverse_cmp : Reverse ℕ → Reverse ℕ → Ordering
reverse_cmp r s = nat_cmp s.0 r.0
