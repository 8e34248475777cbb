use Rattle.std.proofs.Common.{◌≡◌, ℕ, ◌<◌, ◌*◌, ◌++◌, nat_lt, List, Option, IsSome, length, take, drop, arith, subst, ap, ◌∙◌}
use Rattle.std.specs.List.{IsFirstBest}
use Rattle.cycle_search.specs.declared.order.Order.{Order}
use Rattle.cycle_search.specs.Cycles.{IsStep, Points, IsRound, height_of}
use Rattle.cycle_search.proofs.Walks.{goes_on, rankable, round_weaker, turned_round, turned_least}
use Rattle.cycle_search.proofs.cycle.find_cycle.Goals as goal

pub go_round-requires-clause-goes : goal.go_round-requires-clause-goes
go_round-requires-clause-goes c =
    let s = c.in_ok-settled.settled in
    let e = c.in_ok-settled.ensures in
    rw c.as_slice-in-Some.ensures.value (goes_on c.args.orders.now s.ranks.items s.next.items c.args.count c.requires e.long e.points e.stuck)

pub returns-in-None : goal.returns-in-None
returns-in-None c =
    let ranks : List (Option ℕ) = c.in_ok-settled.settled.ranks.items in
    let e = c.in_ok-settled.ensures in
    let same : c.as_slice.result.now ≡ ranks = c.as_slice.ensures.value in
    let whole : (n : ℕ) → n < c.args.count → IsSome (height_of ranks n) = λ n l.
    subst (λ (xs : List (Option ℕ)). IsSome (height_of xs n)) same (c.in-None.ensures.none n (omega (arith, ap length same, e.long))) in
    rankable c.args.orders.now ranks c.args.count (2 * c.args.count) c.requires e.ranked whole

pub returns : goal.returns
returns c =
    let orders : List Order = c.args.orders.now in
    let next : List (Option ℕ) = c.in_ok-settled.settled.next.items in
    let items : List ℕ = c.in_ok-items-in-Some.items.items in
    let turn = c.in_ok-from_least-in-Some.ensures in
    let least : ℕ = turn.0 in
    let whole : c.as_slice-in-Some-2.result.now ≡ items = c.as_slice-in-Some-2.ensures.value in
    let best : IsFirstBest nat_lt items (length items) least = subst (λ (xs : List ℕ). IsFirstBest nat_lt xs (length xs) least) whole turn.1 in
    let turned : c.in_ok-from_least-in-Some.field-0.items ≡ drop least items ++ take least items = turn.2 ∙ ap (λ (xs : List ℕ). drop least xs ++ take least xs) whole in
    let by_next : IsRound (Points next) items = subst (λ (xs : List (Option ℕ)). IsRound (Points xs) items) c.as_slice-in-Some.ensures.value c.in_ok-items-in-Some.ensures in
    let by_orders : IsRound (IsStep orders) items = round_weaker (Points next) (IsStep orders) items (λ m n p. (c.in_ok-settled.ensures.points.ordered m n p).0) by_next in
    rw turned (turned_round (IsStep orders) items least by_orders (omega (arith, best.0)), turned_least items least best)
