use Rattle.std.proofs.Common.{ℕ, ◌≡◌, ◌<◌, ◌*◌, List, length, Option, Some, None, is_none, ap, sym, subst, ◌∙◌, arith}
use Rattle.std.specs.List.{All}
use Rattle.std.proofs.lemmas.List.{length-set}
use Rattle.std.proofs.lemmas.List.Sums.{count_by-le-length}
use Rattle.cycle_search.specs.Orders.{IsBetween}
use Rattle.cycle_search.specs.Cycles.{height_of, PointsOn, IsStuck}
use Rattle.cycle_search.proofs.Falls.{ranked_more, ranked_higher, count_less, count_fewer}
use Rattle.cycle_search.proofs.ranks.settle.Goals as goal

pub loop-ranks-init : goal.loop-ranks-init
loop-ranks-init c = record {
  long = c.in_ok-ranks.ensures.long;
  ranked = c.in_ok-ranks.ensures.ranked;
  room = let long : length c.in_ok-ranks.ranks.items ≡ c.args.count = c.in_ok-ranks.ensures.long in omega (arith, count_by-le-length is_none c.in_ok-ranks.ranks.items);
}

pub open_seconds-requires : goal.open_seconds-requires
open_seconds-requires c = subst (λ (n : ℕ). All (IsBetween n) c.args.orders.now) (sym (ap length c.as_slice.ensures.value ∙ c.loop-ranks.invariant.long)) c.requires

pub loop-ranks-preserved : goal.loop-ranks-preserved
loop-ranks-preserved c =
    let ranks : List (Option ℕ) = c.loop-ranks.ranks.items in
    let next : List (Option ℕ) = c.in_ok-next.next.items in
    let item : ℕ = c.in-Some.item in
    let found = c.in-Some.ensures.found in
    let low : item < length ranks = subst (λ (xs : List (Option ℕ)). item < length xs) c.as_slice-in-loop-ranks.ensures.value found.0 in
    let none : height_of ranks item ≡ None = subst (λ (xs : List (Option ℕ)). height_of xs item ≡ None) c.as_slice-in-loop-ranks.ensures.value found.1 in
    let ends : height_of next item ≡ None = subst (λ (xs : List (Option ℕ)). height_of xs item ≡ None) c.as_slice-in-loop-ranks-2.ensures.value found.2 in
    let points : PointsOn c.args.orders.now ranks next = subst (λ (xs : List (Option ℕ)). PointsOn c.args.orders.now xs next) c.as_slice.ensures.value c.in_ok-next.ensures in
    record {
      long = length-set ranks item (Some c.loop-ranks.level) ∙ c.loop-ranks.invariant.long;
      ranked = ranked_more c.args.orders.now ranks next c.loop-ranks.level item c.loop-ranks.invariant.ranked points low none ends;
      room = let less = count_less ranks c.loop-ranks.level item low none in let room = c.loop-ranks.invariant.room in omega arith;
    }

pub loop-ranks-smaller : goal.loop-ranks-smaller
loop-ranks-smaller c =
    let ranks : List (Option ℕ) = c.loop-ranks.ranks.items in
    let item : ℕ = c.in-Some.item in
    let found = c.in-Some.ensures.found in
    let low : item < length ranks = subst (λ (xs : List (Option ℕ)). item < length xs) c.as_slice-in-loop-ranks.ensures.value found.0 in
    let none : height_of ranks item ≡ None = subst (λ (xs : List (Option ℕ)). height_of xs item ≡ None) c.as_slice-in-loop-ranks.ensures.value found.1 in
    count_fewer ranks c.loop-ranks.level item low none

pub returns-in-None : goal.returns-in-None
returns-in-None c =
    let ranks : List (Option ℕ) = c.loop-ranks.ranks.items in
    let next : List (Option ℕ) = c.in_ok-next.next.items in
    let stuck : IsStuck c.as_slice-in-loop-ranks.result.now next = subst (λ (xs : List (Option ℕ)). IsStuck c.as_slice-in-loop-ranks.result.now xs) c.as_slice-in-loop-ranks-2.ensures.value c.in-None.ensures.none in
    record {
      long = c.loop-ranks.invariant.long;
      ranked = ranked_higher c.args.orders.now ranks c.loop-ranks.level (2 * c.args.count) (let room = c.loop-ranks.invariant.room in omega arith) c.loop-ranks.invariant.ranked;
      points = subst (λ (xs : List (Option ℕ)). PointsOn c.args.orders.now xs next) c.as_slice.ensures.value c.in_ok-next.ensures;
      stuck = subst (λ (xs : List (Option ℕ)). IsStuck xs next) c.as_slice-in-loop-ranks.ensures.value stuck;
    }
