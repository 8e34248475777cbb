use Rattle.std.proofs.Common.{◌≡◌, ℕ, None, length, replicate, ap, sym, subst, ◌∙◌, rules}
use Rattle.std.specs.List.{All}
use Rattle.std.proofs.lemmas.List.{length-replicate}
use Rattle.cycle_search.specs.Orders.{IsBetween}
use Rattle.cycle_search.proofs.Falls.{unranked}
use Rattle.cycle_search.proofs.ranks.first_heights.Goals as goal

pub are_falling-requires : goal.are_falling-requires
are_falling-requires c = subst (λ (n : ℕ). All (IsBetween n) c.args.orders.now) (sym (ap length c.as_slice-then-are_below.ensures.value ∙ c.in_ok-ranks.ensures)) c.requires

pub returns : goal.returns
returns c =
    let none : c.in_ok-vec.field-0.items ≡ replicate c.args.count None = c.in_ok-vec.ensures.items_if_clones_equal (λ y h. search rules) in
    record { long = ap length none ∙ length-replicate c.args.count None; ranked = unranked c.args.orders.now c.in_ok-vec.field-0.items c.args.count none }
