use Rattle.std.proofs.Common.{◌≡◌, ℕ, ◌<◌, ◌++◌, ◌∷◌, [], List, Bool, Option, take, drop, ◌-◌, length, get_or, true, false, arith, sym, subst, ap, ◌∙◌, rules}
use Rattle.std.proofs.lemmas.Result.{IfOk-weaker}
use Rattle.std.proofs.lemmas.List.{length-set, take_rest}
use Rattle.model.specs.Lists.{has}
use Rattle.cycle_search.specs.Cycles.{IsRound, Points}
use Rattle.cycle_search.proofs.Walks.{seen_more, once_push, walk_push, cut_round}
use Rattle.cycle_search.proofs.cycle.go_round.Goals as goal

pub loop-seen-preserved : goal.loop-seen-preserved
loop-seen-preserved c =
    let next : List (Option ℕ) = c.args.next.now in
    let seen : List Bool = c.loop-seen.seen.items in
    let path : List ℕ = c.loop-seen.path.items in
    let current : ℕ = c.loop-seen.current in
    let inv = c.loop-seen.invariant in
    let within : current < length seen = omega (arith, inv.long, inv.within) in
    let pushed : c.push.new.self.items ≡ path ++ current ∷ [] = c.in_ok-push.ensures.items in
    let points : Points next current c.in-Some.following = search rules in
    let fresh : has current path ≡ false = sym (inv.seen current) ∙ search rules in
    rw pushed (record {
      long = length-set seen current true ∙ inv.long;
      seen = seen_more seen path current within inv.seen;
      once = once_push path current inv.once fresh;
      walk = walk_push (Points next) path current c.in-Some.following inv.walk points;
      within = (c.requires.goes.goes current c.in-Some.following points).0;
      on = (c.requires.goes.goes current c.in-Some.following points).1;
    })

pub returns : goal.returns
returns c =
    let next : List (Option ℕ) = c.args.next.now in
    let path : List ℕ = c.loop-seen.path.items in
    let inv = c.loop-seen.invariant in
    let read : c.as_slice.result.now ≡ path = c.as_slice.ensures.value in
    let same : c.deref.result.now ≡ path = c.deref.ensures.value in
    let here : get_or path c.place_on-from.result 0 ≡ c.loop-seen.current = ap (λ (xs : List ℕ). get_or xs c.place_on-from.result 0) (sym read) ∙ c.place_on-from.ensures.there in
    let within : c.place_on-from.result < length path = omega (arith, ap length read, c.place_on-from.ensures.within) in
    let round : IsRound (Points next) (drop c.place_on-from.result path) = cut_round (Points next) path c.loop-seen.current c.place_on-from.result inv.once inv.walk within here in
    let cut : IsRound (Points next) (drop c.place_on-from.result c.deref.result.now) = rw same round in
    IfOk-weaker c.from_slice.result (λ v. v.items ≡ take (length c.deref.result.now - c.place_on-from.result) (drop c.place_on-from.result c.deref.result.now)) (λ v. IsRound (Points next) v.items) (λ v e. subst (λ (xs : List ℕ). IsRound (Points next) xs) (sym (e ∙ take_rest c.deref.result.now c.place_on-from.result)) cut) c.from_slice.ensures.items
