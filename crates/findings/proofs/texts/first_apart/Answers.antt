use Rattle.std.proofs.Common.{◌≡◌, ◌<◌, ℕ, List, Bor, length, map, take, subst, sym, ◌∙◌, inl, arith}
use Rattle.std.proofs.lemmas.List.{length-map}
use Rattle.std.specs.List.{slice_get}
use Rattle.findings.specs.Apart.{IsFirstApart}
use Rattle.findings.proofs.Apart.{same_next, same_all}
use Rattle.findings.proofs.texts.first_apart.Goals as goal

pub loop-place-preserved : goal.loop-place-preserved
loop-place-preserved c =
    let ones : List (List ℕ) = map (λ line. line.now) c.args.lines.now in
    let others : List (List ℕ) = map (λ line. line.now) c.args.beside.now in
    let low : c.loop-place.place < length ones = omega (arith, length-map {A = Bor (List ℕ)} {B = List ℕ}) in
    let same : slice_get ones c.loop-place.place ≡ slice_get others c.loop-place.place = sym c.line_of.ensures ∙ (c.are_same.ensures.same c.if-not-are_same.false ∙ c.line_of-in-loop-place.ensures) in
    same_next ones others c.loop-place.place low same c.loop-place.invariant

pub returns-then-not-are_same : goal.returns-then-not-are_same
returns-then-not-are_same c =
    let ones : List (List ℕ) = map (λ line. line.now) c.args.lines.now in
    record {
      within = omega (arith, length-map {A = Bor (List ℕ)} {B = List ℕ});
      before = c.loop-place.invariant;
      apart = inl (λ same. c.are_same.ensures.apart c.if-not-are_same.true (c.line_of.ensures ∙ (same ∙ sym c.line_of-in-loop-place.ensures)));
    }

pub returns : goal.returns
returns c =
    let ones : List (List ℕ) = map (λ line. line.now) c.args.lines.now in
    let others : List (List ℕ) = map (λ line. line.now) c.args.beside.now in
    let place : c.loop-place.place ≡ length ones = omega (arith, length-map {A = Bor (List ℕ)} {B = List ℕ}) in
    let same : take (length ones) ones ≡ take (length ones) others = subst (λ n. take n ones ≡ take n others) place c.loop-place.invariant in
    let count : length ones ≡ length c.args.lines.now = omega (arith, length-map {A = Bor (List ℕ)} {B = List ℕ}) in
    subst (IsFirstApart ones others) count (record {
      within = omega arith;
      before = same;
      apart = same_all ones others same;
    })
