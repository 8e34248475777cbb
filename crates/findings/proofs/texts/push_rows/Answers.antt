use Rattle.std.proofs.Common.{◌≡◌, ◌≤◌, ◌+◌, ℕ, List, true, is_some, ◌||◌, Bor, length, map, refl, subst, arith}
use Rattle.std.proofs.lemmas.List.{length-map}
use Rattle.std.specs.List.{slice_get}
use Rattle.std.specs.Option.{option_map, option_to_list}
use Rattle.findings.specs.Texts.{IsInPlace, IsSideOf}
use Rattle.findings.proofs.Rows.{rows_all, rows_next, row_counts, side_bytes, side_within, some_first, some_second, some_there}
use Rattle.findings.proofs.texts.push_rows.Goals as goal
use Rattle.findings.proofs.texts.push_rows.Goals.{then-at-lines, else-at-lines+then-beside_at-beside}

pub loop-at-init : goal.loop-at-init
loop-at-init c = record { at = omega arith; beside_at = omega arith; rest = λ more rows. (more, rows, refl) }

pub loop-at-preserved : goal.loop-at-preserved
loop-at-preserved c =
    let xs : List (List ℕ) = map (λ line. line.now) c.args.lines.now in
    let ys : List (List ℕ) = map (λ line. line.now) c.args.beside.now in
    let count : length xs ≡ length c.args.lines.now = omega (arith, length-map {A = Bor (List ℕ)} {B = List ℕ}) in
    let counted : length ys ≡ length c.args.beside.now = omega (arith, length-map {A = Bor (List ℕ)} {B = List ℕ}) in
    let one = option_map (λ line. line.now) c.row_of.result.0 in
    let two = option_map (λ line. line.now) c.row_of.result.1 in
    let is_one : IsSideOf (slice_get xs c.loop-at.at) one = side_bytes _ _ _ c.row_of.ensures.one c.line_of.ensures in
    let is_two : IsSideOf (slice_get ys c.loop-at.beside_at) two = side_bytes _ _ _ c.row_of.ensures.two c.line_of-in-loop-at.ensures in
    let is_placed : IsInPlace one two (slice_get xs c.loop-at.at) (slice_get ys c.loop-at.beside_at) =
    subst (λ o. IsInPlace one two o (slice_get ys c.loop-at.beside_at)) c.line_of.ensures (subst (λ o. IsInPlace one two (option_map (λ line. line.now) c.line_of.result) o) c.line_of-in-loop-at.ensures c.row_of.ensures.placed) in
    let inv = c.loop-at.invariant in
    let low : c.loop-at.at + length (option_to_list one) ≤ length xs = side_within xs c.loop-at.at one is_one (omega (arith, inv.at)) in
    let low_beside : c.loop-at.beside_at + length (option_to_list two) ≤ length ys = side_within ys c.loop-at.beside_at two is_two (omega (arith, inv.beside_at)) in
    record {
      at = omega (arith, c.behind-at.ensures, low, count);
      beside_at = omega (arith, c.behind-beside_at.ensures, low_beside, counted);
      rest = rows_next xs ys c.loop-at.at c.loop-at.beside_at _ _ one two _ _ _ is_one is_two is_placed c.behind-at.ensures c.behind-beside_at.ensures c.in_ok-push_row.ensures inv.rest;
    }

pub loop-at-smaller : goal.loop-at-smaller
loop-at-smaller c =
    let xs : List (List ℕ) = map (λ line. line.now) c.args.lines.now in
    let ys : List (List ℕ) = map (λ line. line.now) c.args.beside.now in
    let count : length xs ≡ length c.args.lines.now = omega (arith, length-map {A = Bor (List ℕ)} {B = List ℕ}) in
    let counted : length ys ≡ length c.args.beside.now = omega (arith, length-map {A = Bor (List ℕ)} {B = List ℕ}) in
    let one = option_map (λ line. line.now) c.row_of.result.0 in
    let two = option_map (λ line. line.now) c.row_of.result.1 in
    let is_one : IsSideOf (slice_get xs c.loop-at.at) one = side_bytes _ _ _ c.row_of.ensures.one c.line_of.ensures in
    let is_two : IsSideOf (slice_get ys c.loop-at.beside_at) two = side_bytes _ _ _ c.row_of.ensures.two c.line_of-in-loop-at.ensures in
    let inv = c.loop-at.invariant in
    let low : c.loop-at.at + length (option_to_list one) ≤ length xs = side_within xs c.loop-at.at one is_one (omega (arith, inv.at)) in
    let low_beside : c.loop-at.beside_at + length (option_to_list two) ≤ length ys = side_within ys c.loop-at.beside_at two is_two (omega (arith, inv.beside_at)) in
    let line = is_some c.line_of.result in
    let other = is_some c.line_of-in-loop-at.result in
    let there : line || other ≡ true = elim c.if-at-lines.branch [
      | then-at-lines w ↦ some_first line other (some_there xs c.loop-at.at c.line_of.result c.line_of.ensures (omega (arith, w.if-at-lines.true, count)))
      | else-at-lines+then-beside_at-beside w ↦ some_second line other (some_there ys c.loop-at.beside_at c.line_of-in-loop-at.result c.line_of-in-loop-at.ensures (omega (arith, w.if-beside_at-beside.true, counted)))
    ] in
    let some : 1 ≤ length (option_to_list one) + length (option_to_list two) = row_counts c.row_of.result.0 c.row_of.result.1 (c.row_of.ensures.some there) in
    omega (arith, c.behind-at.ensures, c.behind-beside_at.ensures, low, low_beside, count, counted, some)

pub returns : goal.returns
returns c =
    let xs : List (List ℕ) = map (λ line. line.now) c.args.lines.now in
    let ys : List (List ℕ) = map (λ line. line.now) c.args.beside.now in
    let all : length xs ≤ c.loop-at.at = omega (arith, length-map {A = Bor (List ℕ)} {B = List ℕ}) in
    let all_beside : length ys ≤ c.loop-at.beside_at = omega (arith, length-map {A = Bor (List ℕ)} {B = List ℕ}) in
    rows_all xs ys c.loop-at.at c.loop-at.beside_at _ _ all all_beside c.loop-at.invariant.rest
