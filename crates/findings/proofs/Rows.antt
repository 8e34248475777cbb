-- Rows of two lists of lines, one before the others.
use Rattle.std.proofs.Common.{◌≡◌, ℕ, zero, suc, ◌+◌, ◌<◌, ◌≤◌, List, [], ◌∷◌, ◌++◌, length, drop, Option, Some, None, Bool, is_some, ◌||◌, Bor, refl, ap, ◌∙◌, sym, inl, inr, append-nil, append_assoc, subst, add-zero, true, false, arith}
use Rattle.std.specs.List.{slice_get}
use Rattle.std.specs.Option.{option_map, option_to_list}
use Rattle.std.proofs.Math.ListN.{drop_of_length-le}
use Rattle.std.proofs.lemmas.Option.{slice_get_within, slice_get-get_or}
use Rattle.findings.specs.Texts.{AreRows, IsAlone, IsInPlace, IsSideOf, Row, ones_of, others_of, row_text}

-- the line that is next, and those behind it
drop_at : (xs : List (List ℕ)) (at : ℕ) → option_to_list (slice_get xs at) ++ drop (at + length (option_to_list (slice_get xs at))) xs ≡ drop at xs
drop_at [] zero = refl
drop_at [] (suc at) = let none : List (List ℕ) = [] in ap (λ n. drop n none) (add-zero (suc at))
drop_at (x ∷ xs) zero = refl
drop_at (x ∷ xs) (suc at) =
    let e : suc at + length (option_to_list (slice_get xs at)) ≡ suc (at + length (option_to_list (slice_get xs at))) = omega arith in
    ap (λ n. option_to_list (slice_get xs at) ++ drop n (x ∷ xs)) e ∙ drop_at xs at

-- one side of a row, and the lines behind it
side_rest : (xs : List (List ℕ)) (at : ℕ) (side : Option (List ℕ)) → IsSideOf (slice_get xs at) side → option_to_list side ++ drop (at + length (option_to_list side)) xs ≡ drop at xs
side_rest xs at None is = ap (λ n. drop n xs) (add-zero at)
side_rest xs at (Some x) (inl none) = cc
side_rest xs at (Some x) (inr there) = subst (λ o. option_to_list o ++ drop (at + length (option_to_list o)) xs ≡ drop at xs) (sym there) (drop_at xs at)

-- the first of the lines from a place on is that at the place
first_from : (xs : List (List ℕ)) (at : ℕ) → slice_get (drop at xs) 0 ≡ slice_get xs at
first_from [] zero = refl
first_from [] (suc at) = refl
first_from (x ∷ xs) zero = refl
first_from (x ∷ xs) (suc at) = first_from xs at

-- where none of them is taken, it stays next
still_next : (xs ls : List (List ℕ)) (at : ℕ) → ls ≡ drop (at + 0) xs → slice_get xs at ≡ slice_get ls 0
still_next xs ls at are = sym (ap (λ zs. slice_get zs 0) are ∙ (ap (λ n. slice_get (drop n xs) 0) (add-zero at) ∙ first_from xs at))

-- a row is in its place before others, which have the lines behind it
placed_before : (xs ys : List (List ℕ)) (at beside : ℕ) (one two : Option (List ℕ)) (rows : List Row) → IsInPlace one two (slice_get xs at) (slice_get ys beside)
    → ones_of rows ≡ drop (at + length (option_to_list one)) xs → others_of rows ≡ drop (beside + length (option_to_list two)) ys → IsInPlace one two (slice_get (ones_of rows) 0) (slice_get (others_of rows) 0)
placed_before xs ys at beside None None rows is ones others = tt
placed_before xs ys at beside None (Some y) rows is ones others = subst (IsAlone y) (still_next xs (ones_of rows) at ones) is
placed_before xs ys at beside (Some x) None rows is ones others = subst (IsAlone x) (still_next ys (others_of rows) beside others) is
placed_before xs ys at beside (Some x) (Some y) rows is ones others = is

-- one row before others
row_before : (xs ys : List (List ℕ)) (at beside : ℕ) (one two : Option (List ℕ)) (text : List ℕ) → IsSideOf (slice_get xs at) one → IsSideOf (slice_get ys beside) two → IsInPlace one two (slice_get xs at) (slice_get ys beside)
    → AreRows (drop (at + length (option_to_list one)) xs) (drop (beside + length (option_to_list two)) ys) text → AreRows (drop at xs) (drop beside ys) (row_text (one, two) ++ text)
row_before xs ys at beside one two text is_one is_two is_placed behind =
    let row : Row = (one, two) in
    record {
      rows = row ∷ behind.rows;
      left = ap (λ zs. option_to_list one ++ zs) behind.left ∙ side_rest xs at one is_one;
      right = ap (λ zs. option_to_list two ++ zs) behind.right ∙ side_rest ys beside two is_two;
      placed = (placed_before xs ys at beside one two behind.rows is_placed behind.left behind.right, behind.placed);
      told = ap (λ zs. row_text row ++ zs) behind.told;
    }

-- ---- how far a row leads

-- no line behind the last is in a row
pub side_within : (xs : List (List ℕ)) (at : ℕ) (side : Option (List ℕ)) → IsSideOf (slice_get xs at) side → at ≤ length xs → at + length (option_to_list side) ≤ length xs
side_within xs at None is low = omega arith
side_within xs at (Some x) (inl none) low = cc
side_within xs at (Some x) (inr there) low = let h = slice_get_within xs at x (sym there) in omega arith

-- ---- lines by reference

pub side_bytes : (line side : Option (Bor (List ℕ))) (there : Option (List ℕ)) → IsSideOf line side → option_map (λ line. line.now) line ≡ there → IsSideOf there (option_map (λ line. line.now) side)
side_bytes line side there (inl none) is = inl (ap (option_map (λ line. line.now)) none)
side_bytes line side there (inr same) is = inr (ap (option_map (λ line. line.now)) same ∙ is)

some_bytes : (line : Option (Bor (List ℕ))) → is_some (option_map (λ line. line.now) line) ≡ is_some line
some_bytes None = refl
some_bytes (Some line) = refl

-- a line that is there
pub some_there : (xs : List (List ℕ)) (at : ℕ) (line : Option (Bor (List ℕ))) → option_map (λ line. line.now) line ≡ slice_get xs at → at < length xs → is_some line ≡ true
some_there xs at line is low = sym (some_bytes line) ∙ (ap is_some is ∙ ap is_some (slice_get-get_or xs at [] low))

-- a row with a line leads on
pub row_counts : (one two : Option (Bor (List ℕ))) → is_some one || is_some two ≡ true → 1 ≤ length (option_to_list (option_map (λ line. line.now) one)) + length (option_to_list (option_map (λ line. line.now) two))
row_counts None None some = cc
row_counts None (Some y) some = omega arith
row_counts (Some x) None some = omega arith
row_counts (Some x) (Some y) some = omega arith

-- one of two
pub some_first : (a b : Bool) → a ≡ true → a || b ≡ true
some_first a b is = ap (λ x. x || b) is

pub some_second : (a b : Bool) → b ≡ true → a || b ≡ true
some_second true b is = refl
some_second false b is = is

-- ---- a row in a loop

-- whatever the rows from these places on tell, behind a text, is what all rows tell behind an earlier one
abbrev pub HasRows : List (List ℕ) → List (List ℕ) → ℕ → ℕ → List ℕ → List ℕ → Type 0
HasRows xs ys at beside old text = (more : List ℕ) → AreRows (drop at xs) (drop beside ys) more → (whole : List ℕ) × AreRows xs ys whole × (text ++ more ≡ old ++ whole)

pub rows_next : (xs ys : List (List ℕ)) (at beside next next_beside : ℕ) (one two : Option (List ℕ)) (old text new : List ℕ) → IsSideOf (slice_get xs at) one → IsSideOf (slice_get ys beside) two
    → IsInPlace one two (slice_get xs at) (slice_get ys beside) → next ≡ at + length (option_to_list one) → next_beside ≡ beside + length (option_to_list two) → new ≡ text ++ row_text (one, two)
    → HasRows xs ys at beside old text → HasRows xs ys next next_beside old new
rows_next xs ys at beside next next_beside one two old text new is_one is_two is_placed is_next is_beside is before = λ more rows.
    let row : Row = (one, two) in
    let behind : AreRows (drop (at + length (option_to_list one)) xs) (drop (beside + length (option_to_list two)) ys) more =
    subst (λ n. AreRows (drop n xs) (drop (beside + length (option_to_list two)) ys) more) is_next (subst (λ n. AreRows (drop next xs) (drop n ys) more) is_beside rows) in
    let told = before (row_text row ++ more) (row_before xs ys at beside one two more is_one is_two is_placed behind) in
    (told.0, told.1, ap (λ zs. zs ++ more) is ∙ (append_assoc text (row_text row) more ∙ told.2))

-- all rows stand there
pub rows_all : (xs ys : List (List ℕ)) (at beside : ℕ) (old text : List ℕ) → length xs ≤ at → length ys ≤ beside → HasRows xs ys at beside old text → (whole : List ℕ) × AreRows xs ys whole × (text ≡ old ++ whole)
rows_all xs ys at beside old text all all_beside before =
    let none : AreRows [] [] [] = record { rows = []; left = refl; right = refl; placed = tt; told = refl } in
    let behind : AreRows (drop at xs) (drop beside ys) [] = subst (λ zs. AreRows zs (drop beside ys) []) (sym (drop_of_length-le xs all)) (subst (λ zs. AreRows [] zs []) (sym (drop_of_length-le ys all_beside)) none) in
    let told = before [] behind in
    (told.0, told.1, sym (append-nil text) ∙ told.2)
