-- How deep an array or an object is that grows by one value.
use Rattle.std.proofs.Common.{ℕ, ◌≤◌, List, [], ◌∷◌, ◌++◌, max, le_trans, Ordering, Less, Equal, Greater, nat_cmp}
use Rattle.std.proofs.Math.Nat.{max-le, le-max_left, le-max_right}
use Rattle.std.specs.Ordering.{match_ordering}
use Rattle.std.specs.Cmp.Lexicographic.{slice_cmp}
use Rattle.serde_json.specs.Data.{Data, Members, no_members, member, put, depth, items_depth, members_depth}
use Rattle.serde_json.specs.View.{items_view, view}
use Rattle.serde_json.specs.declared.value.Value.{Value}

pub one_more : (n : ℕ) (vs : List Value) (v : Value) → items_depth (items_view vs) ≤ n → depth (view v) ≤ n → items_depth (items_view (vs ++ v ∷ [])) ≤ n
one_more n [] v h d = max-le d h
one_more n (x ∷ vs) v h d =
    max-le (le_trans (le-max_left (depth (view x)) (items_depth (items_view vs))) h) (one_more n vs v (le_trans (le-max_right (depth (view x)) (items_depth (items_view vs))) h) d)

-- an object, by where the new key comes
put_at : (o : Ordering) (n : ℕ) (k l : List ℕ) (d e : Data) (ms more : Members) → depth d ≤ n → depth e ≤ n → members_depth ms ≤ n → members_depth more ≤ n
    → members_depth (match_ordering o (member k d (member l e ms)) (member l d ms) (member l e more)) ≤ n
put_at Less n k l d e ms more hd he hm h = max-le hd (max-le he hm)
put_at Equal n k l d e ms more hd he hm h = max-le hd hm
put_at Greater n k l d e ms more hd he hm h = max-le he h

pub put_more : (n : ℕ) (k : List ℕ) (d : Data) (ms : Members) → depth d ≤ n → members_depth ms ≤ n → members_depth (put k d ms) ≤ n
put_more n k d no_members hd hm = max-le hd hm
put_more n k d (member l e ms) hd hm =
    let he = le_trans (le-max_left (depth e) (members_depth ms)) hm in
    let hs = le_trans (le-max_right (depth e) (members_depth ms)) hm in
    put_at (slice_cmp nat_cmp k l) n k l d e ms (put k d ms) hd he hs (put_more n k d ms hd hs)
