-- What is left of a text behind a value, a key or a line of a document is no longer than the text.
use Rattle.std.proofs.Common.{◌≡◌, ℕ, zero, suc, ◌≤◌, ◌==◌, ◌&&◌, ◌||◌, Bool, true, false, not, cond, if◌then◌else◌, nat_lt, nat_le, List, [], ◌∷◌, ◌++◌, length, length-drop, take, drop, slice_index, encode_utf8, Option, Some, None, IfSome, is_some, unwrap_or, option_map, option_and_then, arith, le_refl, le_trans}
use Rattle.std.specs.List.{prefix_len}
use Rattle.toml_parser.specs.Lexical.{Read, first, skip_turn, skip_from, skip_ws, skip_blank, skip_lines, split_while, starts_newline, is_bare, equals, right_bracket, right_brace, comma, left_bracket, left_brace}
use Rattle.toml_parser.specs.Strings.{Key, hex_escape, escape_char, escape, simple_escape, hex_len, at_delims, special, after_piece, prepend, body, trim_newline, one_line, quoted, starts_string, simple_key, key_after, key, recursion_limit, is_plain}
use Rattle.toml_parser.specs.Numbers.{unquoted, word_len, word_value}
use Rattle.toml.specs.Data.{Data, array, table, string, Items, no_items, push_item, Members}
use Rattle.toml.specs.Tables.{Nodes, no_nodes, put, close, Expression, array_table, std_table, key_value}
use Rattle.toml.specs.Parse.{read_map, after_byte, after_element, key_equals, keyval, items, members, scalar_data, atom, val, header_key, expression, line, ends_line}

-- what is left behind what was read is at most so long
abbrev pub Leaves : {A : Type 0} → ℕ → Read A → Type 0
Leaves n r = IfSome r (λ p. length p.1 ≤ n)

-- so is a text that may be left
abbrev pub Rests : ℕ → Option (List ℕ) → Type 0
Rests n r = IfSome r (λ rest. length rest ≤ n)

-- ---- pieces

pub longer : {A : Type 0} (n m : ℕ) (r : Read A) → n ≤ m → Leaves n r → Leaves m r
longer n m None le h = tt
longer n m (Some p) le h = le_trans h le

pub dropped : (k : ℕ) (text : List ℕ) → length (drop k text) ≤ length text
dropped k text = omega (arith, length-drop k text)

pub leaves-cond : {A : Type 0} (n : ℕ) (c : Bool) (a b : Read A) → Leaves n a → Leaves n b → Leaves n (cond c a b)
leaves-cond n true a b ha hb = ha
leaves-cond n false a b ha hb = hb

pub rests-cond : (n : ℕ) (c : Bool) (a b : Option (List ℕ)) → Rests n a → Rests n b → Rests n (cond c a b)
rests-cond n true a b ha hb = ha
rests-cond n false a b ha hb = hb

pub shorter-cond : (n : ℕ) (c : Bool) (a b : List ℕ) → length a ≤ n → length b ≤ n → length (cond c a b) ≤ n
shorter-cond n true a b ha hb = ha
shorter-cond n false a b ha hb = hb

-- a value that is read of what a text begins with
leaves-found : {A B : Type 0} (n : ℕ) (f : A → B) (rest : List ℕ) (o : Option A) → length rest ≤ n → Leaves n (option_map (λ a. (f a, rest)) o)
leaves-found n f rest None h = tt
leaves-found n f rest (Some a) h = h

-- what was read, as something else
pub leaves-as : {A B : Type 0} (n : ℕ) (f : A → B) (r : Read A) → Leaves n r → Leaves n (option_map (λ p. (f p.0, p.1)) r)
leaves-as n f None h = tt
leaves-as n f (Some p) h = h

pub leaves-then : {A B : Type 0} (n : ℕ) (f : A × List ℕ → Read B) (r : Read A) → Leaves n r → ((p : A × List ℕ) → length p.1 ≤ n → Leaves n (f p)) → Leaves n (option_and_then f r)
leaves-then n f None h next = tt
leaves-then n f (Some p) h next = next p h

pub rests-then : {B : Type 0} (n : ℕ) (f : List ℕ → Read B) (r : Option (List ℕ)) → Rests n r → ((rest : List ℕ) → length rest ≤ n → Leaves n (f rest)) → Leaves n (option_and_then f r)
rests-then n f None h next = tt
rests-then n f (Some rest) h next = next rest h

-- ---- between tokens

pub rest-skip_ws : (text : List ℕ) → length (skip_ws text) ≤ length text
unfolding skip_ws
rest-skip_ws text = dropped _ text

pub rest-skip_from : (comments inside : Bool) (text : List ℕ) → length (skip_from comments inside text) ≤ length text
unfolding skip_from
rest-skip_from comments inside [] = le_refl 0
rest-skip_from comments inside (c ∷ cs) =
    let turn = skip_turn comments inside c (first cs) in
    let more : length (skip_from comments (unwrap_or turn false) cs) ≤ suc (length cs) = omega (arith, rest-skip_from comments (unwrap_or turn false) cs) in
    shorter-cond (suc (length cs)) (is_some turn) _ (c ∷ cs) more (le_refl _)

-- ---- strings and keys

leaves-hex_escape : (n : ℕ) (text : List ℕ) → Leaves (length text) (hex_escape n text)
unfolding hex_escape
leaves-hex_escape n text = search (leaves-cond, dropped)

leaves-escape_char : (text : List ℕ) → Leaves (length text) (escape_char text)
unfolding escape_char
leaves-escape_char text =
    leaves-cond _ (nat_lt 0 (hex_len (first text))) (hex_escape (hex_len (first text)) (drop 1 text)) _
    (longer _ _ (hex_escape (hex_len (first text)) (drop 1 text)) (dropped 1 text) (leaves-hex_escape (hex_len (first text)) (drop 1 text)))
    (leaves-found (length text) (λ c. c) (drop 1 text) (simple_escape (first text)) (dropped 1 text))

leaves-escape : (multi : Bool) (text : List ℕ) → Leaves (length text) (escape multi text)
unfolding escape
leaves-escape multi text =
    leaves-cond (length text) (multi && starts_newline (skip_ws text)) (Some ([], skip_lines text)) _
    (rest-skip_from false false text) (leaves-as (length text) encode_utf8 (escape_char text) (leaves-escape_char text))

leaves-at_delims : (delim : ℕ) (text : List ℕ) → Leaves (length text) (at_delims delim text)
leaves-at_delims delim text = search (leaves-cond, dropped)

leaves-special : (delim : ℕ) (multi : Bool) (text : List ℕ) → Leaves (length text) (special delim multi text)
unfolding special
leaves-special delim multi text =
    let after : Leaves (length text) (escape multi (drop 1 text)) = longer _ _ (escape multi (drop 1 text)) (dropped 1 text) (leaves-escape multi (drop 1 text)) in
    let escaped : Leaves (length text) (option_map (λ p. (Some p.0, p.1)) (escape multi (drop 1 text))) = leaves-as (length text) Some (escape multi (drop 1 text)) after in
    search (leaves-cond, dropped, leaves-at_delims)

leaves-after_piece : (n : ℕ) (more : List ℕ → Read (List ℕ)) (piece : Option (List ℕ)) (rest : List ℕ) → length rest ≤ n → ((text : List ℕ) → Leaves (length text) (more text)) → Leaves n (after_piece more piece rest)
leaves-after_piece n more None rest le h = le
leaves-after_piece n more (Some bytes) rest le h = leaves-as n (λ s. bytes ++ s) (more rest) (longer _ _ (more rest) le (h rest))

leaves-body : (delim : ℕ) (multi : Bool) (n : ℕ) (text : List ℕ) → Leaves (length text) (body delim multi n text)
unfolding body
leaves-body delim multi zero text = tt
leaves-body delim multi (suc n) text =
    let more : Leaves (length text) (body delim multi n (drop 1 text)) = longer _ _ (body delim multi n (drop 1 text)) (dropped 1 text) (leaves-body delim multi n (drop 1 text)) in
    leaves-cond (length text) (is_plain delim multi (first text)) (prepend (first text ∷ []) (body delim multi n (drop 1 text))) _
    (leaves-as (length text) (λ s. first text ∷ s) (body delim multi n (drop 1 text)) more)
    (leaves-then (length text) (λ p. after_piece (body delim multi n) p.0 p.1) (special delim multi text) (leaves-special delim multi text)
    (λ p le. leaves-after_piece (length text) (body delim multi n) p.0 p.1 le (leaves-body delim multi n)))

rest-trim_newline : (text : List ℕ) → length (trim_newline text) ≤ length text
rest-trim_newline text = search (shorter-cond, dropped, le_refl)

leaves-one_line : (text : List ℕ) → Leaves (length text) (one_line text)
unfolding one_line
leaves-one_line text = longer _ _ (body (first text) false (length text) (drop 1 text)) (dropped 1 text) (leaves-body (first text) false (length text) (drop 1 text))

leaves-quoted : (text : List ℕ) → Leaves (length text) (quoted text)
unfolding quoted
leaves-quoted text =
    let whole = body (first text) true (length text) (trim_newline (drop 3 text)) in
    leaves-cond (length text) (slice_index text 1 == first text && slice_index text 2 == first text) whole (one_line text)
    (longer _ _ whole (le_trans (rest-trim_newline (drop 3 text)) (dropped 3 text)) (leaves-body (first text) true (length text) (trim_newline (drop 3 text))))
    (leaves-one_line text)

leaves-simple_key : (text : List ℕ) → Leaves (length text) (simple_key text)
unfolding simple_key
leaves-simple_key text = search (leaves-cond, dropped, leaves-one_line)

leaves-key_after : (n : ℕ) (path : List (List ℕ)) (text : List ℕ) → Leaves (length text) (key_after n path text)
unfolding key_after
leaves-key_after zero path text = tt
leaves-key_after (suc n) path text =
    leaves-then (length text) _ (simple_key text) (leaves-simple_key text) (λ part le.
    let rest : length (skip_ws part.1) ≤ length text = le_trans (rest-skip_ws part.1) le in
    let more : length (skip_ws (drop 1 (skip_ws part.1))) ≤ length text = le_trans (rest-skip_ws _) (le_trans (dropped 1 (skip_ws part.1)) rest) in
    let next = key_after n (path ++ part.0 ∷ []) (skip_ws (drop 1 (skip_ws part.1))) in
    leaves-cond (length text) (first (skip_ws part.1) == 46) next (Some ((path, part.0), skip_ws part.1)) (longer _ _ next more (leaves-key_after n (path ++ part.0 ∷ []) (skip_ws (drop 1 (skip_ws part.1))))) rest)

-- ---- values

leaves-unquoted : (text : List ℕ) → Leaves (length text) (unquoted text)
unfolding unquoted
leaves-unquoted text =
    leaves-cond (length text) (word_len text == 0) None _ tt (leaves-found (length text) (λ d. d) (drop (word_len text) text) (word_value (take (word_len text) text)) (dropped _ text))

rests-after_byte : (byte : ℕ) (text : List ℕ) → Rests (length text) (after_byte byte text)
rests-after_byte byte text = search (rests-cond, dropped)

rests-after_element : (n closing : ℕ) (text : List ℕ) → length text ≤ n → Rests n (after_element closing text)
unfolding after_element
rests-after_element n closing text le =
    let rest : length (skip_blank text) ≤ n = le_trans (rest-skip_from true false text) le in
    let behind : length (drop 1 (skip_blank text)) ≤ n = le_trans (dropped 1 (skip_blank text)) rest in
    search (rests-cond)

pub leaves-key_equals : (text : List ℕ) → Leaves (length text) (key_equals text)
unfolding key_equals
leaves-key_equals text =
    leaves-then (length text) _ (key text) (leaves-key_after recursion_limit [] text) (λ k le.
    leaves-rest (length text) k.0 (after_byte equals k.1) (rests-within (length k.1) (length text) _ le (rests-after_byte equals k.1)))
  where
    leaves-rest : (n : ℕ) (k : Key) (r : Option (List ℕ)) → Rests n r → Leaves n (option_map (λ rest. (k, skip_ws rest)) r)
    leaves-rest n k None h = tt
    leaves-rest n k (Some rest) h = le_trans (rest-skip_ws rest) h

    rests-within : (n m : ℕ) (r : Option (List ℕ)) → n ≤ m → Rests n r → Rests m r
    rests-within n m None le h = tt
    rests-within n m (Some rest) le h = le_trans h le

-- a reader of values that leaves no more than it was given
abbrev pub LeavesAll : (List ℕ → Read Data) → Type 0
LeavesAll read = (text : List ℕ) → Leaves (length text) (read text)

leaves-keyval : (read : List ℕ → Read Data) → LeavesAll read → (text : List ℕ) → Leaves (length text) (keyval read text)
leaves-keyval read h text =
    leaves-then (length text) _ (key_equals text) (leaves-key_equals text) (λ k le. leaves-as (length text) (λ d. (k.0, d)) (read k.1) (longer _ _ (read k.1) le (h k.1)))

leaves-items : (read : List ℕ → Read Data) → LeavesAll read → (n : ℕ) (found : Items) (text : List ℕ) → Leaves (length text) (items read n found text)
unfolding items
leaves-items read h zero found text = tt
leaves-items read h (suc n) found text =
    let start : length (skip_blank text) ≤ length text = rest-skip_from true false text in
    leaves-cond (length text) (first (skip_blank text) == right_bracket) (Some (found, drop 1 (skip_blank text))) _ (le_trans (dropped 1 (skip_blank text)) start)
    (leaves-then (length text) _ (read (skip_blank text)) (longer _ _ (read (skip_blank text)) start (h (skip_blank text)))
    (λ v le. rests-then (length text) (items read n (push_item found v.0)) (after_element right_bracket v.1) (rests-after_element (length text) right_bracket v.1 le)
    (λ rest shorter. longer _ _ (items read n (push_item found v.0) rest) shorter (leaves-items read h n (push_item found v.0) rest))))

leaves-members : (read : List ℕ → Read Data) → LeavesAll read → (n : ℕ) (found : Nodes) (text : List ℕ) → Leaves (length text) (members read n found text)
unfolding members
leaves-members read h zero found text = tt
leaves-members read h (suc n) found text =
    let start : length (skip_blank text) ≤ length text = rest-skip_from true false text in
    leaves-cond (length text) (first (skip_blank text) == right_brace) (Some (close found, drop 1 (skip_blank text))) _ (le_trans (dropped 1 (skip_blank text)) start)
    (leaves-then (length text) _ (keyval read (skip_blank text)) (longer _ _ (keyval read (skip_blank text)) start (leaves-keyval read h (skip_blank text)))
    (λ e le. leaves-each (members read n) (length text) (put e.0.0 e.0.1 found) e.1 le (λ more rest shorter. longer _ _ (members read n more rest) shorter (leaves-members read h n more rest))))
  where
    leaves-each : {B : Type 0} (f : Nodes → List ℕ → Read B) (m : ℕ) (o : Option Nodes) (behind : List ℕ) → length behind ≤ m
        → ((more : Nodes) (rest : List ℕ) → length rest ≤ m → Leaves m (f more rest)) → Leaves m (option_and_then (λ more. option_and_then (f more) (after_element right_brace behind)) o)
    leaves-each f m None behind le next = tt
    leaves-each f m (Some more) behind le next = rests-then m (f more) (after_element right_brace behind) (rests-after_element m right_brace behind le) (next more)

leaves-atom : (text : List ℕ) → Leaves (length text) (atom text)
unfolding atom
leaves-atom text =
    leaves-cond (length text) (starts_string text) (read_map string (quoted text)) _ (leaves-as (length text) string (quoted text) (leaves-quoted text))
    (leaves-as (length text) scalar_data (unquoted text) (leaves-unquoted text))

leaves-val : (depth : ℕ) → LeavesAll (val depth)
unfolding val
leaves-val zero text = leaves-atom text
leaves-val (suc depth) text =
    let listed = items (val depth) (length text) no_items (drop 1 text) in
    let keyed = members (val depth) (length text) no_nodes (drop 1 text) in
    leaves-cond (length text) (first text == left_bracket) (read_map array listed) _
    (leaves-as (length text) array listed (longer _ _ listed (dropped 1 text) (leaves-items (val depth) (leaves-val depth) (length text) no_items (drop 1 text))))
    (leaves-cond (length text) (first text == left_brace) (read_map table keyed) (atom text)
    (leaves-as (length text) table keyed (longer _ _ keyed (dropped 1 text) (leaves-members (val depth) (leaves-val depth) (length text) no_nodes (drop 1 text))))
    (leaves-atom text))

-- ---- lines

leaves-closed : {A : Type 0} (n : ℕ) (a : A) (text : List ℕ) → length text ≤ n → Leaves n (option_map (λ rest. (a, rest)) (after_byte right_bracket text))
leaves-closed n a text le = closed (after_byte right_bracket text) (rests-after_byte right_bracket text)
  where
    closed : (r : Option (List ℕ)) → Rests (length text) r → Leaves n (option_map (λ rest. (a, rest)) r)
    closed None h = tt
    closed (Some rest) h = le_trans h le

pub leaves-header_key : (text : List ℕ) → Leaves (length text) (header_key text)
unfolding header_key
leaves-header_key text =
    leaves-then (length text) _ (key (skip_ws text)) (longer _ _ (key (skip_ws text)) (rest-skip_ws text) (leaves-key_after recursion_limit [] (skip_ws text)))
    (λ k le. leaves-closed (length text) k.0 k.1 le)

leaves-expression : (text : List ℕ) → Leaves (length text) (expression text)
unfolding expression
leaves-expression text =
    let pair = keyval (val recursion_limit) text in
    let table_key = header_key (drop 1 text) in
    let array_key = header_key (drop 2 text) in
    leaves-cond (length text) (first text == left_bracket && slice_index text 1 == left_bracket) _ _
    (leaves-then (length text) _ array_key (longer _ _ array_key (dropped 2 text) (leaves-header_key (drop 2 text))) (λ k le. leaves-closed (length text) (k.0, array_table) k.1 le))
    (leaves-cond (length text) (first text == left_bracket) _ _
    (leaves-as (length text) (λ k. (k, std_table)) table_key (longer _ _ table_key (dropped 1 text) (leaves-header_key (drop 1 text))))
    (leaves-as (length text) (λ p. (p.0, key_value p.1)) pair (leaves-keyval (val recursion_limit) (leaves-val recursion_limit) text)))

pub leaves-line : (text : List ℕ) → Leaves (length text) (line text)
unfolding line
leaves-line text =
    leaves-then (length text) _ (expression text) (leaves-expression text) (λ e le. leaves-cond (length text) (ends_line (skip_ws e.1)) (Some e) None le tt)
