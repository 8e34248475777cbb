-- No array of a document has more values than its text has bytes.
use Rattle.std.proofs.Common.{◌≡◌, ℕ, zero, suc, ◌+◌, ◌≤◌, ◌==◌, ◌&&◌, Bool, true, false, cond, if◌then◌else◌, List, [], ◌∷◌, ◌++◌, length, length-drop, drop, slice_index, Option, Some, None, IfSome, option_map, option_and_then, refl, sym, arith, le_refl, le_trans}
use Rattle.std.specs.Ordering.{nat_cmp, match_ordering}
use Rattle.std.specs.declared.cmp.Ordering.{Ordering}
use Rattle.std.specs.declared.cmp.Ordering.TheVariants.{Less, Equal, Greater}
use Rattle.std.specs.Cmp.Lexicographic.{slice_cmp}
use Rattle.toml_parser.specs.declared.scalar.Scalar.{Scalar}
use Rattle.toml_parser.specs.declared.scalar.Scalar.TheVariants.{Boolean, Integer, Float, Datetime}
use Rattle.toml_parser.specs.Lexical.{Read, first, skip_ws, skip_blank, right_bracket, left_bracket, left_brace}
use Rattle.toml_parser.specs.Strings.{Key, quoted, starts_string, recursion_limit}
use Rattle.toml_parser.specs.Numbers.{unquoted}
use Rattle.toml.specs.Data.{Data, string, integer, float, boolean, datetime, array, table, Items, no_items, item, push_item, Members, no_members, member, get_member, same_key}
use Rattle.toml.specs.Tables.{Node, Nodes, no_nodes, node, value, open_table, open_array, Origin, implicit, dotted, header, close, close_node, Edit, header_node, dot_node, by_header, by_dot, along_header, along_dots, get_node, insert, replace, Definition, key_value, std_table, array_table, new_node, redefine, at_found, at_key, put, Expression, Document, define, define_as}
use Rattle.toml.specs.Parse.{read_map, after_byte, after_element, key_equals, keyval, items, members, scalar_data, atom, val, header_key, expression, line, lines, ends_line, skip_bom, parse_document}
use Rattle.program_file.proofs.Rests.{Leaves, rest-skip_from, dropped, leaves-key_equals, leaves-line, shorter-cond}

abbrev pub item_count : Items → ℕ
item_count no_items = 0
item_count (item d ds) = suc (item_count ds)

-- how many values an array has
abbrev pub value_count : Data → ℕ
value_count (array ds) = item_count ds
value_count _ = 0

count-push : (ds : Items) (d : Data) → item_count (push_item ds d) ≡ suc (item_count ds)
count-push no_items d = refl
count-push (item e ds) d = let more = count-push ds d in omega arith

-- ---- an array that is a value

abbrev Counts : ℕ → Read Data → Type 0
Counts n r = IfSome r (λ p. value_count p.0 ≤ n)

abbrev CountsItems : ℕ → Read Items → Type 0
CountsItems n r = IfSome r (λ p. item_count p.0 ≤ n)

items-cond : (n : ℕ) (c : Bool) (a b : Read Items) → CountsItems n a → CountsItems n b → CountsItems n (cond c a b)
items-cond n true a b ha hb = ha
items-cond n false a b ha hb = hb

data-cond : (n : ℕ) (c : Bool) (a b : Read Data) → Counts n a → Counts n b → Counts n (cond c a b)
data-cond n true a b ha hb = ha
data-cond n false a b ha hb = hb

items-then : {A : Type 0} (n : ℕ) (f : A → Read Items) (o : Option A) → ((a : A) → CountsItems n (f a)) → CountsItems n (option_and_then f o)
items-then n f None next = tt
items-then n f (Some a) next = next a

count-items : (read : List ℕ → Read Data) (m n : ℕ) (found : Items) (text : List ℕ) → item_count found + n ≤ m → CountsItems m (items read n found text)
unfolding items
count-items read m zero found text le = tt
count-items read m (suc n) found text le =
    items-cond m (first (skip_blank text) == right_bracket) (Some (found, drop 1 (skip_blank text))) _ (omega (arith, le))
    (items-then m _ (read (skip_blank text)) (λ v. items-then m (items read n (push_item found v.0)) (after_element right_bracket v.1)
    (λ rest. count-items read m n (push_item found v.0) rest (omega (arith, count-push found v.0)))))

count-scalar : (n : ℕ) (r : Read Scalar) → Counts n (read_map scalar_data r)
count-scalar n None = tt
count-scalar n (Some (Boolean b, rest)) = omega arith
count-scalar n (Some (Integer z, rest)) = omega arith
count-scalar n (Some (Float x, rest)) = omega arith
count-scalar n (Some (Datetime d, rest)) = omega arith

count-string : (n : ℕ) (r : Read (List ℕ)) → Counts n (read_map string r)
count-string n None = tt
count-string n (Some p) = omega arith

count-atom : (n : ℕ) (text : List ℕ) → Counts n (atom text)
unfolding atom
count-atom n text = data-cond n (starts_string text) (read_map string (quoted text)) _ (count-string n (quoted text)) (count-scalar n (unquoted text))

count-array : (n : ℕ) (r : Read Items) → CountsItems n r → Counts n (read_map array r)
count-array n None h = tt
count-array n (Some p) h = h

count-table : (n : ℕ) (r : Read Members) → Counts n (read_map table r)
count-table n None = tt
count-table n (Some p) = omega arith

pub count-val : (n depth : ℕ) (text : List ℕ) → length text ≤ n → Counts n (val depth text)
unfolding val
count-val n zero text le = count-atom n text
count-val n (suc depth) text le =
    let listed = items (val depth) (length text) no_items (drop 1 text) in
    let keyed = members (val depth) (length text) no_nodes (drop 1 text) in
    data-cond n (first text == left_bracket) (read_map array listed) _ (count-array n listed (count-items (val depth) n (length text) no_items (drop 1 text) (omega (arith, le))))
    (data-cond n (first text == left_brace) (read_map table keyed) (atom text) (count-table n keyed) (count-atom n text))

-- ---- what keys hold while a text is read

-- an array that is a value has at most so many values, and so has one that headers made, with the table that is being filled
abbrev IsNarrow : ℕ → ℕ → Node → Type 0
IsNarrow values headers (value d) = value_count d ≤ values
IsNarrow values headers (open_table origin inner) = Unit {0}
IsNarrow values headers (open_array done last) = suc (item_count done) ≤ headers

abbrev AreNarrow : ℕ → ℕ → Nodes → Type 0
AreNarrow values headers no_nodes = Unit {0}
AreNarrow values headers (node k x ns) = IsNarrow values headers x × AreNarrow values headers ns

wider : (values headers more : ℕ) (ns : Nodes) → headers ≤ more → AreNarrow values headers ns → AreNarrow values more ns
wider values headers more no_nodes le h = tt
wider values headers more (node k (value d) ns) le h = (h.0, wider values headers more ns le h.1)
wider values headers more (node k (open_table origin inner) ns) le h = (tt, wider values headers more ns le h.1)
wider values headers more (node k (open_array done last) ns) le h = (le_trans h.0 le, wider values headers more ns le h.1)

option-cond : (P : Node → Type 0) (c : Bool) (a b : Option Node) → IfSome a P → IfSome b P → IfSome (cond c a b) P
option-cond P true a b ha hb = ha
option-cond P false a b ha hb = hb

narrow-cond : (values headers : ℕ) (c : Bool) (a b : Nodes) → AreNarrow values headers a → AreNarrow values headers b → AreNarrow values headers (cond c a b)
narrow-cond values headers true a b ha hb = ha
narrow-cond values headers false a b ha hb = hb

narrow-ordering : (values headers : ℕ) (o : Ordering) (a b c : Nodes) → AreNarrow values headers a → AreNarrow values headers b → AreNarrow values headers c → AreNarrow values headers (match_ordering o a b c)
narrow-ordering values headers Less a b c ha hb hc = ha
narrow-ordering values headers Equal a b c ha hb hc = hb
narrow-ordering values headers Greater a b c ha hb hc = hc

narrow-get : (values headers : ℕ) (k : List ℕ) (ns : Nodes) → AreNarrow values headers ns → IfSome (get_node k ns) (IsNarrow values headers)
narrow-get values headers k no_nodes h = tt
narrow-get values headers k (node l x ns) h = option-cond (IsNarrow values headers) (same_key k l) (Some x) (get_node k ns) h.0 (narrow-get values headers k ns h.1)

narrow-insert : (values headers : ℕ) (k : List ℕ) (x : Node) (ns : Nodes) → IsNarrow values headers x → AreNarrow values headers ns → AreNarrow values headers (insert k x ns)
narrow-insert values headers k x no_nodes here h = (here, tt)
narrow-insert values headers k x (node l y ns) here h =
    narrow-ordering values headers (slice_cmp nat_cmp k l) (node k x (node l y ns)) (node l x ns) (node l y (insert k x ns))
    (here, h) (here, h.1) (h.0, narrow-insert values headers k x ns here h.1)

narrow-replace : (values headers : ℕ) (k : List ℕ) (x : Node) (ns : Nodes) → IsNarrow values headers x → AreNarrow values headers ns → AreNarrow values headers (replace k x ns)
narrow-replace values headers k x no_nodes here h = tt
narrow-replace values headers k x (node l y ns) here h =
    narrow-cond values headers (same_key k l) (node l x ns) (node l y (replace k x ns)) (here, h.1) (h.0, narrow-replace values headers k x ns here h.1)

-- an edit that may be refused leaves narrow nodes
abbrev LeavesNarrow : ℕ → ℕ → Option Nodes → Type 0
LeavesNarrow values headers r = IfSome r (AreNarrow values headers)

narrow-inserted : (values headers : ℕ) (k : List ℕ) (x : Nodes → Node) (ns : Nodes) (r : Option Nodes) → ((inner : Nodes) → IsNarrow values headers (x inner)) → AreNarrow values headers ns
    → LeavesNarrow values headers (option_map (λ inner. insert k (x inner) ns) r)
narrow-inserted values headers k x ns None here h = tt
narrow-inserted values headers k x ns (Some inner) here h = narrow-insert values headers k (x inner) ns (here inner) h

narrow-replaced : (values headers : ℕ) (k : List ℕ) (ns : Nodes) (r : Option Node) → IfSome r (IsNarrow values headers) → AreNarrow values headers ns → LeavesNarrow values headers (option_map (λ x. replace k x ns) r)
narrow-replaced values headers k ns None here h = tt
narrow-replaced values headers k ns (Some x) here h = narrow-replace values headers k x ns here h

narrow-inside : (values headers : ℕ) (f : Nodes → Node) (r : Option Nodes) → ((inner : Nodes) → IsNarrow values headers (f inner)) → IfSome (option_map f r) (IsNarrow values headers)
narrow-inside values headers f None here = tt
narrow-inside values headers f (Some inner) here = here inner

narrow-header_node : (values headers : ℕ) (edit : Edit) (x : Node) → IsNarrow values headers x → IfSome (header_node edit x) (IsNarrow values headers)
narrow-header_node values headers edit (value d) h = tt
narrow-header_node values headers edit (open_table origin inner) h = narrow-inside values headers (open_table origin) (edit inner) (λ _. tt)
narrow-header_node values headers edit (open_array done last) h = narrow-inside values headers (open_array done) (edit last) (λ _. h)

narrow-dot_node : (values headers : ℕ) (edit : Edit) (x : Node) → IfSome (dot_node edit x) (IsNarrow values headers)
narrow-dot_node values headers edit (value d) = tt
narrow-dot_node values headers edit (open_table header inner) = tt
narrow-dot_node values headers edit (open_table implicit inner) = narrow-inside values headers (open_table dotted) (edit inner) (λ _. tt)
narrow-dot_node values headers edit (open_table dotted inner) = narrow-inside values headers (open_table dotted) (edit inner) (λ _. tt)
narrow-dot_node values headers edit (open_array done last) = tt

narrow-by_header : (values headers : ℕ) (k : List ℕ) (edit : Edit) (ns : Nodes) (o : Option Node) → IfSome o (IsNarrow values headers) → AreNarrow values headers ns → LeavesNarrow values headers (by_header k edit ns o)
narrow-by_header values headers k edit ns None found h = narrow-inserted values headers k (open_table implicit) ns (edit no_nodes) (λ _. tt) h
narrow-by_header values headers k edit ns (Some x) found h = narrow-replaced values headers k ns (header_node edit x) (narrow-header_node values headers edit x found) h

narrow-by_dot : (values headers : ℕ) (k : List ℕ) (edit : Edit) (ns : Nodes) (o : Option Node) → AreNarrow values headers ns → LeavesNarrow values headers (by_dot k edit ns o)
narrow-by_dot values headers k edit ns None h = narrow-inserted values headers k (open_table dotted) ns (edit no_nodes) (λ _. tt) h
narrow-by_dot values headers k edit ns (Some x) h = narrow-replaced values headers k ns (dot_node edit x) (narrow-dot_node values headers edit x) h

-- an edit at the end of a path is one at the root, or leaves what keys hold there as it was
narrow-along_header : (values headers : ℕ) (path : List (List ℕ)) (edit : Edit) (ns : Nodes) → LeavesNarrow values headers (edit ns) → AreNarrow values headers ns → LeavesNarrow values headers (along_header path edit ns)
unfolding along_header
narrow-along_header values headers [] edit ns edited h = edited
narrow-along_header values headers (k ∷ path) edit ns edited h =
    narrow-by_header values headers k (along_header path edit) ns (get_node k ns) (narrow-get values headers k ns h) h

narrow-along_dots : (values headers : ℕ) (path : List (List ℕ)) (edit : Edit) (ns : Nodes) → LeavesNarrow values headers (edit ns) → AreNarrow values headers ns → LeavesNarrow values headers (along_dots path edit ns)
unfolding along_dots
narrow-along_dots values headers [] edit ns edited h = edited
narrow-along_dots values headers (k ∷ path) edit ns edited h = narrow-by_dot values headers k (along_dots path edit) ns (get_node k ns) h

-- what is defined is narrow
abbrev Defines : ℕ → Definition → Type 0
Defines values (key_value d) = value_count d ≤ values
Defines values std_table = Unit {0}
Defines values array_table = Unit {0}

narrow-new : (values headers : ℕ) (what : Definition) → Defines values what → IsNarrow values (suc headers) (new_node what)
narrow-new values headers (key_value d) h = h
narrow-new values headers std_table h = tt
narrow-new values headers array_table h = omega arith

narrow-redefined : (values headers : ℕ) (what : Definition) (x : Node) → IsNarrow values headers x → IfSome (redefine what x) (IsNarrow values (suc headers))
narrow-redefined values headers (key_value d) (value e) h = tt
narrow-redefined values headers (key_value d) (open_table implicit inner) h = tt
narrow-redefined values headers (key_value d) (open_table dotted inner) h = tt
narrow-redefined values headers (key_value d) (open_table header inner) h = tt
narrow-redefined values headers (key_value d) (open_array done last) h = tt
narrow-redefined values headers std_table (value e) h = tt
narrow-redefined values headers std_table (open_table implicit inner) h = tt
narrow-redefined values headers std_table (open_table dotted inner) h = tt
narrow-redefined values headers std_table (open_table header inner) h = tt
narrow-redefined values headers std_table (open_array done last) h = tt
narrow-redefined values headers array_table (value e) h = tt
narrow-redefined values headers array_table (open_table implicit inner) h = tt
narrow-redefined values headers array_table (open_table dotted inner) h = tt
narrow-redefined values headers array_table (open_table header inner) h = tt
narrow-redefined values headers array_table (open_array done last) h = let more = count-push done (table (close last)) in omega (arith, h)

narrow-at_found : (values headers : ℕ) (k : List ℕ) (what : Definition) (ns : Nodes) (o : Option Node) → Defines values what → IfSome o (IsNarrow values headers) → AreNarrow values headers ns
    → LeavesNarrow values (suc headers) (at_found k what ns o)
narrow-at_found values headers k what ns None new found h = narrow-insert values (suc headers) k (new_node what) ns (narrow-new values headers what new) (wider values headers (suc headers) ns (omega arith) h)
narrow-at_found values headers k what ns (Some x) new found h =
    narrow-replaced values (suc headers) k ns (redefine what x) (narrow-redefined values headers what x found) (wider values headers (suc headers) ns (omega arith) h)

narrow-at_key : (values headers : ℕ) (k : List ℕ) (what : Definition) (ns : Nodes) → Defines values what → AreNarrow values headers ns → LeavesNarrow values (suc headers) (at_key k what ns)
unfolding at_key
narrow-at_key values headers k what ns new h = narrow-at_found values headers k what ns (get_node k ns) new (narrow-get values headers k ns h) h

narrow-put : (values headers : ℕ) (key : Key) (d : Data) (ns : Nodes) → value_count d ≤ values → AreNarrow values headers ns → LeavesNarrow values (suc headers) (put key d ns)
narrow-put values headers key d ns new h =
    narrow-along_dots values (suc headers) key.0 (at_key key.1 (key_value d)) ns (narrow-at_key values headers key.1 (key_value d) ns new h) (wider values headers (suc headers) ns (omega arith) h)

-- so is a document that may be refused
abbrev IsNarrowDocument : ℕ → ℕ → Option Document → Type 0
IsNarrowDocument values headers r = IfSome r (λ doc. AreNarrow values headers doc.0)

narrow-document : (values headers : ℕ) (section : List (List ℕ)) (r : Option Nodes) → LeavesNarrow values headers r → IsNarrowDocument values headers (option_map (λ root. (root, section)) r)
narrow-document values headers section None h = tt
narrow-document values headers section (Some root) h = h

narrow-define : (values headers : ℕ) (doc : Document) (key : Key) (what : Definition) → Defines values what → AreNarrow values headers doc.0 → IsNarrowDocument values (suc headers) (define doc (key, what))
unfolding define
narrow-define values headers doc key (key_value d) new h =
    narrow-document values (suc headers) doc.1 (along_header doc.1 (put key d) doc.0)
    (narrow-along_header values (suc headers) doc.1 (put key d) doc.0 (narrow-put values headers key d doc.0 new h) (wider values headers (suc headers) doc.0 (omega arith) h))
narrow-define values headers doc key std_table new h =
    narrow-document values (suc headers) (key.0 ++ key.1 ∷ []) (along_header key.0 (at_key key.1 std_table) doc.0)
    (narrow-along_header values (suc headers) key.0 (at_key key.1 std_table) doc.0 (narrow-at_key values headers key.1 std_table doc.0 new h) (wider values headers (suc headers) doc.0 (omega arith) h))
narrow-define values headers doc key array_table new h =
    narrow-document values (suc headers) (key.0 ++ key.1 ∷ []) (along_header key.0 (at_key key.1 array_table) doc.0)
    (narrow-along_header values (suc headers) key.0 (at_key key.1 array_table) doc.0 (narrow-at_key values headers key.1 array_table doc.0 new h) (wider values headers (suc headers) doc.0 (omega arith) h))

-- ---- lines

-- what a line that may be refused defines, and what is left behind it
abbrev IsNarrowLine : ℕ → Read Expression → Type 0
IsNarrowLine values r = IfSome r (λ e. Defines values e.0.1)

line-cond : (values : ℕ) (c : Bool) (a b : Read Expression) → IsNarrowLine values a → IsNarrowLine values b → IsNarrowLine values (cond c a b)
line-cond values true a b ha hb = ha
line-cond values false a b ha hb = hb

line-pair : (values : ℕ) (k : Key) (r : Read Data) → Counts values r → IsNarrowLine values (option_map (λ p. ((k, key_value p.0), p.1)) r)
line-pair values k None h = tt
line-pair values k (Some p) h = h

line-keyval : (values : ℕ) (text : List ℕ) (r : Read Key) → length text ≤ values → Leaves (length text) r
    → IsNarrowLine values (read_map (λ (p : Key × Data). (p.0, key_value p.1)) (option_and_then (λ k. read_map (λ d. (k.0, d)) (val recursion_limit k.1)) r))
line-keyval values text None le h = tt
line-keyval values text (Some k) le h = pair (val recursion_limit k.1) (count-val values recursion_limit k.1 (le_trans h le))
  where
    pair : (v : Read Data) → Counts values v → IsNarrowLine values (read_map (λ (p : Key × Data). (p.0, key_value p.1)) (read_map (λ d. (k.0, d)) v))
    pair None c = tt
    pair (Some p) c = c

line-array : (values : ℕ) (r : Read Key) → IsNarrowLine values (option_and_then (λ k. option_map (λ rest. ((k.0, array_table), rest)) (after_byte right_bracket k.1)) r)
line-array values None = tt
line-array values (Some k) = closed (after_byte right_bracket k.1)
  where
    closed : (o : Option (List ℕ)) → IsNarrowLine values (option_map (λ rest. ((k.0, array_table), rest)) o)
    closed None = tt
    closed (Some rest) = tt

line-table : (values : ℕ) (r : Read Key) → IsNarrowLine values (read_map (λ k. (k, std_table)) r)
line-table values None = tt
line-table values (Some k) = tt

narrow-expression : (values : ℕ) (text : List ℕ) → length text ≤ values → IsNarrowLine values (expression text)
unfolding expression
narrow-expression values text le =
    line-cond values (first text == left_bracket && slice_index text 1 == left_bracket) _ _ (line-array values (header_key (drop 2 text)))
    (line-cond values (first text == left_bracket) _ _ (line-table values (header_key (drop 1 text))) (line-keyval values text (key_equals text) le (leaves-key_equals text)))

narrow-line : (values : ℕ) (text : List ℕ) → length text ≤ values → IsNarrowLine values (line text)
unfolding line
narrow-line values text le = ended (expression text) (narrow-expression values text le)
  where
    ended : (r : Read Expression) → IsNarrowLine values r → IsNarrowLine values (option_and_then (λ e. cond (ends_line (skip_ws e.1)) (Some e) None) r)
    ended None h = tt
    ended (Some e) h = line-cond values (ends_line (skip_ws e.1)) (Some e) None h tt

document-cond : (values headers : ℕ) (c : Bool) (a b : Option Document) → IsNarrowDocument values headers a → IsNarrowDocument values headers b → IsNarrowDocument values headers (cond c a b)
document-cond values headers true a b ha hb = ha
document-cond values headers false a b ha hb = hb

narrow-next : (values headers most : ℕ) (f : Document → Option Document) (r : Option Document) → IsNarrowDocument values headers r → ((next : Document) → AreNarrow values headers next.0 → IsNarrowDocument values most (f next))
    → IsNarrowDocument values most (option_and_then f r)
narrow-next values headers most f None h more = tt
narrow-next values headers most f (Some next) h more = more next h

read-line : (values headers most : ℕ) (doc : Document) (f : Document → List ℕ → Option Document) (r : Read Expression) → IsNarrowLine values r → Leaves values r → AreNarrow values headers doc.0
    → ((next : Document) (rest : List ℕ) → length rest ≤ values → AreNarrow values (suc headers) next.0 → IsNarrowDocument values most (f next rest))
    → IsNarrowDocument values most (option_and_then (λ e. option_and_then (λ next. f next e.1) (define doc e.0)) r)
read-line values headers most doc f None new left h more = tt
read-line values headers most doc f (Some e) new left h more =
    narrow-next values (suc headers) most (λ next. f next e.1) (define doc e.0) (narrow-define values headers doc e.0.0 e.0.1 new h) (λ next there. more next e.1 left there)

-- each line makes an array that headers made longer by one table at most
narrow-lines : (values headers most n : ℕ) (doc : Document) (text : List ℕ) → length text ≤ values → headers + n ≤ suc most → AreNarrow values headers doc.0 → IsNarrowDocument values most (lines n doc text)
unfolding lines
narrow-lines values headers most zero doc text le room h = tt
narrow-lines values headers most (suc n) doc text le room h =
    let start = skip_blank text in
    let shorter : length start ≤ values = le_trans (rest-skip_from true false text) le in
    document-cond values most (length start == 0) (Some doc) _ (wider values headers most doc.0 (omega (arith, room)) h)
    (read-line values headers most doc (lines n) (line start) (narrow-line values start shorter) (behind start (line start) shorter (leaves-line start)) h
    (λ next rest short there. narrow-lines values (suc headers) most n next rest short (omega (arith, room)) there))
  where
    behind : (start : List ℕ) (r : Read Expression) → length start ≤ values → Leaves (length start) r → Leaves values r
    behind start None shorter left = tt
    behind start (Some e) shorter left = le_trans left shorter

-- ---- the document

abbrev AreShort : ℕ → Members → Type 0
AreShort n no_members = Unit {0}
AreShort n (member k d ms) = (value_count d ≤ n) × AreShort n ms

short-close : (n : ℕ) (ns : Nodes) → AreNarrow n n ns → AreShort n (close ns)
short-close n no_nodes h = tt
short-close n (node k (value d) ns) h = (h.0, short-close n ns h.1)
short-close n (node k (open_table origin inner) ns) h = (omega arith, short-close n ns h.1)
short-close n (node k (open_array done last) ns) h = (omega (arith, count-push done (table (close last)), h.0), short-close n ns h.1)

short-ordering : (n : ℕ) (o : Ordering) (a b c : Option Data) → IfSome a (λ d. value_count d ≤ n) → IfSome b (λ d. value_count d ≤ n) → IfSome c (λ d. value_count d ≤ n) → IfSome (match_ordering o a b c) (λ d. value_count d ≤ n)
short-ordering n Less a b c ha hb hc = ha
short-ordering n Equal a b c ha hb hc = hb
short-ordering n Greater a b c ha hb hc = hc

short-get : (n : ℕ) (k : List ℕ) (ms : Members) → AreShort n ms → IfSome (get_member k ms) (λ d. value_count d ≤ n)
short-get n k no_members h = tt
short-get n k (member l d ms) h =
    let rest = short-get n k ms h.1 in
    short-ordering n (slice_cmp nat_cmp k l) (get_member k ms) (Some d) (get_member k ms) rest h.0 rest

rest-skip_bom : (text : List ℕ) → length (skip_bom text) ≤ length text
unfolding skip_bom
rest-skip_bom text = shorter-cond (length text) ((first text == 0xEF && slice_index text 1 == 0xBB) && slice_index text 2 == 0xBF) (drop 3 text) text (dropped 3 text) (le_refl _)

short-closed : (n : ℕ) (r : Option Document) → IsNarrowDocument n n r → IfSome (option_map (λ doc. close doc.0) r) (AreShort n)
short-closed n None h = tt
short-closed n (Some doc) h = short-close n doc.0 h

short-document : (text : List ℕ) → IfSome (parse_document text) (AreShort (length text))
unfolding parse_document
short-document text =
    short-closed (length text) (lines (suc (length text)) (no_nodes, []) (skip_bom text))
    (narrow-lines (length text) 0 (length text) (suc (length text)) (no_nodes, []) (skip_bom text) (rest-skip_bom text) (omega arith) tt)

-- the array at a key of the document that a text is has no more values than the text has bytes
pub count-document : (text : List ℕ) (document : Members) (k : List ℕ) → parse_document text ≡ Some document → IfSome (get_member k document) (λ d. value_count d ≤ length text)
count-document text document k is = short-get (length text) k document (rw is at (short-document text))
