-- Sets that are found by their names, and what is in them.
use Rattle.std.proofs.Common.{◌≡◌, ℕ, zero, suc, ◌+◌, ◌<◌, ◌≤◌, Bool, true, false, cond, nat_lt, Bor, List, [], ◌∷◌, ◌++◌, length, map, get_or, take, Some, None, refl, ap, subst, sym, ◌∙◌, inl, inr, append-nil, append_assoc, arith}
use Rattle.std.proofs.lemmas.Bool.{lt-ltb}
use Rattle.std.proofs.lemmas.List.{length-append, length-map, map-append, take_more}
use Rattle.std.proofs.lemmas.List.Concat.{flat_map-append}
use Rattle.std.specs.List.{position_or_len}
use Rattle.std.specs.Option.{option_map, option_to_list}
use Rattle.std.specs.Str.{bytes_eq}
use Rattle.model.specs.Lists.{IsIn}
use Rattle.model.specs.declarations.Declarations.{Declared, DeclaredItem, DeclaredSystem, first_named, from_each, hierarchy_of, holders_in, item_at, items_of, number_of}
use Rattle.model.specs.declarations.Hierarchy.{Hierarchy}
use Rattle.model.specs.declarations.Refusals.{KnowsNames}
use Rattle.model.proofs.lists.Lists.{IsIn_left, IsIn_right}
use Rattle.program_file.specs.declared.program_file.ItemTable.{ItemTable}
use Rattle.program_file.specs.declared.program_file.SystemTable.{SystemTable}
use Rattle.program.specs.Said.{declared_said, item_said, system_said}
use Rattle.schedule_builder.proofs.Lookups.{from_each-all, from_more, whole_of}
use Rattle.std.specs.Prelude.{Vec}
use Rattle.std.specs.declared.alloc.Global.{Global}
use Rattle.system_set.specs.Coverage.{AreCovered, AreNumbers}
use Rattle.findings.specs.Sets.{AreSetsOf, held_by, held_by_one, set_named}
use Rattle.findings.specs.declared.sets.Sets.{Sets}

-- ---- the item of a number

pub item_among : (ts : List ItemTable) (more : List DeclaredItem) (k : ℕ) (t : ItemTable) (d : DeclaredItem) → k < length ts → item_said (get_or ts k t) ≡ get_or (map item_said ts ++ more) k d
item_among [] more k t d low = absurd (omega arith)
item_among (x ∷ ts) more zero t d low = refl
item_among (x ∷ ts) more (suc k) t d low = item_among ts more k t d (omega arith)

item_system : (ss : List SystemTable) (j : ℕ) (s : SystemTable) (d : DeclaredItem) → j < length ss → item_said (get_or ss j s).item ≡ get_or (map (λ (x : DeclaredSystem). x.item) (map system_said ss)) j d
item_system [] j s d low = absurd (omega arith)
item_system (x ∷ ss) zero s d low = refl
item_system (x ∷ ss) (suc j) s d low = item_system ss j s d (omega arith)

item_behind : (ts : List ItemTable) (ss : List SystemTable) (j : ℕ) (s : SystemTable) (d : DeclaredItem) → j < length ss
    → item_said (get_or ss j s).item ≡ get_or (map item_said ts ++ map (λ (x : DeclaredSystem). x.item) (map system_said ss)) (length ts + j) d
item_behind [] ss j s d low = let e : 0 + j ≡ j = omega arith in item_system ss j s d low ∙ ap (λ k. get_or (map (λ (x : DeclaredSystem). x.item) (map system_said ss)) k d) (sym e)
item_behind (x ∷ ts) ss j s d low =
    let e : length (x ∷ ts) + j ≡ suc (length ts + j) = omega arith in
    item_behind ts ss j s d low ∙ ap (λ k. get_or (map item_said (x ∷ ts) ++ map (λ (x : DeclaredSystem). x.item) (map system_said ss)) k d) (sym e)

pub item_later : (ts : List ItemTable) (ss : List SystemTable) (number j : ℕ) (s : SystemTable) (d : DeclaredItem) → length ts + j ≡ number → j < length ss
    → item_said (get_or ss j s).item ≡ get_or (map item_said ts ++ map (λ (x : DeclaredSystem). x.item) (map system_said ss)) number d
item_later ts ss number j s d is low = item_behind ts ss j s d low ∙ ap (λ k. get_or (map item_said ts ++ map (λ (x : DeclaredSystem). x.item) (map system_said ss)) k d) is

pub items_count : (ts : List ItemTable) (ss : List SystemTable) → length (items_of (declared_said ts ss [])) ≡ length ts + length ss
items_count ts ss = omega (arith, length-append (map item_said ts) (map (λ (x : DeclaredSystem). x.item) (map system_said ss)), length-map {A = ItemTable} {B = DeclaredItem}, length-map {A = SystemTable} {B = DeclaredSystem}, length-map {A = DeclaredSystem} {B = DeclaredItem})

-- ---- sets by name

-- where an item of a name is a set, it is the first set of the name
first_set : (ts : List ItemTable) (more : List DeclaredItem) (x : List ℕ) → first_named (map item_said ts ++ more) x < length ts → position_or_len (λ (t : ItemTable). bytes_eq t.name.now x) ts ≡ first_named (map item_said ts ++ more) x
first_set [] more x low = absurd (omega arith)
first_set (t ∷ ts) more x low = go (λ l. first_set ts more x l) (bytes_eq t.name.now x) refl where
  go : (first_named (map item_said ts ++ more) x < length ts → position_or_len (λ (t : ItemTable). bytes_eq t.name.now x) ts ≡ first_named (map item_said ts ++ more) x) → (b : Bool) → bytes_eq t.name.now x ≡ b → position_or_len (λ (t : ItemTable). bytes_eq t.name.now x) (t ∷ ts) ≡ first_named (map item_said (t ∷ ts) ++ more) x
  go later-set true e = rw e refl
  go later-set false e =
      let later : first_named (map item_said (t ∷ ts) ++ more) x ≡ suc (first_named (map item_said ts ++ more) x) = rw e refl in
      let rest : position_or_len (λ (t : ItemTable). bytes_eq t.name.now x) (t ∷ ts) ≡ suc (position_or_len (λ (t : ItemTable). bytes_eq t.name.now x) ts) = rw e (omega arith) in
      rest ∙ (ap suc (later-set (omega (arith, low, later))) ∙ sym later)

set_is : (ts : List ItemTable) (more : List DeclaredItem) (x : List ℕ) → first_named (map item_said ts ++ more) x < length ts → set_named ts x ≡ Some (first_named (map item_said ts ++ more) x)
set_is ts more x low =
    let place = first_set ts more x low in
    let within : nat_lt (position_or_len (λ (t : ItemTable). bytes_eq t.name.now x) ts) (length ts) ≡ true = lt-ltb _ _ (omega (arith, place, low)) in
    ap (λ b. cond b (Some (position_or_len (λ (t : ItemTable). bytes_eq t.name.now x) ts)) None) within ∙ ap (λ k. Some k) place

-- ---- where all names are known, what is found is what is declared

module _ (ts : List ItemTable) (ss : List SystemTable) where
  abbrev said : Declared
  said = declared_said ts ss []

  names_same : (n : ℕ) (names : List (List ℕ)) → ((m k : ℕ) → IsIn {A = ℕ × ℕ} (m, k) (map (λ name. (n, number_of said name)) names) → k < length ts) → held_by ts n names ≡ map (λ name. (n, number_of said name)) names
  names_same n [] below = refl
  names_same n (x ∷ names) below =
      let one : held_by_one ts n x ≡ (n, number_of said x) ∷ [] =
      ap (λ o. option_to_list (option_map (λ set. (n, set)) o)) (set_is ts (map (λ (s : DeclaredSystem). s.item) (map system_said ss)) x (below n (number_of said x) (inl refl))) in
      ap (λ ps. ps ++ held_by ts n names) one ∙ ap (λ ps. (n, number_of said x) ∷ ps) (names_same n names (λ m k h. below m k (inr h)))

  items_same : (n : ℕ) (items : List DeclaredItem) → ((m k : ℕ) → IsIn {A = ℕ × ℕ} (m, k) (from_each (holders_in said) n items) → k < length ts) → from_each (λ m i. held_by ts m i.inside) n items ≡ from_each (holders_in said) n items
  items_same n [] below = refl
  items_same n (i ∷ items) below =
      let here = names_same n i.inside (λ m k h. below m k (IsIn_left (m, k) (holders_in said n i) (from_each (holders_in said) (suc n) items) h)) in
      let later = items_same (suc n) items (λ m k h. below m k (IsIn_right (m, k) (holders_in said n i) (from_each (holders_in said) (suc n) items) h)) in
      ap (λ ps. ps ++ from_each (λ m i. held_by ts m i.inside) (suc n) items) here ∙ ap (λ ps. holders_in said n i ++ ps) later

  pub hierarchy_found : (h : Hierarchy) → h ≡ record { sets = length ts; items = length ts + length ss; inside = from_each (λ m i. held_by ts m i.inside) 0 (items_of said) } → KnowsNames said → h ≡ hierarchy_of said
  hierarchy_found h is known =
      let sets : length ts ≡ length (map item_said ts) = omega (arith, length-map {A = ItemTable} {B = DeclaredItem}) in
      let whole = whole_of said known in
      let below : (m k : ℕ) → IsIn {A = ℕ × ℕ} (m, k) (from_each (holders_in said) 0 (items_of said)) → k < length ts = λ m k h. let b = (whole.held m k h).1 in omega (arith, b, sets) in
      let made : Hierarchy → Hierarchy = λ h. h in
      is ∙ (ap (λ (k : ℕ). made (record { sets = k; items = length ts + length ss; inside = from_each (λ m i. held_by ts m i.inside) 0 (items_of said) })) sets
      ∙ (ap (λ (k : ℕ). made (record { sets = length (map item_said ts); items = k; inside = from_each (λ m i. held_by ts m i.inside) 0 (items_of said) })) (sym (items_count ts ss))
      ∙ ap (λ (ps : List (ℕ × ℕ)). made (record { sets = length (map item_said ts); items = length (items_of said); inside = ps })) (items_same 0 (items_of said) below)))

-- ---- an item more, and a name more

pub item_put : (ts : List ItemTable) (ss : List SystemTable) (number : ℕ) (old new : Hierarchy) (names : List (List ℕ)) (i : DeclaredItem) → number < length ts + length ss → names ≡ i.inside → i ≡ item_at (declared_said ts ss []) number
    → old ≡ record { sets = length ts; items = length ts + length ss; inside = from_each (λ m x. held_by ts m x.inside) 0 (take number (items_of (declared_said ts ss []))) }
    → new ≡ record old { inside = old.inside ++ held_by ts number names }
    → new ≡ record { sets = length ts; items = length ts + length ss; inside = from_each (λ m x. held_by ts m x.inside) 0 (take (number + 1) (items_of (declared_said ts ss []))) }
item_put ts ss number old new names i low named is before made =
    let d = declared_said ts ss [] in
    let f : ℕ → DeclaredItem → List (ℕ × ℕ) = λ m x. held_by ts m x.inside in
    let with_pairs : List (ℕ × ℕ) → Hierarchy = λ ps. record { sets = length ts; items = length ts + length ss; inside = ps } in
    let inside : List (ℕ × ℕ) = from_each f 0 (take number (items_of d)) in
    let next : inside ++ held_by ts number names ≡ from_each f 0 (take (number + 1) (items_of d)) =
    from_more f (items_of d) number inside (inside ++ held_by ts number names) (held_by ts number names) (omega (arith, low, items_count ts ss)) refl refl
    (ap (held_by ts number) (named ∙ ap (λ (x : DeclaredItem). x.inside) is)) in
    made ∙ (ap (λ (h : Hierarchy). record h { inside = h.inside ++ held_by ts number names }) before ∙ ap with_pairs next)

pub name_put : (ts : List ItemTable) (item : ℕ) (names : List (Bor (List ℕ))) (n : ℕ) (d : Bor (List ℕ)) (first old new : Hierarchy) → n < length names
    → old ≡ record first { inside = first.inside ++ held_by ts item (map (λ name. name.now) (take n names)) } → new ≡ record old { inside = old.inside ++ held_by_one ts item (get_or names n d).now }
    → new ≡ record first { inside = first.inside ++ held_by ts item (map (λ name. name.now) (take (n + 1) names)) }
name_put ts item names n d first old new low before made =
    let x : Bor (List ℕ) = get_or names n d in
    let so_far : List (List ℕ) = map (λ name. name.now) (take n names) in
    let more : List (List ℕ) = map (λ name. name.now) (x ∷ []) in
    let both : map (λ name. name.now) (take (n + 1) names) ≡ so_far ++ more = ap (map (λ name. name.now)) (take_more names n d low) ∙ map-append (λ name. name.now) (take n names) (x ∷ []) in
    let held : held_by ts item (so_far ++ more) ≡ held_by ts item so_far ++ held_by_one ts item x.now =
    flat_map-append (held_by_one ts item) so_far more ∙ ap (λ ps. held_by ts item so_far ++ ps) (append-nil (held_by_one ts item x.now)) in
    made ∙ (ap (λ (h : Hierarchy). record h { inside = h.inside ++ held_by_one ts item x.now }) before
    ∙ ap (λ (ps : List (ℕ × ℕ)). record first { inside = ps })
    (append_assoc first.inside (held_by ts item so_far) (held_by_one ts item x.now) ∙ ap (λ ps. first.inside ++ ps) (sym held ∙ ap (held_by ts item) (sym both))))

-- ---- all of them

names_of_all : (ts : List ItemTable) → map (λ (t : ItemTable). t.name.now) ts ≡ map (λ (i : DeclaredItem). i.name) (map item_said ts)
names_of_all [] = refl
names_of_all (t ∷ ts) = ap (λ xs. t.name.now ∷ xs) (names_of_all ts)

pub sets_found : (ts : List ItemTable) (ss : List SystemTable) (s : Sets) (h : Hierarchy) (numbers : List ℕ) (lists : List (List ℕ)) → h ≡ hierarchy_of (declared_said ts ss []) → map (λ name. name.now) s.names.items ≡ map (λ (t : ItemTable). t.name.now) ts
    → length numbers ≡ length ts → ((n : ℕ) → n < length ts → get_or numbers n 0 ≡ n) → AreCovered h numbers lists → map (λ numbers. numbers.items) s.members.items ≡ lists → AreSetsOf (declared_said ts ss []) s
sets_found ts ss s h numbers lists is named count each covered same =
    let sets : length (map item_said ts) ≡ length ts = length-map ts item_said in
    let lists_count : length (map (λ (xs : Vec ℕ Global). xs.items) s.members.items) ≡ length s.members.items = length-map s.members.items (λ xs. xs.items) in
    record {
      names = named ∙ names_of_all ts;
      count = sym lists_count ∙ (ap length same ∙ (covered.long ∙ (count ∙ sym sets)));
      members = λ n low.
          let below : n < length ts = omega (arith, low, sets) in
          subst (λ (x : Hierarchy). AreNumbers x n (get_or (map (λ numbers. numbers.items) s.members.items) n [])) is
          (subst (λ (zs : List (List ℕ)). AreNumbers h n (get_or zs n [])) (sym same)
          (subst (λ k. AreNumbers h k (get_or lists n [])) (each n below) (covered.each n (omega (arith, below, count)))));
    }

pub all_put : (ts : List ItemTable) (ss : List SystemTable) (number : ℕ) (h : Hierarchy) → length ts + length ss ≤ number
    → h ≡ record { sets = length ts; items = length ts + length ss; inside = from_each (λ m x. held_by ts m x.inside) 0 (take number (items_of (declared_said ts ss []))) }
    → h ≡ record { sets = length ts; items = length ts + length ss; inside = from_each (λ m x. held_by ts m x.inside) 0 (items_of (declared_said ts ss [])) }
all_put ts ss number h past is =
    is ∙ ap (λ (ps : List (ℕ × ℕ)). let made : Hierarchy = record { sets = length ts; items = length ts + length ss; inside = ps } in made)
    (from_each-all (λ m x. held_by ts m x.inside) (items_of (declared_said ts ss [])) number (omega (arith, past, items_count ts ss)))
