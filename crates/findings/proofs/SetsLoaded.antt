-- The sets of a file whose schedule is built.
use Rattle.std.proofs.Common.{◌≡◌, ◌≤◌, List, [], ◌∷◌, ◌++◌, flat_map, length, subst, arith}
use Rattle.std.proofs.lemmas.List.{length-map}
use Rattle.model.specs.declarations.Declarations.{Declared, items_of, names_along, names_in}
use Rattle.model.specs.declarations.Refusals.{IsBuildable, IsKnown, KnowsNames}
use Rattle.model.specs.declarations.Walks.{EachIs}
use Rattle.program_file.specs.declared.program_file.ChainTable.{ChainTable}
use Rattle.program_file.specs.declared.program_file.ItemTable.{ItemTable}
use Rattle.program_file.specs.declared.program_file.SystemTable.{SystemTable}
use Rattle.program.specs.Said.{declared_said, item_said, system_said}
use Rattle.findings.specs.Sets.{AreSetsOf}
use Rattle.findings.specs.declared.sets.Sets.{Sets}

each_front : {A : Type 0} (Good : A → Type 0) (xs ys : List A) → EachIs Good (xs ++ ys) → EachIs Good (xs ++ [])
each_front Good [] ys each = tt
each_front Good (x ∷ xs) ys each = (each.0, each_front Good xs ys each.1)

module _ (ts : List ItemTable) (ss : List SystemTable) (chains : List ChainTable) where
  abbrev said : Declared
  said = declared_said ts ss chains

  -- the names that chains look up are of no use to sets
  known_by_items : KnowsNames said → KnowsNames (declared_said ts ss [])
  known_by_items known =
      each_front (IsKnown said) (flat_map (names_in (length said.sets) (length (items_of said))) (items_of said)) (flat_map (names_along (length (items_of said))) said.chains) known

  -- where the schedule is built, the sets that were found are the declared ones
  pub sets_loaded : (xs : List ItemTable) (ys : List SystemTable) (s : Sets) → xs ≡ ts → ys ≡ ss → IsBuildable said
      → (KnowsNames (declared_said xs ys []) → length xs ≤ 64 → length ys ≤ 256 → AreSetsOf (declared_said xs ys []) s) → AreSetsOf said s
  sets_loaded xs ys s same_sets same_systems built found =
      let here : KnowsNames (declared_said ts ss []) → length ts ≤ 64 → length ss ≤ 256 → AreSetsOf (declared_said ts ss []) s =
      subst (λ (zs : List SystemTable). KnowsNames (declared_said ts zs []) → length ts ≤ 64 → length zs ≤ 256 → AreSetsOf (declared_said ts zs []) s) same_systems
      (subst (λ (zs : List ItemTable). KnowsNames (declared_said zs ys []) → length zs ≤ 64 → length ys ≤ 256 → AreSetsOf (declared_said zs ys []) s) same_sets found) in
      let sets = length-map ts item_said in
      let systems = length-map ss system_said in
      let is = here (known_by_items built.ordered.apart.nested.named.known) (omega (arith, built.within.sets, sets)) (omega (arith, built.within.systems, systems)) in
      record { names = is.names; count = is.count; members = is.members }
