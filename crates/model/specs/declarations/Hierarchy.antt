-- Sets of systems: which items are in which sets, the members of a set, and what is refused of them.
use Rattle.std.specs.Prelude.{ℕ, zero, suc, ◌<◌, ◌≤◌, ◌≡◌, ◌==◌, ◌&&◌, ◌||◌, ◌++◌, ◌∷◌, ◌↔◌, nat_le, Bool, true, false, if◌then◌else◌, List, [], length, take}
use Rattle.std.specs.List.{list_any}
use Rattle.model.specs.Lists.{has, IsIn, head_or}
use Rattle.model.specs.declarations.Walks.{IsOnceEach, IsWalk}

-- items by number, sets before systems: how many sets and how many items there are, and the pairs of an item and a set that
-- it is declared to be in
pub record Hierarchy : Type 0 where
  pub sets : ℕ
  pub items : ℕ
  pub inside : List (ℕ × ℕ)

-- an item is declared to be in a set
abbrev pub IsHeld : Hierarchy → ℕ → ℕ → Type 0
IsHeld h item holder = IsIn (item, holder) h.inside

-- an item reaches a set: it and each set between are declared to be in the next
abbrev pub Reaches : Hierarchy → ℕ → ℕ → Type 0
Reaches h item holder = (between : List ℕ) × IsWalk (IsHeld h) (item ∷ (between ++ holder ∷ []))

-- a member of a set is a system that reaches it
pub record IsMember (h : Hierarchy) (holder n : ℕ) : Type 0 where
  pub system : h.sets ≤ n
  pub known : n < h.items
  pub reaches : Reaches h n holder

-- each number is below those that follow
abbrev pub IsRising : List ℕ → Type 0
IsRising [] = Unit {0}
IsRising (n ∷ ns) = ((m : ℕ) → has m ns ≡ true → n < m) × IsRising ns

-- the members of a set, in declared order
pub record AreMembers (h : Hierarchy) (holder : ℕ) (members : List ℕ) : Type 0 where
  pub each : (n : ℕ) → (has n members ≡ true) ↔ IsMember h holder n
  pub rising : IsRising members

-- ---- refusals

-- no set is declared to be in itself
abbrev pub HasNoSelf : Hierarchy → Type 0
HasNoSelf h = (n : ℕ) → IsHeld h n n → ⊥

-- the first set that is
pub record IsFirstSelf (h : Hierarchy) (n : ℕ) : Type 0 where
  pub itself : IsHeld h n n
  pub first : (m : ℕ) → m < n → IsHeld h m m → ⊥

-- a cycle of sets: at least two, none twice, each declared to be in the next, and the last in the first
pub record IsSetCycle (h : Hierarchy) (items : List ℕ) : Type 0 where
  pub two : 2 ≤ length items
  pub once : IsOnceEach items
  pub held : IsWalk (IsHeld h) (items ++ take 1 items)

-- there is none
abbrev pub HasNoSetCycle : Hierarchy → Type 0
HasNoSetCycle h = (items : List ℕ) → IsSetCycle h items → ⊥

-- a cycle from its earliest declared set
pub record IsReportedSetCycle (h : Hierarchy) (items : List ℕ) : Type 0 where
  pub cycle : IsSetCycle h items
  pub earliest : (n : ℕ) → has n items ≡ true → head_or 0 items ≤ n

-- ---- members, computed

-- whether an item reaches a set with fewer than so many sets between
abbrev pub reaches_within : ℕ → Hierarchy → ℕ → ℕ → Bool
reaches_within zero h item holder = false
reaches_within (suc count) h item holder = list_any (λ pair. (pair.0 == item) && ((pair.1 == holder) || reaches_within count h pair.1 holder)) h.inside

-- the members of a set among the first so many items: no path needs more sets between than there are
abbrev pub members_within : ℕ → Hierarchy → ℕ → List ℕ
members_within zero h holder = []
members_within (suc n) h holder = members_within n h holder ++ (if nat_le h.sets n && reaches_within h.sets h n holder then n ∷ [] else [])

abbrev pub members_of : Hierarchy → ℕ → List ℕ
members_of h holder = members_within h.items h holder
