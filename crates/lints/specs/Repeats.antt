-- Lists of names in which one stands twice.
use Rattle.std.specs.Prelude.{ℕ, ◌&&◌, ◌||◌, nat_le, Bool, false, List, [], ◌∷◌, length}
use Rattle.std.specs.Borrow.{Bor}
use Rattle.std.specs.List.{HoldsAt, list_any}
use Rattle.std.specs.Str.{bytes_eq}
use Rattle.program_file.specs.declared.program_file.ItemTable.{ItemTable}
use Rattle.lints.specs.Collected.{Either, Tested}
use Rattle.lints.specs.declared.lint.Holder.{Holder}
use Rattle.lints.specs.declared.lint.Holder.TheVariants.{Set, System}
use Rattle.lints.specs.declared.lint.Listed.{Listed}
use Rattle.lints.specs.declared.lint.Listed.TheVariants.{In, Before, After, BeforeIgnoreDeferred, AfterIgnoreDeferred, AmbiguousWith}
use Rattle.lints.specs.declared.lint.Lint.{Lint}
use Rattle.lints.specs.declared.lint.Lint.TheVariants as lint

-- one of some names stands twice
abbrev pub has_twice : List (Bor (List ℕ)) → Bool
has_twice [] = false
has_twice (name ∷ names) = list_any (λ other. bytes_eq other.now name.now) names || has_twice names

-- so it is, and they are no more than 64
abbrev pub is_twice : List (Bor (List ℕ)) → Bool
is_twice names = nat_le (length names) 64 && has_twice names

-- of a list of a set or a system
abbrev pub IsOfList : List (Bor (List ℕ)) → Holder → Listed → Lint → Type 0
IsOfList names holder list = Tested (is_twice names) (lint.SaidTwice holder list)

-- of its lists
unfoldable pub IsOfItem : ItemTable → Holder → Lint → Type 0
IsOfItem item holder = Either (IsOfList item.inside.items holder In)
    (Either (IsOfList item.before.items holder Before)
    (Either (IsOfList item.after.items holder After)
    (Either (IsOfList item.before_ignore_deferred.items holder BeforeIgnoreDeferred)
    (Either (IsOfList item.after_ignore_deferred.items holder AfterIgnoreDeferred) (IsOfList item.ambiguous_with.items holder AmbiguousWith)))))

-- of the lists of a set
unfoldable pub IsOfSetItem : List ItemTable → ℕ → Lint → Type 0
IsOfSetItem sets n found = HoldsAt (λ item. IsOfItem item (Set n) found) sets n
