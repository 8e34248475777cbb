-- What is at the keys of a table.
use Rattle.std.specs.Prelude.{◌≡◌, ◌<◌, ◌^◌, ℕ, ℤ, pos, Bool, false, List, map, All, String, Option, Some, None, IsSome}
use Rattle.std.specs.Borrow.{Bor}
use Rattle.std.specs.BTreeMap.{BTreeMap}
use Rattle.std.specs.List.{Contains}
use Rattle.std.specs.declared.alloc.Global.{Global}
use Rattle.toml.specs.Data.{Data, Items, Members, no_items, no_members, member, get_member, string, integer, array, table, as_array, as_bool, as_integer, as_table}
use Rattle.toml.specs.View.{items_of, table_view}
use Rattle.toml.specs.declared.value.Value.{Value}
use Rattle.kinds.specs.declared.res.Res.{Res}
use Rattle.kinds.specs.declared.res.Event.{Event}
use Rattle.kinds.specs.Res.{res_name, event_name}
use Rattle.tokens.specs.Name.{IsName}

-- each key is one of these
abbrev pub HasOnly : List (List ℕ) → Members → Type 0
HasOnly keys no_members = Unit {0}
HasOnly keys (member key value rest) = Contains keys key × HasOnly keys rest

-- the items of an array, none where there is no value
abbrev pub items_in : Option Data → Option Items
items_in None = Some no_items
items_in (Some value) = as_array value

-- a truth value, false where there is no value
abbrev pub flag_in : Option Data → Option Bool
flag_in None = Some false
flag_in (Some value) = as_bool value

-- the members of a table, none where there is no value
abbrev pub members_in : Option Data → Option Members
members_in None = Some no_members
members_in (Some value) = as_table value

-- an integer, 0 where there is no value
abbrev pub integer_in : Option Data → Option ℤ
integer_in None = Some (pos 0)
integer_in (Some value) = as_integer value

-- an array of these values is at the key, or no value and there is none of these
abbrev pub HasItems : List ℕ → List Data → Members → Type 0
HasItems key values owner = items_in (get_member key owner) ≡ Some (items_of values)

-- an array of these texts
abbrev pub HasTexts : List ℕ → List (List ℕ) → Members → Type 0
HasTexts key texts owner = HasItems key (map string texts) owner

-- the same of texts that are lent
abbrev pub HasNames : List ℕ → List (Bor (List ℕ)) → Members → Type 0
HasNames key names owner = HasTexts key (map (λ name. name.now) names) owner

-- the same, and each is a name
abbrev pub HasItemNames : List ℕ → List (Bor (List ℕ)) → Members → Type 0
HasItemNames key names owner = HasNames key names owner × All (λ name. IsName name.now) names

-- there is a value at the key
abbrev pub HasKey : List ℕ → Members → Type 0
HasKey key owner = IsSome (get_member key owner)

-- the value is a table with these members
abbrev pub IsTable : Members → Data → Type 0
IsTable members value = value ≡ table members

-- a table with these members is at the key, or no value and there is no member
abbrev pub HasTable : List ℕ → Members → Members → Type 0
HasTable key members owner = members_in (get_member key owner) ≡ Some members

-- the members of a table that is lent, if there is one
abbrev pub lent_members : Option (Bor (BTreeMap (String Global) Value)) → Members
lent_members None = no_members
lent_members (Some inner) = table_view inner.now

-- an array of tables with these members
abbrev pub HasTables : List ℕ → List Members → Members → Type 0
HasTables key tables owner = HasItems key (map table tables) owner

-- an array of the names of these resources, and of these event kinds
abbrev pub HasResources : List ℕ → List Res → Members → Type 0
HasResources key resources owner = HasTexts key (map res_name resources) owner

abbrev pub HasEvents : List ℕ → List Event → Members → Type 0
HasEvents key events owner = HasTexts key (map event_name events) owner

-- this text is at the key
abbrev pub HasText : List ℕ → List ℕ → Members → Type 0
HasText key text owner = get_member key owner ≡ Some (string text)

-- this integer is at the key, or no value and it is 0
abbrev pub HasInteger : List ℕ → ℤ → Members → Type 0
HasInteger key n owner = integer_in (get_member key owner) ≡ Some n

-- this number of 32 bits is at the key, or no value and none
abbrev pub HasNumber : List ℕ → Option ℕ → Members → Type 0
HasNumber key None owner = get_member key owner ≡ None
HasNumber key (Some n) owner = (n < 2 ^ 32) × (get_member key owner ≡ Some (integer (pos n)))

-- the value is an array of these integers
abbrev pub AreIntegers : List ℤ → Data → Type 0
AreIntegers integers value = value ≡ array (items_of (map integer integers))

-- this truth value is at the key, or none and it is false
abbrev pub HasFlag : List ℕ → Bool → Members → Type 0
HasFlag key flag owner = flag_in (get_member key owner) ≡ Some flag
