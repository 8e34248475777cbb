-- That no two kinds, resources or event kinds have one number or one name: each is found by either.
use Rattle.std.proofs.Common.{ℕ, zero, suc, ◌≡◌, ◌+◌, ◌<◌, Bool, true, false, List, [], ◌∷◌, map, length, get_or, cond, eqb, refl, sym, ap, ◌∙◌, arith}
use Rattle.kinds.specs.declared.kind.Kind.{Kind}
use Rattle.kinds.specs.declared.kind.Kind.TheVariants.{Position, Velocity, Health, Damage, Team, Timer, Score, Energy, Charge, Target, Frozen, Hidden, Home, Mass, Armor, Range, Level, Rank, Sleeping, Marked}
use Rattle.kinds.specs.declared.res.Res.{Res}
use Rattle.kinds.specs.declared.res.Res.TheVariants as res
use Rattle.kinds.specs.declared.res.Event.{Event}
use Rattle.kinds.specs.declared.res.Event.TheVariants as event
use Rattle.kinds.specs.Res.{res_number, res_name, every_res, event_number, event_name}
use Rattle.kinds.specs.Kind.{kind_number, kind_name, numbers_from, NumbersAreApart, NamesAreApart}

-- the kinds by number
abbrev every_kind : List Kind
every_kind = Position ∷ Velocity ∷ Health ∷ Damage ∷ Team ∷ Timer ∷ Score ∷ Energy ∷ Charge ∷ Target ∷ Frozen ∷ Hidden ∷ Home ∷ Mass ∷ Armor ∷ Range ∷ Level ∷ Rank ∷ Sleeping ∷ Marked ∷ []

-- a kind stands under its number
kind_at : (kind : Kind) → get_or every_kind (kind_number kind) Position ≡ kind
kind_at Position = refl
kind_at Velocity = refl
kind_at Health = refl
kind_at Damage = refl
kind_at Team = refl
kind_at Timer = refl
kind_at Score = refl
kind_at Energy = refl
kind_at Charge = refl
kind_at Target = refl
kind_at Frozen = refl
kind_at Hidden = refl
kind_at Home = refl
kind_at Mass = refl
kind_at Armor = refl
kind_at Range = refl
kind_at Level = refl
kind_at Rank = refl
kind_at Sleeping = refl
kind_at Marked = refl

pub numbers_apart : NumbersAreApart
numbers_apart kind other same = sym (kind_at kind) ∙ ap (λ n. get_or every_kind n Position) same ∙ kind_at other

-- whether two words are one
abbrev same_word : List ℕ → List ℕ → Bool
same_word [] [] = true
same_word [] (d ∷ ds) = false
same_word (c ∷ cs) [] = false
same_word (c ∷ cs) (d ∷ ds) = cond (eqb c d) (same_word cs ds) false

-- the first of these elements that a word names, else the last resort
abbrev first_named : {A : Type 0} → (A → List ℕ) → A → List A → List ℕ → A
first_named name last [] word = last
first_named name last (x ∷ xs) word = cond (same_word word (name x)) x (first_named name last xs word)

-- a kind is found by its name
kind_of_name : (kind : Kind) → first_named kind_name Position every_kind (kind_name kind) ≡ kind
kind_of_name Position = refl
kind_of_name Velocity = refl
kind_of_name Health = refl
kind_of_name Damage = refl
kind_of_name Team = refl
kind_of_name Timer = refl
kind_of_name Score = refl
kind_of_name Energy = refl
kind_of_name Charge = refl
kind_of_name Target = refl
kind_of_name Frozen = refl
kind_of_name Hidden = refl
kind_of_name Home = refl
kind_of_name Mass = refl
kind_of_name Armor = refl
kind_of_name Range = refl
kind_of_name Level = refl
kind_of_name Rank = refl
kind_of_name Sleeping = refl
kind_of_name Marked = refl

pub names_apart : NamesAreApart
names_apart kind other same = sym (kind_of_name kind) ∙ ap (first_named kind_name Position every_kind) same ∙ kind_of_name other

-- ---- resources

res_at : (r : Res) → get_or every_res (res_number r) res.Round ≡ r
res_at res.Round = refl
res_at res.Gravity = refl
res_at res.Total = refl
res_at res.Seed = refl
res_at res.Limit = refl
res_at res.Alarm = refl
res_at res.Mode = refl
res_at res.Step = refl

pub res_numbers_apart : (r other : Res) → res_number r ≡ res_number other → r ≡ other
res_numbers_apart r other same = sym (res_at r) ∙ ap (λ n. get_or every_res n res.Round) same ∙ res_at other

res_of_name : (r : Res) → first_named res_name res.Round every_res (res_name r) ≡ r
res_of_name res.Round = refl
res_of_name res.Gravity = refl
res_of_name res.Total = refl
res_of_name res.Seed = refl
res_of_name res.Limit = refl
res_of_name res.Alarm = refl
res_of_name res.Mode = refl
res_of_name res.Step = refl

pub res_names_apart : (r other : Res) → res_name r ≡ res_name other → r ≡ other
res_names_apart r other same = sym (res_of_name r) ∙ ap (first_named res_name res.Round every_res) same ∙ res_of_name other

-- ---- event kinds

-- the event kinds by number
abbrev pub every_event : List Event
every_event = event.Hit ∷ event.Heal ∷ event.Spark ∷ event.Done ∷ []

event_at : (e : Event) → get_or every_event (event_number e) event.Hit ≡ e
event_at event.Hit = refl
event_at event.Heal = refl
event_at event.Spark = refl
event_at event.Done = refl

pub event_numbers_apart : (e other : Event) → event_number e ≡ event_number other → e ≡ other
event_numbers_apart e other same = sym (event_at e) ∙ ap (λ n. get_or every_event n event.Hit) same ∙ event_at other

event_of_name : (e : Event) → first_named event_name event.Hit every_event (event_name e) ≡ e
event_of_name event.Hit = refl
event_of_name event.Heal = refl
event_of_name event.Spark = refl
event_of_name event.Done = refl

pub event_names_apart : (e other : Event) → event_name e ≡ event_name other → e ≡ other
event_names_apart e other same = sym (event_of_name e) ∙ ap (first_named event_name event.Hit every_event) same ∙ event_of_name other

-- ---- a list whose numbers rise

-- the number of the element at a place of a list whose numbers rise
pub listed_number : {A : Type 0} (f : A → ℕ) (xs : List A) (first count i : ℕ) (d : A) → map f xs ≡ numbers_from first count → i < length xs → f (get_or xs i d) ≡ first + i
listed_number f [] first count i d e low = absurd (omega arith)
listed_number f (x ∷ xs) first zero i d e low = cc
listed_number f (x ∷ xs) first (suc count) zero d e low = let same : f x ≡ first = cc in omega arith
listed_number f (x ∷ xs) first (suc count) (suc i) d e low =
    let rest : map f xs ≡ numbers_from (1 + first) count = cc in
    let same : f (get_or xs i d) ≡ 1 + first + i = listed_number f xs (1 + first) count i d rest (omega arith) in
    omega arith

-- such a list has as many elements
pub listed_many : {A : Type 0} (f : A → ℕ) (xs : List A) (first count : ℕ) → map f xs ≡ numbers_from first count → length xs ≡ count
listed_many f [] first zero e = omega arith
listed_many f [] first (suc count) e = cc
listed_many f (x ∷ xs) first zero e = cc
listed_many f (x ∷ xs) first (suc count) e =
    let rest : map f xs ≡ numbers_from (1 + first) count = cc in
    let same : length xs ≡ count = listed_many f xs (1 + first) count rest in
    omega arith
