-- What a body answers: parallel to what it was shown, so that two outcomes that mean the same are equal.
use Rattle.std.specs.Prelude.{ℕ, ℤ, false, cond, ◌==◌, ◌≡◌, List, [], ◌∷◌, length, Option, Some, None, is_some, map, Result}
use Rattle.std.specs.List.{AllByRecursion}
use Rattle.model.specs.Lists.{first_some, is_number, IsIn}
use Rattle.model.specs.state.State.{Entity, register_count}
use Rattle.model.specs.access.Query.{Term, written}
use Rattle.model.specs.access.Access.{Params}
use Rattle.model.specs.shown.Input.{ShownRow, Shown}

-- a command, on a granted id or on an entity
pub data Command : Type 0 where
  Spawn : Entity → Command
  Insert : Entity → (kind : ℕ) → (words : List ℤ) → Command
  Remove : Entity → (kind : ℕ) → Command
  Despawn : Entity → Command

-- what a body answers: for each query, row and term the words written or none; for each resource that it may write the
-- value written or none; for each event kind that it may write the events sent, in order; commands in order of issue; the
-- registers
pub record Outcome : Type 0 where
  pub cells : List (List (List (Option (List ℤ))))
  pub res_mut : List (Option ℤ)
  pub events : List (List ℤ)
  pub commands : List Command
  pub registers : List ℤ

-- what a body means: from what it is shown an outcome, or the number of its refusal
abbrev pub BodyMeaning : Type 0
BodyMeaning = Shown → Result Outcome ℕ

-- ---- what was written where

-- the words that one row's values write at a kind: those of its `mut` term
abbrev pub words_in_row : List Term → List (Option (List ℤ)) → ℕ → Option (List ℤ)
words_in_row [] values kind = None
words_in_row (t ∷ ts) [] kind = None
words_in_row (t ∷ ts) (v ∷ vs) kind = first_some (cond (is_number kind (written t)) v None) (words_in_row ts vs kind)

-- the words written at a kind of an index through one query
abbrev pub words_in_query : List Term → List ShownRow → List (List (Option (List ℤ))) → ℕ → ℕ → Option (List ℤ)
words_in_query query [] cells index kind = None
words_in_query query (row ∷ rows) [] index kind = None
words_in_query query (row ∷ rows) (values ∷ cells) index kind =
    first_some (cond (row.entity.index == index) (words_in_row query values kind) None) (words_in_query query rows cells index kind)

-- the words written at a kind of an index through some query
abbrev pub words_written : List (List Term) → List (List ShownRow) → List (List (List (Option (List ℤ)))) → ℕ → ℕ → Option (List ℤ)
words_written [] rows cells index kind = None
words_written (query ∷ queries) [] cells index kind = None
words_written (query ∷ queries) (rows ∷ more) [] index kind = None
words_written (query ∷ queries) (rows ∷ more) (cells ∷ others) index kind =
    first_some (words_in_query query rows cells index kind) (words_written queries more others index kind)

-- the value written at a resource
abbrev pub value_written : List ℕ → List (Option ℤ) → ℕ → Option ℤ
value_written [] values number = None
value_written (n ∷ ns) [] number = None
value_written (n ∷ ns) (v ∷ vs) number = first_some (cond (n == number) v None) (value_written ns vs number)

-- the events sent of a kind, in order
abbrev pub events_sent : List ℕ → List (List ℤ) → ℕ → List ℤ
events_sent [] events kind = []
events_sent (k ∷ ks) [] kind = []
events_sent (k ∷ ks) (sent ∷ more) kind = cond (k == kind) sent (events_sent ks more kind)

-- ---- what an outcome may contain

-- one value for each term, written at `mut` terms alone, with the width of its kind
abbrev pub AreValues : (ℕ → ℕ) → List Term → List (Option (List ℤ)) → Type 0
AreValues widths [] [] = Unit {0}
AreValues widths [] (v ∷ vs) = ⊥
AreValues widths (t ∷ ts) [] = ⊥
AreValues widths (t ∷ ts) (None ∷ vs) = AreValues widths ts vs
AreValues widths (t ∷ ts) (Some words ∷ vs) = ((kind : ℕ) × (written t ≡ Some kind) × (length words ≡ widths kind)) × AreValues widths ts vs

-- such values for each row, and rows for each query
abbrev pub AreRowValues : (ℕ → ℕ) → List Term → List ShownRow → List (List (Option (List ℤ))) → Type 0
AreRowValues widths query [] [] = Unit {0}
AreRowValues widths query [] (values ∷ cells) = ⊥
AreRowValues widths query (row ∷ rows) [] = ⊥
AreRowValues widths query (row ∷ rows) (values ∷ cells) = AreValues widths query values × AreRowValues widths query rows cells

abbrev pub AreCells : (ℕ → ℕ) → List (List Term) → List (List ShownRow) → List (List (List (Option (List ℤ)))) → Type 0
AreCells widths [] [] [] = Unit {0}
AreCells widths (query ∷ queries) (rows ∷ more) (cells ∷ others) = AreRowValues widths query rows cells × AreCells widths queries more others
AreCells widths _ _ _ = ⊥

-- a command that inserts has words of its kind's width
abbrev pub HasWidth : (ℕ → ℕ) → Command → Type 0
HasWidth widths (Insert entity kind words) = length words ≡ widths kind
HasWidth widths _ = Unit {0}

-- the ids that commands spawn, in order
abbrev pub spawned_by : List Command → List Entity
spawned_by [] = []
spawned_by (Spawn entity ∷ commands) = entity ∷ spawned_by commands
spawned_by (Insert entity kind words ∷ commands) = spawned_by commands
spawned_by (Remove entity kind ∷ commands) = spawned_by commands
spawned_by (Despawn entity ∷ commands) = spawned_by commands

-- granted ids, none twice
abbrev pub AreSpawns : List Entity → List Entity → Type 0
AreSpawns granted [] = Unit {0}
AreSpawns granted (entity ∷ entities) = IsIn entity granted × (IsIn entity entities → ⊥) × AreSpawns granted entities

-- an outcome keeps within its parameters: it has a place for each thing that it may write, commands only with Commands, spawns
-- of granted ids of its own, none twice, words of their kinds' widths, and eight registers
pub record IsWithin (widths : ℕ → ℕ) (params : Params) (shown : Shown) (o : Outcome) : Type 0 where
  pub cells : AreCells widths params.queries shown.rows o.cells
  pub res_mut : length o.res_mut ≡ length params.res_mut
  pub events : length o.events ≡ length params.writes
  pub commands : is_some params.spawns ≡ false → o.commands ≡ []
  pub spawns : AreSpawns shown.granted (spawned_by o.commands)
  pub inserts : AllByRecursion (HasWidth widths) o.commands
  pub registers : length o.registers ≡ register_count

-- the outcome that writes nothing
abbrev pub untouched_rows : List Term → List ShownRow → List (List (Option (List ℤ)))
untouched_rows query rows = map (λ row. map (λ term. None) query) rows

abbrev pub untouched_cells : List (List Term) → List (List ShownRow) → List (List (List (Option (List ℤ))))
untouched_cells [] rows = []
untouched_cells (query ∷ queries) [] = []
untouched_cells (query ∷ queries) (rows ∷ more) = untouched_rows query rows ∷ untouched_cells queries more

abbrev pub untouched : Params → Shown → Outcome
untouched params shown = record {
  cells = untouched_cells params.queries shown.rows;
  res_mut = map (λ number. None) params.res_mut;
  events = map (λ kind. []) params.writes;
  commands = [];
  registers = shown.registers;
}
