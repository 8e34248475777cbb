-- Lines, and the texts behind their first words.
use Rattle.std.proofs.Common.{◌≡◌, ◌≢◌, ℕ, List, codes, refl, sym, ap, subst, ◌∙◌}
use Rattle.std.specs.Prelude.{None}
use Rattle.model.specs.access.Query.{Term}
use Rattle.model.specs.access.QueryFaults.{query_fault}
use Rattle.parsing.specs.declared.read_error.ReadError.{ReadError}
use Rattle.parsing.specs.declared.read_error.ReadError.TheVariants as read_error
use Rattle.parsing.specs.Reads.{SpellsNone, SpellsOnly, Refuses}
use Rattle.parsing.specs.Words.{AreWordsOf, ByWords}
use Rattle.parsing.proofs.Grammars.{none_by_words}
use Rattle.tokens.specs.FirstWord.{IsFirstWord}
use Rattle.tokens.specs.LongNumber.{IsLongNumber}
use Rattle.query.specs.Grammar.{IsQuery}
use Rattle.requests.specs.declared.command.Command.{Command}
use Rattle.requests.specs.declared.command.Command.TheVariants.{Hello, Run, Set, Emit, Spawn, Insert, Remove, Despawn, World, Entity, Query, Resources, Events, Values, Save, Digest, Mark, Back, Forget, Quit}
use Rattle.requests.specs.declared.request.RequestFault.{RequestFault}
use Rattle.requests.specs.declared.request.RequestFault.TheVariants as fault
use Rattle.requests.specs.Asked.{Asked}
use Rattle.requests.specs.Commands.{command_word, IsCommand}
use Rattle.requests.specs.Grammar.{AreComponents, AreArguments, AreSpawned, BeginsWithTick, IsRows, Asks, IsRequest}
use Rattle.requests.specs.Faults.{HasTick, IsRequestFault, IsAskFault, fault_of_read}

-- ---- words

-- a command that is neither `spawn` nor `query` asks by its words
pub asks_by_words : (which : Command) → which ≢ Query → which ≢ Spawn → Asks which ≡ ByWords (AreArguments which)
asks_by_words Hello q s = refl
asks_by_words Run q s = refl
asks_by_words Set q s = refl
asks_by_words Emit q s = refl
asks_by_words Spawn q s = absurd (s refl)
asks_by_words Insert q s = refl
asks_by_words Remove q s = refl
asks_by_words Despawn q s = refl
asks_by_words World q s = refl
asks_by_words Entity q s = refl
asks_by_words Query q s = absurd (q refl)
asks_by_words Resources q s = refl
asks_by_words Events q s = refl
asks_by_words Values q s = refl
asks_by_words Save q s = refl
asks_by_words Digest q s = refl
asks_by_words Mark q s = refl
asks_by_words Back q s = refl
asks_by_words Forget q s = refl
asks_by_words Quit q s = refl

-- words that are no components
pub spawn_fault : (words : List (List ℕ)) (text : List ℕ) (error : ReadError) → AreWordsOf words text → Refuses AreComponents words error → IsAskFault Spawn text (fault_of_read error)
spawn_fault words text read_error.Outside split none = (none_by_words AreSpawned text words split (λ v h. none h.0 h.1), λ e. cc)
spawn_fault words text read_error.Memory split none = tt

-- ---- rows

-- a text without a tick
pub no_rows : (text : List ℕ) → (HasTick text → ⊥) → IsAskFault Query text fault.Unknown
no_rows text none = ((λ v h. none (h.0, h.1, h.3)), λ e. none)

module _ (text word rest : List ℕ) (first : SpellsOnly IsFirstWord text (word, rest)) where
  tick_in : (since : ℕ) (behind : List ℕ) → BeginsWithTick since behind text → IsLongNumber since word × (behind ≡ rest)
  tick_in since behind h =
      let same = first.1 (h.0, behind) h.1 in
      (subst (λ w. IsLongNumber since w) (ap (λ (p : List ℕ × List ℕ). p.0) same) h.2, ap (λ (p : List ℕ × List ℕ). p.1) same)

  pub no_tick : SpellsNone IsLongNumber word → HasTick text → ⊥
  no_tick none h = none h.0 (tick_in h.0 h.1 h.2).0

  module _ (since : ℕ) (number : SpellsOnly IsLongNumber word since) where
    tick : BeginsWithTick since rest text
    tick = (word, first.0, number.0)

    -- no query is behind the tick
    pub no_query : SpellsNone IsQuery rest → IsAskFault Query text fault.Query
    no_query none = (
      (λ v h. none h.2 (subst (λ q. IsQuery h.2 q) (tick_in h.0 h.1 h.3).1 h.4)),
      refl,
      (since, rest, tick),
    )

    module _ (terms : List Term) (only : SpellsOnly IsQuery rest terms) where
      -- one with a fault is
      pub bad_query : (query_fault terms ≡ None → ⊥) → IsAskFault Query text fault.Query
      bad_query bad = (
        (λ v h. bad (subst (λ q. query_fault q ≡ None) (only.1 h.2 (subst (λ q. IsQuery h.2 q) (tick_in h.0 h.1 h.3).1 h.4)) h.5)),
        refl,
        (since, rest, tick),
      )

      -- one without is
      pub only_rows : query_fault terms ≡ None → SpellsOnly IsRows text (Asked.Query since terms)
      only_rows good = (
        (since, rest, terms, tick, only.0, good, refl),
        λ v h.
            let t = tick_in h.0 h.1 h.3 in
            let query = only.1 h.2 (subst (λ q. IsQuery h.2 q) t.1 h.4) in
            h.6 ∙ (λ i. Asked.Query (number.1 h.0 t.0 i) (query i)),
      )

-- ---- lines

-- a line without a word
pub no_line : (line : List ℕ) → SpellsNone IsFirstWord line → IsRequestFault line fault.Unknown
no_line line none = ((λ v h. none (command_word h.0, h.1) h.2), λ h. none (codes "query", h.0) h.1)

module _ (line word rest : List ℕ) (first : SpellsOnly IsFirstWord line (word, rest)) where
  split_at : (other behind : List ℕ) → IsFirstWord (other, behind) line → (other ≡ word) × (behind ≡ rest)
  split_at other behind h =
      let same = first.1 (other, behind) h in
      (ap (λ (p : List ℕ × List ℕ). p.0) same, ap (λ (p : List ℕ × List ℕ). p.1) same)

  -- a word that is no command
  pub no_command : SpellsNone IsCommand word → IsRequestFault line fault.Unknown
  no_command none = (
    (λ v h. none h.0 (sym (split_at (command_word h.0) h.1 h.2).0)),
    λ h. none Query (sym (split_at (codes "query") h.0 h.1).0),
  )

  module _ (which : Command) (named : SpellsOnly IsCommand word which) where
    asks_in : (v : Asked) → IsRequest v line → Asks which v rest
    asks_in v h =
        let s = split_at (command_word h.0) h.1 h.2 in
        subst (λ k. Asks k v rest) (named.1 h.0 (sym s.0)) (subst (λ text. Asks h.0 v text) s.1 h.3)

    begins : IsFirstWord (command_word which, rest) line
    begins = subst (λ w. IsFirstWord (w, rest) line) named.0 first.0

    pub only_request : (v : Asked) → SpellsOnly (Asks which) rest v → SpellsOnly IsRequest line v
    only_request v only = ((which, rest, begins, only.0), λ other h. only.1 other (asks_in other h))

    pub line_fault : (told : RequestFault) → IsAskFault which rest told → IsRequestFault line told
    line_fault fault.Unknown h = (
      (λ v k. h.0 v (asks_in v k)),
      λ k.
          let s = split_at (codes "query") k.0 k.1 in
          h.1 (sym (named.1 Query (sym s.0))) (subst HasTick s.1 k.2),
    )
    line_fault fault.Query h = (
      (λ v k. h.0 v (asks_in v k)),
      (rest, subst (λ w. IsFirstWord (w, rest) line) (ap command_word h.1) begins, h.2),
    )
    line_fault fault.Memory h = tt
