-- What is neither an integer nor a target is no source.
use Rattle.std.proofs.Common.{◌≡◌, ℕ, List, sym, ap, codes, subst}
use Rattle.parsing.specs.Integer.{IsInteger}
use Rattle.parsing.specs.Reads.{SpellsNone, SpellsOnly}
use Rattle.script.specs.declared.operands.Source.{Source}
use Rattle.script.specs.declared.operands.Target.{Target}
use Rattle.script.specs.declared.operands.Source.TheVariants.{Integer, Register, Field, Resource, Event}
use Rattle.script.specs.declared.operands.Target.TheVariants as target
use Rattle.script.specs.Operands.{IsTarget, IsSource}
use Rattle.script.proofs.Spelled.{apart}
use Rattle.script.proofs.operands.Source.read.Goals as goal

no_source : (word : List ℕ) → (word ≡ codes "event" → ⊥) → SpellsNone IsInteger word → SpellsNone IsTarget word → SpellsNone IsSource word
no_source word no_event no_integer no_target (Integer z) spelled = no_integer z spelled
no_source word no_event no_integer no_target (Register n) spelled = no_target (target.Register n) spelled
no_source word no_event no_integer no_target (Field field) spelled = no_target (target.Field field) spelled
no_source word no_event no_integer no_target (Resource resource) spelled = no_target (target.Resource resource) spelled
no_source word no_event no_integer no_target Event spelled = no_event spelled

pub returns-in_err-number : goal.returns-in_err-number
returns-in_err-number c = rw c.from_residual.ensures (no_source c.args.word.now (apart c.args.word.now (codes "event") (sym c.if-eq.ensures)) c.in_default.ensures c.in_err-number.ensures)

-- what a target is as a source
abbrev source_of : Target → Source
source_of (target.Register n) = Register n
source_of (target.Field field) = Field field
source_of (target.Resource resource) = Resource resource

spelled_of : (word : List ℕ) (t : Target) → IsTarget t word → IsSource (source_of t) word
spelled_of word (target.Register n) spelled = spelled
spelled_of word (target.Field field) spelled = spelled
spelled_of word (target.Resource resource) spelled = spelled

only_of : (word : List ℕ) (t : Target) → (word ≡ codes "event" → ⊥) → SpellsNone IsInteger word → ((v : Target) → IsTarget v word → v ≡ t) → (s : Source) → IsSource s word → s ≡ source_of t
only_of word t no_event no_integer only (Integer z) spelled = absurd (no_integer z spelled)
only_of word t no_event no_integer only (Register n) spelled = ap source_of (only (target.Register n) spelled)
only_of word t no_event no_integer only (Field field) spelled = ap source_of (only (target.Field field) spelled)
only_of word t no_event no_integer only (Resource resource) spelled = ap source_of (only (target.Resource resource) spelled)
only_of word t no_event no_integer only Event spelled = absurd (no_event spelled)

-- a word that is neither `event` nor an integer spells the target that is read, and no other source
source_is : (word : List ℕ) (t read : Target) → (word ≡ codes "event" → ⊥) → SpellsNone IsInteger word → SpellsOnly IsTarget word t → t ≡ read → SpellsOnly IsSource word (source_of read)
source_is word t read no_event no_integer only is = subst (λ (r : Target). SpellsOnly IsSource word (source_of r)) is (spelled_of word t only.0, only_of word t no_event no_integer only.1)

pub returns-in-Register : goal.returns-in-Register
returns-in-Register c = source_is c.args.word.now c.in_ok-number.field-0 _ (apart c.args.word.now (codes "event") (sym c.if-eq.ensures)) c.in_default.ensures c.in_ok-number.ensures c.in-Register.is

pub returns-in-Field : goal.returns-in-Field
returns-in-Field c = source_is c.args.word.now c.in_ok-number.field-0 _ (apart c.args.word.now (codes "event") (sym c.if-eq.ensures)) c.in_default.ensures c.in_ok-number.ensures c.in-Field.is

pub returns-in-Resource : goal.returns-in-Resource
returns-in-Resource c = source_is c.args.word.now c.in_ok-number.field-0 _ (apart c.args.word.now (codes "event") (sym c.if-eq.ensures)) c.in_default.ensures c.in_ok-number.ensures c.in-Resource.is
