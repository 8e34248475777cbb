-- What is neither `row` nor a slot is no subject.
use Rattle.std.proofs.Common.{◌≡◌, ℕ, List, codes, sym}
use Rattle.parsing.specs.Reads.{SpellsNone}
use Rattle.script.specs.declared.operands.Subject.TheVariants.{Row, Granted}
use Rattle.script.specs.Operands.{IsSlot, IsSubject}
use Rattle.script.proofs.Spelled.{apart}
use Rattle.script.proofs.operands.Subject.read.Goals as goal

no_subject : (word : List ℕ) → (word ≡ codes "row" → ⊥) → SpellsNone IsSlot word → SpellsNone IsSubject word
no_subject word no_row no_slot Row spelled = no_row spelled
no_subject word no_row no_slot (Granted n) spelled = no_slot n spelled

pub returns-in_err-read_slot : goal.returns-in_err-read_slot
returns-in_err-read_slot c = rw c.from_residual.ensures (no_subject c.args.word.now (apart c.args.word.now (codes "row") (sym c.if-eq.ensures)) c.in_err-read_slot.ensures)
