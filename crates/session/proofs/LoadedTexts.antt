-- What a text that was saved is read as.
use Rattle.std.proofs.Common.{◌≡◌, ℕ, Bool, List, Err, sym, ap, subst, ◌∙◌}
use Rattle.parsing.specs.Reads.{SpellsNone, SpellsOnly}
use Rattle.state_text.specs.Reading.{IsNoStateText, IsOfNoState}
use Rattle.state_text.specs.declared.reading.fault.StateFault.{StateFault}
use Rattle.state_text.specs.declared.reading.fault.StateFault.TheVariants as state
use Rattle.session.specs.Saved.{IsHead, IsOfNone, IsReadAs, fault_of_state}

-- no line names a file
pub unnamed : (text bytes : List ℕ) → text ≡ bytes → SpellsNone IsHead text → IsOfNone bytes
unnamed text bytes same none = λ is digits lines head w shape fits e. none (digits, lines) (subst (IsHead (digits, lines)) (sym same) head)

module _ (file text bytes : List ℕ) (anyway : Bool) (digits rest : List ℕ) (same : text ≡ bytes) (only : SpellsOnly IsHead text (digits, rest)) where
  -- what stands behind the line is the text of no state
  behind : IsOfNoState rest → IsOfNone bytes
  behind none = λ is ds lines head w shape fits e.
      none w shape fits (ap (λ (p : List ℕ × List ℕ). p.1) (sym (only.1 (ds, lines) (subst (IsHead (ds, lines)) (sym same) head))) ∙ e)

  pub unread_as : (fault : StateFault) → IsNoStateText rest fault → IsReadAs file anyway bytes (Err (fault_of_state fault))
  unread_as (state.Outside line) none = behind none
  unread_as (state.NoState line) none = behind none
  unread_as state.Memory none = tt
