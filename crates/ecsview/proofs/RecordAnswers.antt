-- What is answered to a command on records.
use Rattle.std.proofs.Common.{◌≡◌, ℕ, List, Option, IfSome, ap, sym, subst, string_bytes}
use Rattle.std.specs.Prelude.{String}
use Rattle.model.specs.shown.Outcome.{BodyMeaning}
use Rattle.program.specs.Setup.{meanings_of_scripts}
use Rattle.script.specs.declared.script_body.ScriptBody.{ScriptBody}
use Rattle.session.specs.Live.{Live}
use Rattle.session_records.specs.Diverging.{IsDivergence, meant}
use Rattle.session_records.specs.Stories.{IsRecordStory}
use Rattle.session_records.specs.declared.diverging.Retaker.{Retaker}
use Rattle.ecsview.specs.Recorded.{HasOpened, IsDivergenceOf, IsReadOf, IsStoryOf}

-- bytes that a slice has are those that were read
read_of : (known : Option (List ℕ)) (shown items : List ℕ) → shown ≡ items → IfSome known (λ all. items ≡ all) → IsReadOf known shown
read_of known shown items same whole = subst (IsReadOf known) (sym same) whole

pub story_of : (file trace : Option (List ℕ)) (asked : Option ℕ) (bytes read journal taken text : List ℕ) (one : Retaker) (scripts : List ScriptBody) (last : Live ScriptBody) → bytes ≡ read → IfSome file (λ all. read ≡ all) → journal ≡ taken
    → IfSome trace (λ all. taken ≡ all) → HasOpened bytes one → scripts ≡ one.bodies.items → IsRecordStory (meanings_of_scripts one.session.engine.schedule scripts) asked one.session last journal text → IsStoryOf file trace asked text
story_of file trace asked bytes read journal taken text one scripts last same whole same_journal whole_journal opened scripts_are story = record {
  bytes = bytes;
  of_file = read_of file bytes read same whole;
  journal = journal;
  of_record = read_of trace journal taken same_journal whole_journal;
  one = one;
  opened = opened;
  last = last;
  story = subst (λ (xs : List ScriptBody). IsRecordStory (meanings_of_scripts one.session.engine.schedule xs) asked one.session last journal text) scripts_are story;
}

pub divergence_of : (file trace other : Option (List ℕ)) (status : ℕ) (bytes again read journal taken beside taken_beside text : List ℕ) (one two : Retaker) → bytes ≡ read → again ≡ read → IfSome file (λ all. read ≡ all) → journal ≡ taken
    → IfSome trace (λ all. taken ≡ all) → beside ≡ taken_beside → IfSome other (λ all. taken_beside ≡ all) → HasOpened bytes one → HasOpened again two → IsDivergence one two journal beside status text → IsDivergenceOf file trace other status text
divergence_of file trace other status bytes again read journal taken beside taken_beside text one two same same_again whole same_journal whole_journal same_beside whole_beside opened opened_beside parted = record {
  bytes = read;
  of_file = whole;
  journal = journal;
  of_record = read_of trace journal taken same_journal whole_journal;
  beside = beside;
  of_other = read_of other beside taken_beside same_beside whole_beside;
  one = one;
  two = two;
  opened = subst (λ (t : List ℕ). HasOpened t one) same opened;
  opened_beside = subst (λ (t : List ℕ). HasOpened t two) same_again opened_beside;
  parted = parted;
}
