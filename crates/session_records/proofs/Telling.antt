-- The story of a record with an entry more.
use Rattle.std.proofs.Common.{◌≡◌, ◌+◌, ℕ, List, [], ◌∷◌, ◌++◌, length, map, Option, Some, refl, sym, ap, ◌∙◌, subst, string_bytes, arith}
use Rattle.std.proofs.lemmas.Grind.{flat_map-append}
use Rattle.std.proofs.lemmas.List.{append_assoc, append-nil}
use Rattle.findings.specs.Stories.{IsStory}
use Rattle.findings.specs.declared.stories.Story.{Story}
use Rattle.model.specs.shown.Outcome.{BodyMeaning}
use Rattle.engine.specs.Meanings.{AreFit, HasMemories, Suits}
use Rattle.model.specs.state.State.{State}
use Rattle.model.specs.steps.Schedule.{Schedule}
use Rattle.program.specs.Setup.{script_means, script_suits}
use Rattle.script.specs.declared.script_body.ScriptBody.{ScriptBody}
use Rattle.session.specs.Live.{Live, state_in}
use Rattle.session.specs.Records.{Act, Entry, IsReadAs, IsReadEntry, IsTaken, entries_text, entry_text, head_line, line_of, traces_in, traces_of}
use Rattle.session.specs.Records.Act.{Does, Loads}
use Rattle.session.specs.declared.entry.Deed.{Deed}
use Rattle.session.specs.declared.entry.Deed.TheVariants as deed
use Rattle.session.specs.declared.entry.Entry.{Entry as Read}
use Rattle.session.proofs.Retaken.{redone_as}
use Rattle.session_records.specs.Stories.{AreTold, HasToldEntry, IsToldEntry, is_shown, shown_line}

-- what was read has the traces that are recorded
traces_same : (read : Deed) (act : Act) → IsReadAs read act → traces_in read ≡ traces_of act
traces_same (deed.Does request traces) (Does line asked runs) same = same.1
traces_same (deed.Loads loaded lines) (Loads line load text) same = refl
traces_same (deed.Does request traces) (Loads line load text) same = absurd same
traces_same (deed.Loads loaded lines) (Does line asked runs) same = absurd same

-- the entry that was read
abbrev pub entry_read : (text : List ℕ) (read : Read) (behind : List ℕ) → IsReadEntry text read behind → Entry
entry_read text read behind is = record { act = is.act; told = read.told.now }

module _ (bodies : List BodyMeaning) (old new : Live ScriptBody) (text behind : List ℕ) (read : Read) (before : ℕ) (story told : Story) (is : IsReadEntry text read behind) (has : HasToldEntry bodies old new read before story told) where
  same : traces_in read.deed ≡ traces_of is.act
  same = traces_same read.deed is.act is.is

  pub entry_told : IsToldEntry bodies story.asked before story.runs old (entry_read text read behind is) (string_bytes story.text) (string_bytes told.text) new
  entry_told = record {
    reply = has.taken.reply;
    taken = record {
      spelled = is.spelled;
      redone = redone_as script_means bodies old new has.taken.reply read.deed is.act is.is has.taken.taken;
      done = has.taken.done;
      told = has.taken.told;
    };
    story = subst (λ line. IsStory old.engine.schedule bodies story.asked story.runs (state_in old) (traces_of is.act)
        (string_bytes story.text ++ shown_line (is_shown story.asked story.runs (length (traces_of is.act))) (before + 1) line) (string_bytes told.text)) is.sent
        (subst (λ traces. IsStory old.engine.schedule bodies story.asked story.runs (state_in old) traces
        (string_bytes story.text ++ shown_line (is_shown story.asked story.runs (length traces)) (before + 1) read.line.now) (string_bytes told.text)) same has.goes_on);
  }

  pub runs_told : told.runs ≡ story.runs + length (traces_of is.act)
  runs_told = has.runs ∙ ap (λ traces. story.runs + length traces) same

-- an entry behind those that were told
told_behind : (bodies : List BodyMeaning) (asked : Option ℕ) (before n runs middle count : ℕ) (old mid new : Live ScriptBody) (es : List Entry) (entry : Entry) (text words whole : List ℕ) → n ≡ before + length es → count ≡ middle + length (traces_of entry.act)
    → AreTold bodies asked before runs old es text words middle mid → IsToldEntry bodies asked n middle mid entry words whole new → AreTold bodies asked before runs old (es ++ entry ∷ []) text whole count new
told_behind bodies asked before n runs middle count old mid new [] entry text words whole at many told next = (
  new,
  whole,
  subst (λ k. IsToldEntry bodies asked k runs old entry text whole new) (let e : n ≡ before = omega (arith, at) in e)
      (subst (λ t. IsToldEntry bodies asked n runs old entry t whole new) (sym told.0)
      (subst (λ k. IsToldEntry bodies asked n k old entry words whole new) (sym told.1) (subst (λ l. IsToldEntry bodies asked n middle l entry words whole new) (sym told.2) next))),
  (refl, ap (λ k. k + length (traces_of entry.act)) told.1 ∙ sym many, refl),
)
told_behind bodies asked before n runs middle count old mid new (e ∷ es) entry text words whole at many told next = (
  told.0,
  told.1,
  told.2,
  told_behind bodies asked (before + 1) n (runs + length (traces_of e.act)) middle count told.0 mid new es entry told.1 words whole (omega (arith, at)) many told.3 next,
)

-- ---- a record, so far

-- the first entries of a record were taken again and told, and this is left
pub record IsToldSoFar (bodies : List BodyMeaning) (asked : Option ℕ) (old now : Live ScriptBody) (journal rest : List ℕ) (count : ℕ) (story : Story) : Type 0 where
  pub entries : List Entry
  pub many : length entries ≡ count
  pub spelled : journal ≡ head_line old.file ++ (entries_text entries ++ rest)
  pub told : AreTold bodies asked 0 0 old entries [] (string_bytes story.text) story.runs now
  pub asks : story.asked ≡ asked

pub none_told : (bodies : List BodyMeaning) (asked : Option ℕ) (old : Live ScriptBody) (journal rest : List ℕ) (story : Story) → journal ≡ head_line old.file ++ rest → string_bytes story.text ≡ [] → story.runs ≡ 0 → story.asked ≡ asked
    → IsToldSoFar bodies asked old old journal rest 0 story
none_told bodies asked old journal rest story head empty none asks = record {
  entries = [];
  many = refl;
  spelled = head;
  told = (sym empty, sym none, refl);
  asks = asks;
}

pub one_told : (bodies others : List BodyMeaning) (asked : Option ℕ) (old mid new : Live ScriptBody) (journal rest behind : List ℕ) (count : ℕ) (story told : Story) (read : Read) → others ≡ bodies
    → IsToldSoFar bodies asked old mid journal rest count story → IsReadEntry rest read behind → HasToldEntry others mid new read count story told → IsToldSoFar bodies asked old new journal behind (count + 1) told
one_told bodies others asked old mid new journal rest behind count story told read means so_far is has =
    let entry = entry_read rest read behind is in
    let next = subst (λ bs. IsToldEntry bs story.asked count story.runs mid entry (string_bytes story.text) (string_bytes told.text) new) means (entry_told others mid new rest behind read count story told is has) in
    record {
      entries = so_far.entries ++ entry ∷ [];
      many = length-one so_far.entries entry ∙ ap (λ k. k + 1) so_far.many;
      spelled = so_far.spelled ∙ ap (λ t. head_line old.file ++ t) (ap (λ t. entries_text so_far.entries ++ t) is.parted ∙ sym (append_assoc (entries_text so_far.entries) (entry_text entry) behind)
          ∙ ap (λ t. t ++ behind) (sym (flat_map-append entry_text so_far.entries (entry ∷ []) ∙ ap (λ t. entries_text so_far.entries ++ t) (append-nil (entry_text entry)))));
      told = told_behind bodies asked 0 count 0 story.runs told.runs old mid new so_far.entries entry [] (string_bytes story.text) (string_bytes told.text) (let m = so_far.many in omega (arith, m)) (runs_told others mid new rest behind read count story told is has) so_far.told
          (subst (λ a. IsToldEntry bodies a count story.runs mid entry (string_bytes story.text) (string_bytes told.text) new) so_far.asks next);
      asks = has.asked ∙ so_far.asks;
    }
  where
    length-one : (es : List Entry) (e : Entry) → length (es ++ e ∷ []) ≡ length es + 1
    length-one [] e = refl
    length-one (x ∷ es) e = let rest = length-one es e in omega (arith, rest)

-- ---- states

-- scripts that fit suit a copy of a state that others suit
pub copy_suits : (s : Schedule) (scripts : List ScriptBody) (slots : List (Option ScriptBody)) (state copy : State) → AreFit script_suits s (map Some scripts) → Suits script_suits s slots state → copy ≡ state → Suits script_suits s (map Some scripts) copy
copy_suits s scripts slots state copy fit suits same = record { body_count = fit.body_count; memories = subst (HasMemories s) (sym same) suits.memories; fit = fit.fit }
