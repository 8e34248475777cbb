-- What is told of two records.
use Rattle.std.proofs.Common.{◌≡◌, ℕ, List, [], ◌++◌, length, map, flat_map, Option, ap, ap₂, ◌∙◌, subst}
use Rattle.findings.specs.Parting.{IsDifferenceOf, IsPartingBy}
use Rattle.findings.specs.Texts.{IsApartBy, place_line}
use Rattle.findings.specs.declared.diverging.Parting.{Parting}
use Rattle.findings.specs.declared.diverging.Place.{Place}
use Rattle.model.specs.steps.Schedule.{Recorded}
use Rattle.session.specs.Live.{state_in}
use Rattle.session.specs.Records.{head_line, traces_in}
use Rattle.session.specs.declared.entry.Entry.{Entry as Read}
use Rattle.session_records.specs.Diverging.{AreAllRetaken, IsDivergence, IsRetaken, meant, status_of}
use Rattle.session_records.specs.Entries.{AreEntries}
use Rattle.session_records.specs.Texts.{IsRequestsText, agreement_line}
use Rattle.session_records.specs.declared.diverging.Retaker.{Retaker}

-- four texts, one behind the other
four : (text first second third whole a b c d : List ℕ) → text ≡ [] → first ≡ text ++ a → second ≡ first ++ b → third ≡ second ++ c → whole ≡ third ++ d → whole ≡ a ++ b ++ c ++ d
four text first second third whole a b c d none one two three all =
    all ∙ ap (λ t. t ++ d) (three ∙ ap (λ t. t ++ c) (two ∙ ap (λ t. t ++ b) (one ∙ ap (λ t. t ++ a) none)))

module _ (one other : Retaker) (journal beside front front_beside rest rest_beside : List ℕ) (entries others : List Read) where
  pub divergence_is : (shown shown_beside named named_beside : List Read) (runs runs_beside listed listed_beside : List Recorded) (parting : Parting) (place : Option Place) (n m status : ℕ) (text first second third whole : List ℕ)
      → journal ≡ head_line one.session.file ++ front → beside ≡ head_line other.session.file ++ front_beside → AreEntries front entries rest → AreEntries front_beside others rest_beside
      → shown ≡ entries → shown_beside ≡ others → AreAllRetaken (meant one) one.session shown → AreAllRetaken (meant other) other.session shown_beside
      → IsPartingBy (IsRetaken (meant one)) (IsRetaken (meant other)) state_in 0 one.session other.session shown shown_beside parting
      → named ≡ entries → named_beside ≡ others
      → (more : List ℕ) × IsRequestsText (map (λ read. read.line.now) named) (map (λ read. read.line.now) named_beside) more × (second ≡ first ++ more)
      → runs ≡ flat_map (λ read. traces_in read.deed) entries → runs_beside ≡ flat_map (λ read. traces_in read.deed) others → listed ≡ runs → listed_beside ≡ runs_beside → IsDifferenceOf listed listed_beside place
      → (more : List ℕ) × IsApartBy parting more × (whole ≡ third ++ more)
      → status ≡ status_of parting → n ≡ length entries → m ≡ length others → text ≡ [] → first ≡ text ++ agreement_line parting n m → third ≡ second ++ place_line place
      → IsDivergence one other journal beside status whole
  divergence_is shown shown_beside named named_beside runs runs_beside listed listed_beside parting place n m status text first second third whole head head_beside read read_beside same same_beside taken taken_beside parts
      names names_beside requests all all_beside list list_beside steps lines counted many many_beside none begun placed = record {
        entries = entries;
        others = others;
        taken = record { text = front; rest = rest; headed = head; read = read; taken = subst (AreAllRetaken (meant one) one.session) same taken };
        taken_beside = record { text = front_beside; rest = rest_beside; headed = head_beside; read = read_beside; taken = subst (AreAllRetaken (meant other) other.session) same_beside taken_beside };
        parting = parting;
        parts = subst (λ rs. IsPartingBy (IsRetaken (meant one)) (IsRetaken (meant other)) state_in 0 one.session other.session entries rs parting) same_beside
            (subst (λ rs. IsPartingBy (IsRetaken (meant one)) (IsRetaken (meant other)) state_in 0 one.session other.session rs shown_beside parting) same parts);
        requests = requests.0;
        differ = subst (λ (rs : List Read). IsRequestsText (map (λ read. read.line.now) entries) (map (λ read. read.line.now) rs) requests.0) names_beside
            (subst (λ (rs : List Read). IsRequestsText (map (λ read. read.line.now) rs) (map (λ read. read.line.now) named_beside) requests.0) names requests.1);
        place = place;
        steps = subst (λ (rs : List Recorded). IsDifferenceOf (flat_map (λ read. traces_in read.deed) entries) rs place) (list_beside ∙ all_beside) (subst (λ (rs : List Recorded). IsDifferenceOf rs listed_beside place) (list ∙ all) steps);
        lines = lines.0;
        apart = lines.1;
        counted = counted;
        told = four text first second third whole (agreement_line parting (length entries) (length others)) requests.0 (place_line place) lines.0 none
            (begun ∙ ap₂ (λ (a b : ℕ). text ++ agreement_line parting a b) many many_beside) requests.2 placed lines.2;
      }
