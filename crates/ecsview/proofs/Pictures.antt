-- The texts of drawings, from what they were made of.
use Rattle.std.proofs.Common.{◌≡◌, ℕ, Bool, List, [], length, map, Option, IfSome, subst, sym, ap, ◌∙◌}
use Rattle.std.specs.List.{AllByRecursion}
use Rattle.std.specs.Prelude.{◌↔◌, IsTrue}
use Rattle.ambiguity_report.specs.Report.{IsReport}
use Rattle.ambiguity_report.specs.declared.report.Pair.{Pair}
use Rattle.drawing.specs.ShapeText.{Texts, drawing_text}
use Rattle.drawing.specs.declared.shape.Shape.{Shape}
use Rattle.findings.specs.declared.loading.Loaded.{Loaded}
use Rattle.model.specs.steps.Schedule.{Recorded}
use Rattle.schedule_drawing.specs.Drawn.{drawn_height, drawn_width, schedule_shapes}
use Rattle.trace_checker.specs.Grammar.{trace_text}
use Rattle.ecsview.specs.Drawings.{IsForeign, IsLanesText, IsLawfulRun, IsScheduleText, drawn_shapes, height_from, lanes_width, longest_from, members_of, part_of, runs_top, texts_by}
use Rattle.ecsview.specs.declared.part.Part.{Part}

-- that of a schedule
pub scheduled : (opener rules : List ℕ) (l : Loaded) (members : List (List ℕ)) (pairs shown : List Pair) (names sets conditions touched : List (List ℕ)) (width height : ℕ) (shapes drawn : List Shape) (text : List ℕ)
    → IsReport l.file.built pairs → shown ≡ pairs → members ≡ members_of l → names ≡ map (λ name. name.now) l.file.names.items → sets ≡ map (λ name. name.now) l.sets.names.items
    → width ≡ drawn_width l.file.built → drawn ≡ schedule_shapes l.file.built members shown → height ≡ drawn_height drawn → shapes ≡ drawn
    → text ≡ drawing_text opener rules (record { names = names; sets = sets; conditions = conditions; touched = touched }) width height shapes → IsScheduleText opener rules l text
scheduled opener rules l members pairs shown names sets conditions touched width height shapes drawn text report is_shown is_members is_names is_sets is_width is_drawn is_height is_shapes is_text =
    let b = l.file.built in
    let t : List (List ℕ) → List (List ℕ) → Texts = λ ns ss. record { names = ns; sets = ss; conditions = conditions; touched = touched } in
    let whole : List Shape = schedule_shapes b (members_of l) pairs in
    let all : drawn ≡ whole = is_drawn ∙ (ap (λ ms. schedule_shapes b ms shown) is_members ∙ ap (λ ps. schedule_shapes b (members_of l) ps) is_shown) in
    record {
      pairs = pairs;
      report = report;
      conditions = conditions;
      touched = touched;
      same =
          is_text
          ∙ (ap (λ ns. drawing_text opener rules (t ns sets) width height shapes) is_names
          ∙ (ap (λ ss. drawing_text opener rules (t (map (λ name. name.now) l.file.names.items) ss) width height shapes) is_sets
          ∙ (ap (λ w. drawing_text opener rules (texts_by l (map (λ name. name.now) l.sets.names.items) conditions touched) w height shapes) is_width
          ∙ (ap (λ h. drawing_text opener rules (texts_by l (map (λ name. name.now) l.sets.names.items) conditions touched) (drawn_width b) h shapes) (is_height ∙ ap drawn_height all)
          ∙ ap (λ xs. drawing_text opener rules (texts_by l (map (λ name. name.now) l.sets.names.items) conditions touched) (drawn_width b) (drawn_height whole) xs) (is_shapes ∙ all)))));
    }

-- that of the runs of a part
pub laned : (opener rules : List ℕ) (l : Loaded) (trace : Option (List ℕ)) (part : Part) (runs shown drawn : List Recorded) (names conditions : List (List ℕ)) (foreign : Bool) (count width height : ℕ) (shapes made : List Shape) (text : List ℕ)
    → IfSome trace (λ bytes. bytes ≡ trace_text runs) → shown ≡ runs → AllByRecursion (IsLawfulRun l.file.built) shown → IsTrue foreign ↔ IsForeign l shown → drawn ≡ part_of part shown → count ≡ length runs → names ≡ map (λ name. name.now) l.file.names.items
    → width ≡ lanes_width (longest_from 0 drawn) → height ≡ height_from (runs_top foreign (length drawn) count) drawn → made ≡ drawn_shapes foreign part count drawn → shapes ≡ made
    → text ≡ drawing_text opener rules (record { names = names; sets = []; conditions = conditions; touched = [] }) width height shapes → IsLanesText opener rules l trace part text
laned opener rules l trace part runs shown drawn names conditions foreign count width height shapes made text read is_shown lawful judged is_drawn is_count is_names is_width is_height is_made is_shapes is_text =
    let part_is : drawn ≡ part_of part runs = is_drawn ∙ ap (λ rs. part_of part rs) is_shown in
    let t : Texts = texts_by l [] conditions [] in
    let wide : width ≡ lanes_width (longest_from 0 (part_of part runs)) = is_width ∙ ap (λ rs. lanes_width (longest_from 0 rs)) part_is in
    let high : height ≡ height_from (runs_top foreign (length (part_of part runs)) (length runs)) (part_of part runs) =
    is_height ∙ (ap (λ n. height_from (runs_top foreign (length drawn) n) drawn) is_count ∙ ap (λ rs. height_from (runs_top foreign (length rs) (length runs)) rs) part_is) in
    let all : shapes ≡ drawn_shapes foreign part (length runs) (part_of part runs) =
    is_shapes ∙ (is_made ∙ (ap (λ n. drawn_shapes foreign part n drawn) is_count ∙ ap (λ rs. drawn_shapes foreign part (length runs) rs) part_is)) in
    record {
      runs = runs;
      read = read;
      lawful = subst (AllByRecursion (IsLawfulRun l.file.built)) is_shown lawful;
      foreign = foreign;
      judged = subst (λ (rs : List Recorded). IsTrue foreign ↔ IsForeign l rs) is_shown judged;
      conditions = conditions;
      same =
          is_text
          ∙ (ap (λ (ns : List (List ℕ)). drawing_text opener rules (record { names = ns; sets = []; conditions = conditions; touched = [] }) width height shapes) is_names
          ∙ (ap (λ w. drawing_text opener rules t w height shapes) wide ∙ (ap (λ h. drawing_text opener rules t (lanes_width (longest_from 0 (part_of part runs))) h shapes) high
          ∙ ap (λ xs. drawing_text opener rules t (lanes_width (longest_from 0 (part_of part runs))) (height_from (runs_top foreign (length (part_of part runs)) (length runs)) (part_of part runs)) xs) all)));
    }
