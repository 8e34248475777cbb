use Rattle.std.proofs.Common.{◌≤◌, codes, option_map, Some, ap, subst, sym, ◌∙◌, arith}
use Rattle.serde_json.specs.Data.{depth, string}
use Rattle.serde_json.specs.Find.{get}
use Rattle.serde_json.specs.View.{members_view, view}
use Rattle.serde_json.proofs.Views.{view-Object}
use Rattle.diagnostics.proofs.Heads.{heads, line_shallow}
use Rattle.diagnostics.proofs.json.object_of.Goals as goal

pub returns : goal.returns
returns c =
    let seen = view-Object c.put-3.new.map in
    let h = heads (view c.in_ok-code.code) (view c.in_ok-level.level) (view c.in_ok-line.line) (members_view c.args.words.entries) (members_view c.put.new.map.entries) (members_view c.put-2.new.map.entries) (members_view c.put-3.new.map.entries)
    c.in_ok-put.ensures.ok c.in_ok-put-2.ensures.ok c.in_ok-put-3.ensures.ok c.requires
    (subst (λ d. depth d ≤ 2) (sym c.in_ok-code.ensures) (omega arith))
    (subst (λ d. depth d ≤ 2) (sym c.in_ok-level.ensures) (omega arith))
    (subst (λ d. depth d ≤ 2) (sym c.in_ok-line.ensures) (line_shallow (option_map (λ it. it.now) c.args.line))) in
    record {
      code_is = ap (get (codes "code")) seen ∙ h.code_is ∙ ap Some c.in_ok-code.ensures;
      level_is = ap (get (codes "level")) seen ∙ h.level_is ∙ ap Some (c.in_ok-level.ensures ∙ ap string c.word.ensures);
      line_is = ap (get (codes "line")) seen ∙ h.line_is ∙ ap Some c.in_ok-line.ensures;
      shallow = let low = h.shallow in subst (λ d. depth d ≤ 3) (sym seen) (omega (arith, low));
    }
