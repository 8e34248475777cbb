use Rattle.std.proofs.Common.{◌<◌, length, map, take, drop, ap, sym, subst, ◌∙◌, arith, ◌-◌, ℕ}
use Rattle.std.proofs.lemmas.Bool.{false≢true}
use Rattle.std.proofs.lemmas.List.{length-map}
use Rattle.std.specs.Fmt.{signed_decimal}
use Rattle.std.specs.List.{AllByRecursion}
use Rattle.kinds.specs.Components.{widths}
use Rattle.kinds.specs.Value.{value_number, value_words}
use Rattle.kinds.proofs.Wide.{value_width}
use Rattle.model.specs.state.Rows.{insert_component}
use Rattle.model.specs.state.Shape.{IsComponent}
use Rattle.archetype_store.specs.Row.{component_of}
use Rattle.state_text.specs.LineWords.{row_words}
use Rattle.state_text.proofs.Passed.{passed}
use Rattle.state_text.proofs.WordsSpelled.{word_is, behind_is, cut_words}
use Rattle.state_text.proofs.KindNames.{a_kind, its_kind}
use Rattle.state_text.proofs.RowsRead.{all_between, stands, put_behind, put_anywhere}
use Rattle.state_text.proofs.reading.components.read_component.Goals as goal

pub returns-in_err-kind-clause-all : goal.returns-in_err-kind-clause-all
returns-in_err-kind-clause-all c x cs row fits e = absurd (a_kind _ c.named.result c.named.ensures x.kind fits.kind (word_is c.args.words.now 0 _ _ e) c.in_err-kind.ensures.ok_part)

pub returns-then-not-stands_behind-clause-all : goal.returns-then-not-stands_behind-clause-all
returns-then-not-stands_behind-clause-all c x cs row fits e =
    let kind = its_kind _ c.named.result c.named.ensures x.kind fits.kind (word_is c.args.words.now 0 _ _ e) c.in_ok-kind.kind c.in_ok-kind.ensures.ok_part in
    let behind = subst (λ (n : ℕ). AllByRecursion (λ d. d.kind < n) (map component_of c.args.row.now.items)) (sym kind) (stands (map component_of c.args.row.now.items) x cs row.rising) in
    absurd (false≢true (sym c.if-not-stands_behind.true ∙ c.stands_behind.ensures (rw c.deref.ensures behind)))

pub returns-in_err-added-clause-all : goal.returns-in_err-added-clause-all
returns-in_err-added-clause-all c x cs row fits e =
    let is = all_between (IsComponent widths c.args.clock) (map component_of c.args.row.now.items) x cs row.components in
    passed _ _ _ c.from_residual-in_err-added.ensures.1 (c.in_err-added.ensures.all x.cell.added is.added (word_is c.args.words.now 1 _ _ e))

pub returns-in_err-changed-clause-all : goal.returns-in_err-changed-clause-all
returns-in_err-changed-clause-all c x cs row fits e =
    let is = all_between (IsComponent widths c.args.clock) (map component_of c.args.row.now.items) x cs row.components in
    passed _ _ _ c.from_residual-in_err-changed.ensures.1 (c.in_err-changed.ensures.all x.cell.changed is.changed (word_is c.args.words.now 2 _ _ e))

pub returns-in_err-fields-clause-all : goal.returns-in_err-fields-clause-all
returns-in_err-fields-clause-all c x cs row fits e =
    let is = all_between (IsComponent widths c.args.clock) (map component_of c.args.row.now.items) x cs row.components in
    let kind = its_kind _ c.named.result c.named.ensures x.kind fits.kind (word_is c.args.words.now 0 _ _ e) c.in_ok-kind.kind c.in_ok-kind.ensures.ok_part in
    let wide = c.width.ensures ∙ ap widths kind ∙ sym is.width ∙ sym (length-map x.cell.words signed_decimal) in
    let cut = cut_words (take (length c.args.words.now - 3) (drop 3 c.args.words.now)) c.width.result (map signed_decimal x.cell.words) (row_words cs) (sym wide) (behind_is 3 c.args.words.now _ e) in
    let short = rw c.in_err-fields.ensures.ok_part at c.split_at_checked.ensures.cases in
    absurd (omega (arith, short, cut.0))

pub returns-in_err-value_of-clause-all : goal.returns-in_err-value_of-clause-all
returns-in_err-value_of-clause-all c x cs row fits e =
    let is = all_between (IsComponent widths c.args.clock) (map component_of c.args.row.now.items) x cs row.components in
    let kind = its_kind _ c.named.result c.named.ensures x.kind fits.kind (word_is c.args.words.now 0 _ _ e) c.in_ok-kind.kind c.in_ok-kind.ensures.ok_part in
    let wide = c.width.ensures ∙ ap widths kind ∙ sym is.width ∙ sym (length-map x.cell.words signed_decimal) in
    let cut = cut_words (take (length c.args.words.now - 3) (drop 3 c.args.words.now)) c.width.result (map signed_decimal x.cell.words) (row_words cs) (sym wide) (behind_is 3 c.args.words.now _ e) in
    let parts = rw c.in_ok-fields.ensures.ok_part at c.split_at_checked.ensures.cases in
    passed _ _ _ c.from_residual-in_err-value_of.ensures.1 (c.in_err-value_of.ensures.all x.cell.words fits.words (ap (map (λ word. word.now)) parts.1 ∙ cut.1))

pub returns-clause-row : goal.returns-clause-row
returns-clause-row c =
    rw c.in_ok-put_value.ensures.ok (put_anywhere (value_number c.in_ok-value_of.field-0) (value_words c.in_ok-value_of.field-0) c.args.clock c.in_ok-added.added c.in_ok-changed.changed
    (map component_of c.args.row.now.items) c.in_ok-added.ensures.past c.in_ok-changed.ensures.past (value_width c.in_ok-value_of.field-0) c.requires)

pub returns-clause-all : goal.returns-clause-all
returns-clause-all c x cs row fits e =
    let is = all_between (IsComponent widths c.args.clock) (map component_of c.args.row.now.items) x cs row.components in
    let kind = its_kind _ c.named.result c.named.ensures x.kind fits.kind (word_is c.args.words.now 0 _ _ e) c.in_ok-kind.kind c.in_ok-kind.ensures.ok_part in
    let wide = c.width.ensures ∙ ap widths kind ∙ sym is.width ∙ sym (length-map x.cell.words signed_decimal) in
    let cut = cut_words (take (length c.args.words.now - 3) (drop 3 c.args.words.now)) c.width.result (map signed_decimal x.cell.words) (row_words cs) (sym wide) (behind_is 3 c.args.words.now _ e) in
    let parts = rw c.in_ok-fields.ensures.ok_part at c.split_at_checked.ensures.cases in
    let spelled = ap (map (λ word. word.now)) parts.1 ∙ cut.1 in
    let long = sym (length-map c.in_ok-fields.fields.now (λ word. word.now)) ∙ ap length spelled in
    let number = c.in_ok-value_of.ensures.kind ∙ kind in
    let words = c.in_ok-value_of.ensures.all x.cell.words fits.words spelled in
    let added = c.in_ok-added.ensures.all x.cell.added is.added (word_is c.args.words.now 1 _ _ e) in
    let changed = c.in_ok-changed.ensures.all x.cell.changed is.changed (word_is c.args.words.now 2 _ _ e) in
    let old = map component_of c.args.row.now.items in (
      omega (arith, long),
      c.in_ok-put_value.ensures.ok
          ∙ (λ i. insert_component (changed i) (number i) (words i) (insert_component (added i) (number i) (words i) old))
          ∙ put_behind x.kind x.cell.words x.cell.added x.cell.changed old (stands old x cs row.rising),
    )
