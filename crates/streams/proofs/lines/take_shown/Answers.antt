-- What the reader shows is consumed up to the end of the line.
use Rattle.std.proofs.Common.{rules, ◌≡◌, ◌-◌, min, ℕ, List, length, take, subst, sym, ap, ◌∙◌}
use Rattle.std.proofs.lemmas.Bool.{eqb-true}
use Rattle.std.specs.Io.BufRead.{FillKeeps, DropsConsumable}
use Rattle.std.specs.Prelude.{Option}
use Rattle.streams.specs.Lines.{TakesShown}
use Rattle.streams.proofs.Losses.{given}
use Rattle.streams.proofs.LineParts.{rest_shown, part_shown, nothing_shown}
use Rattle.streams.proofs.lines.take_shown.Goals.{in-Some, in-None, in-None-2}
use Rattle.streams.proofs.lines.take_shown.Goals as goal

pub returns-clause-taken : goal.returns-clause-taken
returns-clause-taken g c =
    let rested = c.fill_buf.follows.lender-at-none in
    let filled = subst (FillKeeps _ (g.R.Read.remaining rested) (g.R.BufRead.consumable_len rested)) c.in-Ok.is c.fill_buf.follows.holds-at-none in
    let same : c.match-end.reader ≡ rested = search rules in
    let drops = subst (λ r. DropsConsumable (g.R.Read.remaining r) (g.R.Read.remaining c.consume.new.self) (g.R.BufRead.consumable_len r) c.match-end.count.0) same c.consume.ensures.bytes in
    let old : Option (List ℕ) = g.R.Read.remaining c.args.reader.now in
    let mid : Option (List ℕ) = g.R.Read.remaining rested in
    let new : Option (List ℕ) = g.R.Read.remaining c.consume.new.self in
    let buffered : Option ℕ = g.R.BufRead.consumable_len rested in
    let line : List ℕ = c.args.line.now.items in
    let grown : List ℕ = c.extend_from_slice.new.self.items in
    let items = given c.extend_from_slice.result _ line grown c.if-is_err.ensures.value c.extend_from_slice.ensures.items in
    let most : c.min-kept.result ≡ min (length (take c.unwrap_or.result c.in-Ok.shown.now)) (c.args.room - length line) = c.min-kept.ensures ∙ ap (λ (n : ℕ). min (length (take c.unwrap_or.result c.in-Ok.shown.now)) (c.args.room - n)) (let s : c.len.result ≡ length line = search rules in s) in
    elim c.match-end.branch [
      | in-Some w ↦ subst (λ x. TakesShown c.args.room old new line grown x) (sym (ap (λ (p : ℕ × _). p.1) w.count-is))
          (rest_shown old mid new buffered c.in-Ok.shown.now line grown c.args.room c.unwrap_or.result c.min-kept.result c.memchr-end.result
          c.in-Ok.ensures.front c.in-Ok.ensures.end filled.0 filled.1 c.requires c.memchr-end.ensures c.unwrap_or.ensures most items w.in-Some.end w.in-Some.is
          (subst (λ n. DropsConsumable mid new buffered n) (ap (λ (p : ℕ × _). p.0) w.count-is) drops))
      | in-None w ↦ subst (λ x. TakesShown c.args.room old new line grown x) (sym (ap (λ (p : ℕ × _). p.1) w.count-is))
          (nothing_shown old mid new buffered c.in-Ok.shown.now line grown c.args.room c.unwrap_or.result c.min-kept.result c.memchr-end.result
          c.in-Ok.ensures.front c.in-Ok.ensures.end filled.0 filled.1 c.requires c.memchr-end.ensures c.unwrap_or.ensures most items w.in-None.is (eqb-true _ 0 (sym w.if-is_empty.ensures))
          (subst (λ n. DropsConsumable mid new buffered n) (ap (λ (p : ℕ × _). p.0) w.count-is) drops))
      | in-None-2 w ↦ subst (λ x. TakesShown c.args.room old new line grown x) (sym (ap (λ (p : ℕ × _). p.1) w.count-is))
          (part_shown old mid new buffered c.in-Ok.shown.now line grown c.args.room c.unwrap_or.result c.min-kept.result c.memchr-end.result
          c.in-Ok.ensures.front c.in-Ok.ensures.end filled.0 filled.1 c.requires c.memchr-end.ensures c.unwrap_or.ensures most items w.in-None-2.is
          (subst (λ n. DropsConsumable mid new buffered n) (ap (λ (p : ℕ × _). p.0) w.count-is) drops))
    ]
