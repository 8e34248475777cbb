use Rattle.std.proofs.Common.{◌≡◌, ◌-◌, length, map, take, drop, ap, ◌∙◌}
use Rattle.std.proofs.lemmas.List.{length-map}
use Rattle.std.specs.Fmt.{decimal, signed_decimal}
use Rattle.state_text.proofs.Passed.{passed}
use Rattle.state_text.proofs.WordsSpelled.{word_is, behind_is, cut_words}
use Rattle.state_text.proofs.reading.memories.read_memory.Goals as goal

pub returns-in_err-registers-2-clause-all : goal.returns-in_err-registers-2-clause-all
returns-in_err-registers-2-clause-all c m is fits e =
    let cut = cut_words (take (length c.args.words.now - 2) (drop 2 c.args.words.now)) 8 (map signed_decimal m.registers) (map decimal m.cursors)
    (length-map m.registers signed_decimal ∙ is.registers) (behind_is 2 c.args.words.now _ e) in
    let parts = rw c.in_ok-registers.ensures.ok_part at c.split_at_checked.ensures.cases in
    passed (λ found. found ≡ m) _ _ c.from_residual-in_err-registers-2.ensures.1 (c.in_err-registers-2.ensures.all m.registers fits.registers (ap (map (λ word. word.now)) parts.1 ∙ cut.1))

pub returns-in_err-cursors-clause-all : goal.returns-in_err-cursors-clause-all
returns-in_err-cursors-clause-all c m is fits e =
    let cut = cut_words (take (length c.args.words.now - 2) (drop 2 c.args.words.now)) 8 (map signed_decimal m.registers) (map decimal m.cursors)
    (length-map m.registers signed_decimal ∙ is.registers) (behind_is 2 c.args.words.now _ e) in
    let parts = rw c.in_ok-registers.ensures.ok_part at c.split_at_checked.ensures.cases in
    passed (λ found. found ≡ m) _ _ c.from_residual-in_err-cursors.ensures.1 (c.in_err-cursors.ensures m.cursors fits.cursors (ap (map (λ word. word.now)) parts.2 ∙ cut.2))

pub returns-clause-all : goal.returns-clause-all
returns-clause-all c m is fits e =
    let cut = cut_words (take (length c.args.words.now - 2) (drop 2 c.args.words.now)) 8 (map signed_decimal m.registers) (map decimal m.cursors)
    (length-map m.registers signed_decimal ∙ is.registers) (behind_is 2 c.args.words.now _ e) in
    let parts = rw c.in_ok-registers.ensures.ok_part at c.split_at_checked.ensures.cases in
    let registers = c.in_ok-registers-2.ensures.all m.registers fits.registers (ap (map (λ word. word.now)) parts.1 ∙ cut.1) in
    let cursors = c.in_ok-cursors.ensures m.cursors fits.cursors (ap (map (λ word. word.now)) parts.2 ∙ cut.2) in
    let last_run = c.in_ok-last_run.ensures.all m.last_run is.last_run (word_is c.args.words.now 1 _ _ e) in
    c.of.ensures ∙ (λ i. record { last_run = last_run i; cursors = cursors i; registers = registers i })
