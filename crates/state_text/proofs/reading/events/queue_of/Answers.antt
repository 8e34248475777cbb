use Rattle.std.proofs.Common.{length, inl, inr, ap, ap₂, ◌++◌, ◌∙◌, arith}
use Rattle.std.proofs.lemmas.List.{take-append-drop}
use Rattle.state_text.proofs.KeptValues.{lies, parts_make}
use Rattle.state_text.proofs.reading.events.queue_of.Goals as goal

pub returns-then-next-count : goal.returns-then-next-count
returns-then-next-count c queue is newer next values =
    let h = lies queue is c.args.values.now values in
    let many = h.many in
    let most = h.most in
    absurd (elim c.then-next-count.either [ inl few ↦ omega (arith, few, many, next) | inr past ↦ omega (arith, past, most, next) ])

pub returns-then-newer-first : goal.returns-then-newer-first
returns-then-newer-first c queue is newer next values =
    let h = lies queue is c.args.values.now values in
    let many = h.many in
    let older = h.older in
    let least = h.newer in
    absurd (elim c.then-newer-first.either [ inl early ↦ omega (arith, early, many, older, newer, next) | inr late ↦ omega (arith, late, least, newer, next) ])

pub returns : goal.returns
returns c queue is newer next values =
    let h = lies queue is c.args.values.now values in
    let many = h.many in
    let older = h.older in
    c.of.ensures ∙ parts_make queue c.args.values.now h _ (length c.split_at.result.0.now) (omega (arith, many, next)) (omega (arith, c.split_at.ensures.front_len, many, older, newer, next)) _ _
    (ap₂ ◌++◌ (c.in_ok-older.ensures.items ∙ c.split_at.ensures.front) (c.in_ok-newer.ensures.items ∙ c.split_at.ensures.back) ∙ take-append-drop _ c.args.values.now) (ap length c.in_ok-older.ensures.items)
