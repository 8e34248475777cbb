use Rattle.std.proofs.Common.{◌<◌, length, string_bytes, ap, subst, arith}
use Rattle.program.specs.Recorded.{IsKeptOf}
use Rattle.program.proofs.Noting.{beyond-more, full-more, kept-more}
use Rattle.program.proofs.recording.note.Goals as goal

-- a record that is too long stays so
pub returns-in_default : goal.returns-in_default
returns-in_default c = λ hs many kept. beyond-more hs c.args.trace.now (subst (IsKeptOf hs) c.in_default.is kept)

-- with this run it is too long
pub returns-then-as_bytes-gt-MOST_TRACE_BYTES : goal.returns-then-as_bytes-gt-MOST_TRACE_BYTES
returns-then-as_bytes-gt-MOST_TRACE_BYTES c = λ hs many kept.
    let beyond : 67108864 < length (string_bytes c.push_run.new.text) = let e = ap length c.as_bytes.ensures.value in let t = c.if-as_bytes-gt-MOST_TRACE_BYTES.true in omega arith in
    full-more hs c.args.number c.args.trace.now (string_bytes c.in-Some.text) (string_bytes c.push_run.new.text) many (subst (IsKeptOf hs) c.in-Some.is kept) c.in_ok-push_run.ensures beyond

-- the run stands behind those before it
pub returns : goal.returns
returns c = λ hs many kept.
    kept-more hs c.args.number c.args.trace.now (string_bytes c.in-Some.text) (string_bytes c.push_run.new.text) many (subst (IsKeptOf hs) c.in-Some.is kept) c.in_ok-push_run.ensures
    (let e = ap length c.as_bytes.ensures.value in let t = c.if-as_bytes-gt-MOST_TRACE_BYTES.false in omega arith)
