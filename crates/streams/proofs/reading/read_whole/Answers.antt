use Rattle.std.proofs.Common.{ℕ, List, Option, ◌+◌, ◌++◌, length, take, vec_len, subst, sym, ap, arith}
use Rattle.std.specs.Io.KnownBytes.{Consumes}
use Rattle.streams.proofs.Losses.{consumed_more, consumed_kept, consumed_all, consumed_long, given}
use Rattle.streams.proofs.reading.read_whole.Goals as goal

pub loop-preserved-in-Err : goal.loop-preserved-in-Err
loop-preserved-in-Err g c = record {
  within = c.loop.invariant.within;
  taken = consumed_kept (g.R.Read.remaining c.args.reader.now) (g.R.Read.remaining c.loop.reader) (g.R.Read.remaining c.read.new.self) c.loop.bytes.items c.loop.invariant.taken c.in-Err.ensures.bytes;
}

pub loop-preserved : goal.loop-preserved
loop-preserved g c =
    let part : List ℕ = take c.in-Ok.count c.read.new.buf in
    let old : Option (List ℕ) = g.R.Read.remaining c.args.reader.now in
    let new : Option (List ℕ) = g.R.Read.remaining c.read.new.self in
    let items = given c.extend_from_slice.result (c.loop.bytes.items ++ part) c.loop.bytes.items c.extend_from_slice.new.self.items c.if-is_err.ensures.value c.extend_from_slice.ensures.items in
    let long = given c.extend_from_slice.result (vec_len c.loop.bytes + length part) (vec_len c.loop.bytes) (vec_len c.extend_from_slice.new.self) c.if-is_err.ensures.value c.extend_from_slice.ensures.len in
    let count = c.in-Ok.ensures.bound.1 in
    let room = c.if-limit-len.false in
    let stood = c.len.ensures in
    record {
      within = omega (arith, c.loop.invariant.within);
      taken = subst (λ (bs : List ℕ). Consumes old new bs) (sym items) (consumed_more old (g.R.Read.remaining c.loop.reader) new c.loop.bytes.items part c.loop.invariant.taken c.in-Ok.ensures.bytes.0);
    }

pub returns-then-count-eq0-clause-whole : goal.returns-then-count-eq0-clause-whole
returns-then-count-eq0-clause-whole g c =
    let none = c.if-count-eq0.true in
    consumed_all (g.R.Read.remaining c.args.reader.now) (g.R.Read.remaining c.loop.reader) (g.R.Read.remaining c.read.new.self) c.loop.bytes.items (take c.in-Ok.count c.read.new.buf) c.loop.invariant.taken c.in-Ok.ensures.bytes.0
    (ap (λ (n : ℕ). take n c.read.new.buf) none) (c.in-Ok.ensures.bytes.1 none (omega arith))

pub returns-then-limit-len-clause-long : goal.returns-then-limit-len-clause-long
returns-then-limit-len-clause-long g c = λ _.
    let part : List ℕ = take c.in-Ok.count c.read.new.buf in
    let count = c.in-Ok.ensures.bound.1 in
    let over = c.if-limit-len.true in
    let stood = c.len.ensures in
    consumed_long (g.R.Read.remaining c.args.reader.now) (g.R.Read.remaining c.loop.reader) (g.R.Read.remaining c.read.new.self) c.loop.bytes.items part c.args.limit c.loop.invariant.taken c.in-Ok.ensures.bytes.0
    (omega (arith, c.loop.bytes.ok.0, c.loop.invariant.within))
