use Rattle.std.proofs.Common.{◌≡◌, ◌<◌, ◌+◌, ◌++◌, ◌∷◌, [], length, map, drop, get_or, take_all, ap, ap₂, sym, subst, ◌∙◌, arith}
use Rattle.std.proofs.lemmas.List.{drop_more, drop_all, take_more}
use Rattle.body.specs.Steps.{IsMemoryAt}
use Rattle.model.specs.state.State.{no_memory}
use Rattle.model.proofs.lists.Each.{each-at, each-append}
use Rattle.state_text.specs.Laws.{FitsMemory}
use Rattle.state_text.specs.LineWords.{AreLines, memory_words, memories_before}
use Rattle.state_text.proofs.Passed.{passed}
use Rattle.state_text.proofs.reading.memories.read_memories.Goals as goal

pub returns-in_err-words-clause-all : goal.returns-in_err-words-clause-all
returns-in_err-words-clause-all c ms more many is fits h =
    let i = c.loop-at._at in
    let so_far = c.loop-at.invariant.read ms more many is fits h in
    let here = subst (λ list. AreLines (memories_before c.args.name.now list more) c.loop-at.lines.rest.now) (drop_more ms i no_memory (omega (arith, many, c.loop-at-test.true))) so_far.1 in
    passed _ _ _ c.from_residual.ensures.1 (c.in_err-words.ensures (memory_words c.args.name.now (get_or ms i no_memory)) (memories_before c.args.name.now (drop (i + 1) ms) more) here)

pub returns-in_err-memory-clause-all : goal.returns-in_err-memory-clause-all
returns-in_err-memory-clause-all c ms more many is fits h =
    let i = c.loop-at._at in
    let low : i < length ms = omega (arith, many, c.loop-at-test.true) in
    let so_far = c.loop-at.invariant.read ms more many is fits h in
    let here = subst (λ list. AreLines (memories_before c.args.name.now list more) c.loop-at.lines.rest.now) (drop_more ms i no_memory low) so_far.1 in
    let read = c.in_ok-words.ensures (memory_words c.args.name.now (get_or ms i no_memory)) (memories_before c.args.name.now (drop (i + 1) ms) more) here in
    passed _ _ _ c.from_residual-in_err-memory.ensures.1 (c.in_err-memory.ensures.all (get_or ms i no_memory) (each-at (IsMemoryAt c.args.clock) ms i no_memory low is) (each-at FitsMemory ms i no_memory low fits)
    (ap (map (λ word. word.now)) c.deref.ensures.value ∙ read.0))

pub loop-at-preserved : goal.loop-at-preserved
loop-at-preserved c =
    let i = c.loop-at._at in
    let items : c.push_reserved.new.self.items ≡ c.loop-at.memories.items ++ c.in_ok-memory.memory ∷ [] = c.push_reserved.ensures.items ∙ ap (λ xs. xs ++ c.in_ok-memory.memory ∷ []) c.in_ok-reserve.ensures.items in
    record {
      sound = rw items (each-append (IsMemoryAt c.args.clock) c.loop-at.memories.items (c.in_ok-memory.memory ∷ []) c.loop-at.invariant.sound (c.in_ok-memory.ensures.sound, tt));
      read = λ ms more many is fits h.
          let low : i < length ms = omega (arith, many, c.loop-at-test.true) in
          let so_far = c.loop-at.invariant.read ms more many is fits h in
          let here = subst (λ list. AreLines (memories_before c.args.name.now list more) c.loop-at.lines.rest.now) (drop_more ms i no_memory low) so_far.1 in
          let read = c.in_ok-words.ensures (memory_words c.args.name.now (get_or ms i no_memory)) (memories_before c.args.name.now (drop (i + 1) ms) more) here in
          let same = c.in_ok-memory.ensures.all (get_or ms i no_memory) (each-at (IsMemoryAt c.args.clock) ms i no_memory low is) (each-at FitsMemory ms i no_memory low fits)
          (ap (map (λ word. word.now)) c.deref.ensures.value ∙ read.0) in
          (items ∙ ap₂ (λ xs x. xs ++ x ∷ []) so_far.0 same ∙ sym (take_more ms i no_memory low), read.1);
    }

pub returns-clause-all : goal.returns-clause-all
returns-clause-all c ms more many is fits h =
    let i = c.loop-at._at in
    let so_far = c.loop-at.invariant.read ms more many is fits h in (
      so_far.0 ∙ take_all i ms (omega (arith, many, c.loop-at-test.false)),
      subst (λ list. AreLines (memories_before c.args.name.now list more) c.loop-at.lines.rest.now) (drop_all i ms (omega (arith, many, c.loop-at-test.false))) so_far.1,
    )
