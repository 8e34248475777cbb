-- The lines of a text, and what is marked of them.
use Rattle.std.specs.Prelude.{ℕ, ◌≡◌, ◌≢◌, ◌≤◌, ◌<◌, ◌+◌, ◌-◌, ◌==◌, ◌⊎◌, List, length, take, drop, slice_index, min}
use Rattle.std.specs.List.{count_by}
use Rattle.text_marks.specs.declared.lines.Line.{Line}
use Rattle.text_marks.specs.declared.marks.Mark.{Mark}
use Rattle.text_marks.specs.declared.marks.Span.{Span}

-- ---- lines

-- how many line feeds stand before a place
abbrev pub breaks_before : List ℕ → ℕ → ℕ
breaks_before text place = count_by (λ b. b == 10) (take place text)

-- a line begins there: the text does, or a line feed stands before it
abbrev pub BeginsLine : List ℕ → ℕ → Type 0
BeginsLine text start = (start ≡ 0) ⊎ (slice_index text (start - 1) ≡ 10)

-- a line ends there: the text does, or a line feed stands there
abbrev pub EndsLine : List ℕ → ℕ → Type 0
EndsLine text end = (end ≡ length text) ⊎ (slice_index text end ≡ 10)

-- it is a line of the text: its bytes stand there, no line feed is among them, a line begins and ends there, and its number is 1 and the line feeds before it
pub record IsLine (text : List ℕ) (line : Line) : Type 0 where
  pub there : line.bytes.now ≡ take (length line.bytes.now) (drop line.start text)
  pub within : line.start + length line.bytes.now ≤ length text
  pub unbroken : (k : ℕ) → line.start ≤ k → k < line.start + length line.bytes.now → slice_index text k ≢ 10
  pub begins : BeginsLine text line.start
  pub ends : EndsLine text (line.start + length line.bytes.now)
  pub numbered : line.number ≡ breaks_before text line.start + 1

-- ---- marks

-- it marks a span of the text: on the line where that begins, from there to its end, or to the line's
pub record IsMark (text : List ℕ) (span : Span) (mark : Mark) : Type 0 where
  pub line : IsLine text mark.line
  pub begins : mark.line.start + mark.from ≡ span.start
  pub ordered : mark.from ≤ mark.to
  pub ends : mark.to ≡ min (span.end - mark.line.start) (length mark.line.bytes.now)

-- the bytes of a span are these
abbrev pub Spells : List ℕ → Span → List ℕ → Type 0
Spells text span word = (span.end ≤ length text) × (span.start + length word ≡ span.end) × (take (length word) (drop span.start text) ≡ word)
