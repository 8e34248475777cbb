use Rattle.std.proofs.Common.{ℕ, ◌≡◌, List, get_or, inl, inr, sym, ap, ◌∙◌, arith}
use Rattle.std.proofs.lemmas.Bool.{false≢true, cases_lt}
use Rattle.std.proofs.lemmas.Bool.Decides.{Decides-eqb}
use Rattle.std.proofs.lemmas.Slice.Eq.{slice_eq-Decides}
use Rattle.kinds.specs.declared.kind.Kind.{Kind}
use Rattle.kinds.specs.declared.kind.Kind.TheVariants.{Position}
use Rattle.kinds.specs.Kind.{kind_count, kind_number, kind_name}
use Rattle.kinds.proofs.Names.{numbers_apart, names_apart, listed_number, listed_many}
use Rattle.kinds.proofs.Numbers.{number_below}
use Rattle.kinds.proofs.kind.Kind.named.Goals as goal

pub returns-then-eq : goal.returns-then-eq
returns-then-eq c =
    let kind : Kind = get_or c.every-kind-items.result.now c.loop-kind.kind-index Position in
    let same : c.args.word.now ≡ kind_name kind = sym ((slice_eq-Decides Decides-eqb c.name.result.now c.args.word.now c.eq.result c.eq.ensures).0 c.if-eq.true) ∙ c.name.ensures in
    (same, λ other named. names_apart other kind (sym named ∙ same))

pub loop-kind-preserved : goal.loop-kind-preserved
loop-kind-preserved c = λ k low named.
    let kinds : List Kind = c.every-kind-items.result.now in
    let i : ℕ = c.loop-kind.kind-index in
    let here : kind_number (get_or kinds i Position) ≡ i = omega (arith, listed_number kind_number kinds 0 kind_count i Position c.every-kind-items.ensures c.loop-kind-test.true) in
    elim (cases_lt (kind_number k) i) [
      | inl less ↦ c.loop-kind.invariant k less named
      | inr more ↦
          let same : k ≡ get_or kinds i Position = numbers_apart k (get_or kinds i Position) (omega arith) in
          let now : c.args.word.now ≡ kind_name (get_or kinds i Position) = named ∙ ap kind_name same in
          false≢true (sym c.if-eq.false ∙ (slice_eq-Decides Decides-eqb c.name.result.now c.args.word.now c.eq.result c.eq.ensures).1 (c.name.ensures ∙ sym now))
    ]

pub returns : goal.returns
returns c = λ kind named.
    let below = number_below kind in
    c.loop-kind.invariant kind (omega (arith, listed_many kind_number c.every-kind-items.result.now 0 kind_count c.every-kind-items.ensures)) named
