use Rattle.std.proofs.Common.{ℕ, ◌≡◌, get_or, inl, inr, refl, sym, ap, ◌∙◌, arith}
use Rattle.std.proofs.lemmas.Bool.{false≢true, cases_lt}
use Rattle.std.proofs.lemmas.Bool.Decides.{Decides-eqb}
use Rattle.std.proofs.lemmas.Slice.Eq.{slice_eq-Decides}
use Rattle.kinds.specs.declared.res.Res.{Res}
use Rattle.kinds.specs.declared.res.Res.TheVariants.{Round}
use Rattle.kinds.specs.Res.{res_number, res_name, every_res}
use Rattle.kinds.proofs.Names.{res_numbers_apart, res_names_apart, listed_number}
use Rattle.kinds.proofs.Numbers.{res_below}
use Rattle.kinds.proofs.res.Res.named.Goals as goal

pub returns-then-eq : goal.returns-then-eq
returns-then-eq c =
    let here : Res = get_or every_res c.loop-res.res-index Round in
    let same : c.args.word.now ≡ res_name here = sym ((slice_eq-Decides Decides-eqb c.name.result.now c.args.word.now c.eq.result c.eq.ensures).0 c.if-eq.true) ∙ c.name.ensures in
    (same, λ other named. res_names_apart other here (sym named ∙ same))

pub loop-res-preserved : goal.loop-res-preserved
loop-res-preserved c = λ k low named.
    let i : ℕ = c.loop-res.res-index in
    let here : res_number (get_or every_res i Round) ≡ i = omega (arith, listed_number res_number every_res 0 8 i Round refl c.loop-res-test.true) in
    elim (cases_lt (res_number k) i) [
      | inl less ↦ c.loop-res.invariant k less named
      | inr more ↦
          let same : k ≡ get_or every_res i Round = res_numbers_apart k (get_or every_res i Round) (omega arith) in
          let now : c.args.word.now ≡ res_name (get_or every_res i Round) = named ∙ ap res_name same in
          false≢true (sym c.if-eq.false ∙ (slice_eq-Decides Decides-eqb c.name.result.now c.args.word.now c.eq.result c.eq.ensures).1 (c.name.ensures ∙ sym now))
    ]

pub returns : goal.returns
returns c = λ k named. let below = res_below k in c.loop-res.invariant k (omega arith) named
