use Rattle.archetype_store.proofs.Common.{◌∷◌, sym, ap, subst, ◌∙◌, list_all, TableValue, is_owned, AreAllAlike}
use Rattle.archetype_store.proofs.ColumnStandings.{alike_self, owned_all}
use Rattle.archetype_store.proofs.owning.+own_each.Goals as goal

pub returns-in_err-own-clause-alike : goal.returns-in_err-own-clause-alike
returns-in_err-own-clause-alike t c =
    subst (λ ts. AreAllAlike ts (c.own.new.self ∷ c.in-Some.other_tables.now)) (sym c.in-Some.ensures.cases.0) (c.own.ensures.alike, alike_self c.in-Some.other_tables.now)

pub returns-in_ok-own_each-clause-ok : goal.returns-in_ok-own_each-clause-ok
returns-in_ok-own_each-clause-ok t c =
    (ap (λ (u : TableValue). list_all is_owned u.standings) c.in_ok-own.ensures.ok ∙ owned_all c.in-Some.table.now.standings, c.in_ok-own_each.ensures.ok)
