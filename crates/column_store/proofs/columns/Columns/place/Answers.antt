use Rattle.column_store.proofs.Common.{List, map, MatchOption, subst, kind_number, Kind, IsNoKind, IsKindPlaced}
use Rattle.column_store.proofs.Found.{kind-answer}
use Rattle.column_store.proofs.columns.Columns.place.Goals as goal

pub returns : goal.returns
returns c =
    let kinds = c.args.self.now.kinds.items in
    subst (λ n. MatchOption c.column_in.result (IsNoKind (map kind_number kinds) n) (IsKindPlaced (map kind_number kinds) n)) c.number.ensures
    (subst (λ (ks : List Kind). MatchOption c.column_in.result (IsNoKind (map kind_number ks) c.number.result) (IsKindPlaced (map kind_number ks) c.number.result)) c.deref.ensures.value
    (kind-answer c.deref.result.now c.number.result c.column_in.result c.column_in.ensures))
