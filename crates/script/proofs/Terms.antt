-- Tests of the terms of a query.
use Rattle.query.proofs.Terms.{list_any-map}

-- a test of each term, as the definitions have them
pub ruleset over_terms = (list_any-map)
