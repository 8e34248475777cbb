use Rattle.std.proofs.Common.{◌≡◌, ℕ, List, map, drop, length, string_bytes}
use Rattle.program.specs.Setup.{meanings_of_scripts}
use Rattle.ecsview.specs.Found.{AreRaces, races_line}
use Rattle.ecsview.proofs.found.witnesses_of.Given as goal

-- the pairs that are left, told behind those so far, make the text of all
abbrev pub invariant-loop-pair : goal.invariant-loop-pair
invariant-loop-pair l = record {
  meant : meanings_of_scripts l.built l.bodies ≡ meanings_of_scripts l.built l.fn.bodies;
  rest : (whole : List ℕ) → AreRaces l.built (meanings_of_scripts l.built l.fn.bodies) l.start.state l.start.number (map (λ name. name.now) l.names) (drop l.pair-index l.pairs) (string_bytes l.text) whole
      → AreRaces l.built (meanings_of_scripts l.built l.fn.bodies) l.start.state l.start.number (map (λ name. name.now) l.names) l.pairs (races_line (length l.pairs)) whole;
}
