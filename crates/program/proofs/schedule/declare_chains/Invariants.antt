use Rattle.std.proofs.Common.{◌≡◌, ◌++◌, map, take}
use Rattle.program.specs.Said.{chain_said}
use Rattle.program.proofs.schedule.declare_chains.Given as goal

-- the chains so far after the others
abbrev pub invariant-loop-chain : goal.invariant-loop-chain
invariant-loop-chain l = l.desc ≡ record l.fn.desc { chains = l.fn.desc.chains ++ map chain_said (take l.chain-index l.chains) }
