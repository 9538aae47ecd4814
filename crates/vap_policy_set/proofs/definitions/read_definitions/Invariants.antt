use Rattle.std.proofs.Common.{◌≡◌, ◌++◌, drop}
use Rattle.vap_policy_set.proofs.definitions.read_definitions.Given as goal

-- the definitions so far with those that are left are all
abbrev pub invariant-loop-definition : goal.invariant-loop-definition
invariant-loop-definition l = l.read.items ++ drop l.definition-index l.definitions ≡ l.definitions
