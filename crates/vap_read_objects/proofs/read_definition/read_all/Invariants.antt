use Rattle.std.proofs.Common.{◌≡◌, ◌++◌, drop}
use Rattle.vap_read_objects.proofs.read_definition.read_all.Given as goal

-- the definitions so far with those that are left are all
abbrev pub invariant-loop-definition : goal.invariant-loop-definition
invariant-loop-definition l = l.all.items ++ drop l.definition-index l.definitions ≡ l.definitions
