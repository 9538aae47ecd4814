use Rattle.std.proofs.Common.{◌≡◌, ◌++◌, drop}
use Rattle.vap_policy_programs.proofs.names.copy_names.Given as goal

abbrev pub invariant-loop-name : goal.invariant-loop-name
invariant-loop-name l =
    l.copies.items ++ drop l.name-index l.names ≡ l.names
