use Rattle.std.proofs.Common.{◌≡◌, ◌++◌, drop}
use Rattle.std.specs.List.{flat_map}
use Rattle.vap_policy_set.specs.Patterns.{of_named}
use Rattle.vap_policy_set.proofs.texts.gather_named.Given as goal

abbrev pub invariant-loop-named : goal.invariant-loop-named
invariant-loop-named l =
    l.texts.items ++ flat_map of_named (drop l.named-index l.expressions)
    ≡ l.initial.texts.items ++ flat_map of_named l.expressions
