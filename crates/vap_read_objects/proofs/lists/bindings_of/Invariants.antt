use Rattle.std.proofs.Common.{◌≡◌, ◌++◌, drop}
use Rattle.vap_read_objects.specs.Listed.{bindings_of}
use Rattle.vap_read_objects.proofs.lists.bindings_of.Given as goal

abbrev pub invariant-loop-binding : goal.invariant-loop-binding
invariant-loop-binding l =
    l.bound.items ++ bindings_of l.policy (drop l.binding-index l.bindings) ≡ bindings_of l.policy l.bindings
