use Rattle.std.proofs.Common.{◌≡◌, ◌++◌, List, drop, map, take}
use Rattle.std.specs.Option.{option_copied}
use Rattle.base_containers.specs.declared.text.Keyed.{Keyed}
use Rattle.vap_read.specs.declared.binding.Binding.{Binding}
use Rattle.vap_read_objects.specs.declared.kind.Kind.{Kind}
use Rattle.vap_policy_set.specs.Changed.{KeepOthers}
use Rattle.vap_policy_set.specs.Still.{AreBound, AreOldOf}
use Rattle.vap_policy_set.specs.declared.choice.Choice.{Choice}
use Rattle.vap_policy_set.proofs.policies.read_policies.Given as goal

-- the policies so far with those that are left are all
abbrev pub invariant-loop-policy : goal.invariant-loop-policy
invariant-loop-policy l = record {
  whole : l.all.items ++ drop l.policy-index l.policies ≡ l.policies;
  part : (choice : Choice) (kinds : List Kind) (bindings : List (Keyed Binding)) → AreBound choice kinds bindings l.kept.policies.now
      → AreBound choice kinds bindings l.rest;
  others : KeepOthers l.kept.changed.now (drop l.policy-index l.policies) l.rest;
  old : AreOldOf l.kept.policies.now (take l.policy-index l.policies) (map option_copied l.old.items);
}
