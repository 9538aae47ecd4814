use Rattle.std.proofs.Common.{◌≡◌, ◌++◌, drop, filter, take}
use Rattle.std.specs.List.{All}
use Rattle.vap_policy_set.specs.Index.{IsEntryOf, entry_places}
use Rattle.vap_policy_set.specs.PolicyCovering.{is_wide}
use Rattle.vap_policy_set.proofs.index.found_at.Given as goal

-- each entry has the policies so far that may cover its place, and the wide ones so far with those that are left are all
abbrev pub invariant-loop-policy : goal.invariant-loop-policy
invariant-loop-policy l = record {
  right : All (IsEntryOf (take l.policy-index l.policies)) l.entries.items;
  places : entry_places l.entries.items ≡ l.places;
  wide : l.wide.items ++ filter is_wide (drop l.policy-index l.policies) ≡ filter is_wide l.policies;
}
