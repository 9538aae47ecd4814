use Rattle.std.proofs.Common.{◌≡◌, drop}
use Rattle.std.specs.List.{flat_map}
use Rattle.vap_read_objects.specs.Fitted.{and_others, kind_in, kinds_named}
use Rattle.vap_read_objects.proofs.named.kinds_named.Given as goal

-- the kinds so far, with the others that the rest names, are all
abbrev pub invariant-loop-policy : goal.invariant-loop-policy
invariant-loop-policy l = and_others l.kinds.items (flat_map kind_in (drop l.policy-index l.policies)) ≡ kinds_named l.policies
