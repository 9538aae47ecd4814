-- No policy that matches a request is passed over.
use Rattle.std.specs.Prelude.{◌≡◌, true}
use Rattle.std.specs.List.{All}
use Rattle.vap_match.specs.Choose.{matches}
use Rattle.vap_read_objects.specs.OfKind.{labels_in}
use Rattle.vap_match.specs.declared.request.Admission.{Admission}
use Rattle.vap_policy_set.specs.Sets.{Holdings, kinds_of, namespace_in, pair_in, policies_of}
use Rattle.vap_policy_set.specs.Whole.{IsSomething}
use Rattle.vap_policy_set.specs.declared.bound.BoundPolicy.{BoundPolicy}
use Rattle.vap_policy.specs.Places.{kind_at}

-- a policy that matches a request is something at the request's kind
abbrev pub IsNotPassedOver : Holdings → Admission → BoundPolicy → Type 0
IsNotPassedOver h r p =
    matches p.policy.spec.match_constraints r (labels_in (namespace_in r.namespace h)) ≡ true
    → IsSomething (kinds_of h) p.policy.spec.param_kind (pair_in p (kind_at (kinds_of h) r))

-- so is each policy of a set
abbrev pub NoneIsPassedOver : Holdings → Admission → Type 0
NoneIsPassedOver h r = All (IsNotPassedOver h r) (policies_of h)
