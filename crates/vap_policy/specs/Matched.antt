-- Which policies match a request (Kubernetes, "Validating Admission Policy", matchConstraints).
use Rattle.std.specs.Prelude.{List, filter}
use Rattle.vap_match.specs.Choose.{matches}
use Rattle.vap_match.specs.Select.{Labels}
use Rattle.vap_match.specs.declared.request.Admission.{Admission}
use Rattle.vap_policy_set.specs.declared.bound.BoundPolicy.{BoundPolicy}

-- those of these policies that match a request, for whose namespace these labels are held
abbrev pub matched_by : Admission → Labels → List BoundPolicy → List BoundPolicy
matched_by r held ps = filter (λ p. matches p.policy.spec.match_constraints r held) ps
