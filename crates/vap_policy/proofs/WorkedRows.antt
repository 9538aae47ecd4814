-- Rows of what is judged, where params are looked for and what is said, worked by computing.
use Rattle.std.proofs.Common.{◌≡◌, true, false, [], Some, None, refl}
use Rattle.std.specs.Prelude.{codes}
use Rattle.vap_read.specs.declared.binding.NotFoundAction.TheVariants.{Deny}
use Rattle.vap_read.specs.declared.binding.ValidationActions.{ValidationActions}
use Rattle.vap_read.specs.declared.policy.FailurePolicy.TheVariants.{Ignore}
use Rattle.vap_policy.specs.Evaluations.{found_by}
use Rattle.vap_policy.specs.Judging.{at_none}
use Rattle.vap_policy.specs.Params.{Cluster, Namespace, place_of}
use Rattle.vap_policy.specs.Places.{is_exempt}

-- the namespace of the reference comes before the request's
given_first : place_of true (codes "a") (codes "b") ≡ Some (Namespace (codes "a"))
given_first = refl

requested_next : place_of true [] (codes "b") ≡ Some (Namespace (codes "b"))
requested_next = refl

-- a kind in namespaces has no params without a namespace, and a kind in none has none if one is given
none_given : place_of true [] [] ≡ None
none_given = refl

none_wanted : place_of false (codes "a") (codes "b") ≡ None
none_wanted = refl

whole_cluster : place_of false [] (codes "b") ≡ Some Cluster
whole_cluster = refl

-- under Ignore a binding without its params is passed over
passed_over : (actions : ValidationActions)
    → found_by (at_none (record { policy = codes "p"; binding = codes "b"; actions = actions; failure_policy = Ignore }) Deny) ≡ found_by []
passed_over actions = refl

-- policies and bindings are not judged, nor is what has their name in another group
bindings_exempt : is_exempt (record {
  group = codes "admissionregistration.k8s.io";
  version = codes "v1";
  resource = codes "validatingadmissionpolicybindings";
}) ≡ true
bindings_exempt = refl

others_judged : is_exempt (record { group = []; version = codes "v1"; resource = codes "validatingadmissionpolicies" }) ≡ false
others_judged = refl
