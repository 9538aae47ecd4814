-- Whether a request needs a pattern: a policy runs there that gives `matches` a literal text.
use Rattle.std.specs.Prelude.{◌≡◌, ◌⊎◌, false, List, [], ◌∷◌, Option, Ok}
use Rattle.vap_policy_evaluation.specs.PolicyPatterns.{PolicyMayMatch}
use Rattle.vap_read_objects.specs.declared.kind.Kind.{Kind}
use Rattle.vap_match.specs.declared.request.Admission.{Admission}
use Rattle.vap_policy_set.specs.Ready.{type_at}
use Rattle.vap_policy_set.specs.Sets.{kinds_of, namespace_in}
use Rattle.vap_policy_programs.specs.Held.{held_at}
use Rattle.vap_policy_programs.specs.declared.held.Held.{Held}
use Rattle.vap_policy.specs.Evaluations.{Evaluation, Ran, Failed}
use Rattle.vap_policy.specs.Judging.{Holdings, case_with, evaluations_of}
use Rattle.vap_policy.specs.Places.{is_exempt, kind_at}

-- an evaluation looks for a pattern: it runs a policy, and one of the policy's expressions gives `matches` a literal text
abbrev pub EvaluationMayMatch : Evaluation → Type 0
EvaluationMayMatch (Ran w ps slots) = PolicyMayMatch ps
EvaluationMayMatch (Failed w message) = ⊥

-- one of these does
abbrev pub OneMayMatch : List Evaluation → Type 0
OneMayMatch [] = ⊥
OneMayMatch (e ∷ es) = EvaluationMayMatch e ⊎ OneMayMatch es

-- the object of a request of a kind, if it is known, is of the kind's type, and an evaluation looks for a pattern
pub record KindMayMatch (h : Holdings) (r : Admission) (k : Option Kind) : Type 0 where
  pub held : Held
  pub fits : held_at (namespace_in r.namespace h) (type_at k) r ≡ Ok held
  pub one : OneMayMatch (evaluations_of (case_with h r k held))

-- a set looks for a pattern at a request: the request is judged, and an evaluation looks for one
pub record MayMatch (h : Holdings) (r : Admission) : Type 0 where
  pub judged : is_exempt r.resource ≡ false
  pub one : KindMayMatch h r (kind_at (kinds_of h) r)
