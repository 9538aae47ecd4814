-- The verdict of a set on a request (Kubernetes, "Validating Admission Policy").
use Rattle.std.specs.Prelude.{ℕ, Bool, if◌then◌else◌, codes, List, [], ◌∷◌, map, filter}
use Rattle.std.specs.Prelude.{Option, Some, None, Result, Ok, Err}
use Rattle.std.specs.List.{flat_map}
use Rattle.base_containers.specs.declared.text.Keyed.{Keyed}
use Rattle.cel_value.specs.declared.cel_type.CelType.{CelType}
use Rattle.cel_value.specs.declared.value.Value as value
use Rattle.cel_value.specs.declared.value.Value.{Value}
use Rattle.vap_policy_verdict.specs.Verdicts as answers
use Rattle.vap_policy_verdict.specs.declared.verdict.Verdict.{Verdict}
use Rattle.vap_read.specs.declared.binding.Binding.{Binding}
use Rattle.vap_read.specs.declared.binding.NotFoundAction.{NotFoundAction}
use Rattle.vap_read.specs.declared.binding.NotFoundAction.TheVariants.{Allow, Deny}
use Rattle.vap_read.specs.declared.binding.ParamRef.{ParamRef}
use Rattle.vap_schema.specs.FitNames.{fit_fault_text}
use Rattle.vap_schema.specs.Seen.{seen}
use Rattle.vap_schema.specs.declared.fit_fault.FitFault.{FitFault}
use Rattle.vap_read_objects.specs.declared.kind.Kind.{Kind}
use Rattle.vap_match.specs.Choose.{matches}
use Rattle.vap_match.specs.declared.rules.Rules.{Rules}
use Rattle.vap_read_objects.specs.Cluster.{Cluster}
use Rattle.vap_read_objects.specs.OfKind.{labels_in}
use Rattle.vap_policy_programs.specs.Names.{pair_fault_name}
use Rattle.vap_policy_programs.specs.declared.programs.Pair.{Pair}
use Rattle.vap_policy_programs.specs.declared.programs.Pair.TheVariants.{Runs, Misconfigured}
use Rattle.vap_policy_programs.specs.declared.programs.Programs.{Programs}
use Rattle.vap_read.specs.declared.object.Object.{Object}
use Rattle.vap_match.specs.declared.request.Admission.{Admission}
use Rattle.vap_match.specs.declared.request.Request.{Request}
use Rattle.vap_read_objects.specs.Fitted.{Fitted}
use Rattle.vap_policy_set.specs.Ready.{type_at}
use Rattle.vap_policy_set.specs.Sets as sets
use Rattle.vap_policy_set.specs.Sets.{kinds_of, namespace_in, pair_in, params_in, policies_of}
use Rattle.vap_policy_set.specs.declared.bound.BoundPolicy.{BoundPolicy}
use Rattle.vap_policy_set.specs.declared.choice.Choice.{Choice as ChoiceOf}
use Rattle.vap_policy_programs.specs.Held.{held_at, slots_of}
use Rattle.vap_policy_programs.specs.declared.held.Held.{Held}
use Rattle.vap_policy.specs.Evaluations.{Evaluation, Ran, Failed, Rule, Findings, budget, budgeted, found_by, misconfigured}
use Rattle.vap_policy.specs.Params.{Place, is_param, place_of}
use Rattle.vap_policy.specs.Places.{is_exempt, kind_at}

-- ---- sets, as what they hold

-- the texts that are taken as no patterns
abbrev pub Choice : Type 0
Choice = ChoiceOf

-- the choice that refuses nothing
abbrev pub no_choice : Choice
no_choice = sets.no_choice

-- what a set holds
abbrev pub Holdings : Type 0
Holdings = sets.Holdings

-- what the set of objects holds by a choice
abbrev pub holdings_of : Cluster → Choice → Holdings
holdings_of = sets.holdings_of

-- the choice of a set
abbrev pub choice_in : Holdings → Choice
choice_in = sets.choice_in

-- what is judged: a request at a set, and what its names hold, apart from `params`
pub record Case : Type 0 where
  pub set : Holdings
  pub request : Admission
  pub kind : Option Kind
  pub held : Held

-- what is judged at a set, of a kind, if the names hold these
abbrev pub case_with : Holdings → Admission → Option Kind → Held → Case
case_with h r k held = record { set = h; request = r; kind = k; held = held }

-- ---- the params of a binding

-- at a param that is seen at its type; one that does not fit it is a failure
abbrev pub at_seen : Case → Rule → Programs → Result Value FitFault → Evaluation
at_seen c w ps (Ok v) = Ran w ps (slots_of c.held v)
at_seen c w ps (Err fault) = Failed w (fit_fault_text fault)

-- at a param
unfoldable pub at_param : Case → Rule → Programs → CelType → Object → Evaluation
at_param c w ps t o = at_seen c w ps (seen (codes "params") t o.document)

-- if there are no params, the binding passes, or it fails
abbrev pub at_none : Rule → NotFoundAction → List Evaluation
at_none w Allow = []
at_none w Deny = Failed w (codes "no params found") ∷ []

-- at each param
abbrev pub at_each : Case → Rule → Programs → CelType → NotFoundAction → List Object → List Evaluation
at_each c w ps t action [] = at_none w action
at_each c w ps t action (o ∷ os) = map (at_param c w ps t) (o ∷ os)

-- at those of the objects of a kind that are the params in a place
abbrev pub in_place : Case → Rule → Programs → Fitted → ParamRef → Option Place → List Evaluation
in_place c w ps q p None = Failed w (codes "bad param namespace") ∷ []
in_place c w ps q p (Some place) = at_each c w ps q.cel_type p.parameter_not_found_action (filter (is_param place p) q.objects)

-- at all params, which are null if the policy has no kind of params, or the binding names none
abbrev pub at_params : Case → Rule → Programs → Option Fitted → Option ParamRef → List Evaluation
at_params c w ps (Some q) (Some p) = in_place c w ps q p (place_of q.namespaced p.namespace c.request.namespace)
at_params c w ps (Some q) None = Ran w ps (slots_of c.held value.Null) ∷ []
at_params c w ps None p = Ran w ps (slots_of c.held value.Null) ∷ []

-- ---- policies and bindings

-- of what a policy is at the kind of the request: one that is misconfigured fails
abbrev pub of_pair : Case → Rule → Option Pair → Option Fitted → Option ParamRef → List Evaluation
of_pair c w None q p = []
of_pair c w (Some (Misconfigured fault)) q p = Failed w (misconfigured (pair_fault_name fault)) ∷ []
of_pair c w (Some (Runs ps)) q p = at_params c w ps q p

-- under which names a policy is judged, and what becomes of a failure
abbrev pub rule_of : BoundPolicy → Keyed Binding → Rule
rule_of p b = record {
  policy = p.name;
  binding = b.key;
  actions = b.value.spec.validation_actions;
  failure_policy = p.policy.spec.failure_policy;
}

-- of a policy under a binding
unfoldable pub of_binding : Case → BoundPolicy → Keyed Binding → List Evaluation
of_binding c p b =
    of_pair c (rule_of p b) (pair_in p c.kind) (params_in c.set p.policy.spec.param_kind) b.value.spec.param_ref

-- rules match the request
abbrev pub is_matched : Case → Rules → Bool
is_matched c rules = matches rules c.request (labels_in (namespace_in c.request.namespace c.set))

-- a binding matches, and so does a policy
abbrev pub binding_matches : Case → Keyed Binding → Bool
binding_matches c b = is_matched c b.value.spec.match_resources

abbrev pub policy_matches : Case → BoundPolicy → Bool
policy_matches c p = is_matched c p.policy.spec.match_constraints

-- of a policy, under each of its bindings that match
unfoldable pub of_policy : Case → BoundPolicy → List Evaluation
of_policy c p = flat_map (of_binding c p) (filter (binding_matches c) p.bindings)

-- of each of these policies that match
abbrev pub of_policies : Case → List BoundPolicy → List Evaluation
of_policies c ps = flat_map (of_policy c) (filter (policy_matches c) ps)

-- all evaluations that are asked for, in their order
abbrev pub asked_of : Case → List Evaluation
asked_of c = of_policies c (policies_of c.set)

-- all evaluations, within the budget of a request
abbrev pub evaluations_of : Case → List Evaluation
evaluations_of c = budgeted budget (asked_of c)

-- ---- the verdict

-- the verdict of what is found at a revision
abbrev pub verdict_by : ℕ → Findings → Verdict
verdict_by revision found = answers.verdict_of found.failures found.notes revision found.charged

-- the verdict if the names hold these, or if the object has a fault
abbrev pub verdict_with : Holdings → Admission → Option Kind → Result Held FitFault → Verdict
verdict_with h r k (Err fault) = answers.unfit_verdict (fit_fault_text fault) h.events
verdict_with h r k (Ok held) = verdict_by h.events (found_by (evaluations_of (case_with h r k held)))

-- the verdict on a request of a kind, if it is known
abbrev pub verdict_at : Holdings → Admission → Option Kind → Verdict
verdict_at h r k = verdict_with h r k (held_at (namespace_in r.namespace h) (type_at k) r)

-- the verdict on what is asked
abbrev pub verdict_on : Holdings → Admission → Verdict
verdict_on h r = if is_exempt r.resource then verdict_by h.events (found_by []) else verdict_at h r (kind_at (kinds_of h) r)

-- the verdict on a request
unfoldable pub verdict_of : Holdings → Request → Verdict
verdict_of h request = verdict_on h request.admission
