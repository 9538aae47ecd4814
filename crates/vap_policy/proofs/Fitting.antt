-- What the names of a case hold is of their types.
use Rattle.std.proofs.Common.{◌≡◌, Bool, true, List, [], ◌∷◌, Option, Some, None, Ok, refl, sym, ap, ◌∙◌, subst, rules, tests}
use Rattle.std.proofs.Common.{option_and_then, option_map}
use Rattle.cel_operators.specs.Outcomes.{Outcome, outcome_fits, slots_fit}
use Rattle.cel_value.specs.CelType.{fits}
use Rattle.cel_value.specs.declared.cel_type.CelType as type
use Rattle.cel_value.specs.declared.cel_type.CelType.{CelType}
use Rattle.cel_value.specs.declared.value.Value as value
use Rattle.cel_value.specs.declared.value.Value.{Value}
use Rattle.vap_read.specs.declared.policy.ParamKind.{ParamKind}
use Rattle.vap_policy_programs.specs.Scopes.{first_names, type_of_params}
use Rattle.vap_policy_programs.specs.Ready.{IsReady}
use Rattle.vap_policy_programs.specs.declared.names.KindTypes.{KindTypes}
use Rattle.vap_policy_programs.specs.declared.names.ParamsType.{ParamsType}
use Rattle.vap_policy_programs.specs.declared.programs.Pair.TheVariants.{Runs}
use Rattle.vap_policy_programs.specs.declared.programs.Programs.{Programs}
use Rattle.cel_check.specs.Typing.{types_in}
use Rattle.vap_read_objects.specs.declared.kind.Kind.{Kind}
use Rattle.vap_read_objects.specs.Cluster.{Cluster}
use Rattle.vap_read_objects.specs.Fitted.{Fitted, fitted_at, fitted_to, params_of}
use Rattle.vap_read_objects.specs.Naming.{kind_of_params}
use Rattle.vap_policy_set.specs.Kinds.{params_by, params_type, types_at}
use Rattle.vap_policy_set.specs.Ready.{IsReadyAt, IsReadyBy, type_at}
use Rattle.vap_policy_set.specs.Sets.{kinds_of, pair_in, params_in}
use Rattle.vap_policy_set.specs.declared.bound.BoundPolicy.{BoundPolicy}
use Rattle.vap_policy_programs.specs.Held.{IsHeldAt, slots_of}
use Rattle.vap_policy_programs.specs.declared.held.Held.{Held}
use Rattle.vap_policy.specs.Judging.{Case}
use Rattle.vap_policy.specs.Ready.{CanRun, kept_params, types_of}

null_fits : (q : Option Fitted) → fits value.Null (type_of_params (kept_params q)) ≡ true
null_fits None = search (rules, tests, type.the_lemmas, value.the_lemmas)
null_fits (Some q) = search (rules, tests, type.the_lemmas, value.the_lemmas)

five_fit : (a b c d e : CelType) (v w x y z : Outcome) → outcome_fits a (Some v) ≡ true → outcome_fits b (Some w) ≡ true
    → outcome_fits c (Some x) ≡ true → outcome_fits d (Some y) ≡ true → outcome_fits e (Some z) ≡ true
    → slots_fit (a ∷ b ∷ c ∷ d ∷ e ∷ []) (v ∷ w ∷ x ∷ y ∷ z ∷ []) ≡ true
five_fit a b c d e v w x y z one two three four five = rw one (rw two (rw three (rw four (rw five refl))))

-- what all names hold, if `params` holds a value of its type
pub slots_right : (t : CelType) (params : ParamsType) (h : Held) (v : Value) → IsHeldAt t h → fits v (type_of_params params) ≡ true
    → slots_fit (types_in (first_names (types_at t) params)) (slots_of h v) ≡ true
unfolding first_names
slots_right t params h v held fit =
    five_fit _ _ _ _ _ (Ok h.object) h.old_object (Ok h.request) (Ok v) (Ok h.namespace)
    held.object held.old_object held.request fit held.namespace

-- the type of params by their kind is that of the params that are kept
kept_type : (kinds : List Kind) (objects : Cluster) (k : Option ParamKind)
    → type_of_params (kept_params (params_of kinds objects k)) ≡ type_of_params (params_type kinds k)
kept_type kinds objects None = refl
kept_type kinds objects (Some k) = at (kind_of_params kinds k)
  where
    typed : (n : Bool) (t : Option CelType)
        → type_of_params (kept_params (option_map (fitted_to objects k n) t)) ≡ type_of_params (params_by t)
    typed n None = refl
    typed n (Some t) = refl

    at : (known : Option Kind) → type_of_params (kept_params (option_and_then (fitted_at objects k) known))
        ≡ type_of_params (params_by (option_and_then (λ kind. kind.object_type) known))
    at None = refl
    at (Some kind) = typed kind.namespaced kind.object_type

names_alike : (types : KindTypes) (a b : ParamsType) → type_of_params a ≡ type_of_params b → first_names types a ≡ first_names types b
unfolding first_names
names_alike types a b same = rw same refl

-- what runs at the kind of a case can be run there, at the params of its policy
pub can_run : (c : Case) (p : BoundPolicy) (ps : Programs) → pair_in p c.kind ≡ Some (Runs ps)
    → IsHeldAt (type_at c.kind) c.held → IsReadyAt c.set c.kind p
    → CanRun c (params_in c.set p.policy.spec.param_kind) (types_of c (params_in c.set p.policy.spec.param_kind)) ps
can_run c p ps e held ready =
    let kind : Option ParamKind = p.policy.spec.param_kind in
    let kept : ParamsType = kept_params (params_in c.set kind) in
    let params : ParamsType = params_type (kinds_of c.set) kind in
    let there : IsReadyBy (types_at (type_at c.kind)) params (Some (Runs ps)) =
    subst (IsReadyBy (types_at (type_at c.kind)) params) e ready.runs in
    let same : type_of_params kept ≡ type_of_params params =
    ap (λ (q : Option Fitted). type_of_params (kept_params q)) ready.params.are
    ∙ kept_type (kinds_of c.set) ready.params.source.objects kind in
    let names = names_alike (types_at (type_at c.kind)) kept params same in
    record {
      ready = subst (λ n. IsReady (types_in n) ps) (sym names) there.0;
      within = there.1;
      fit = λ v fit. slots_right (type_at c.kind) kept c.held v held fit;
    }

-- null is of the type of params, whatever they are
pub null_runs : (c : Case) (q : Option Fitted) (types : List CelType) (ps : Programs) → CanRun c q types ps
    → slots_fit types (slots_of c.held value.Null) ≡ true
null_runs c q types ps ready = ready.fit value.Null (null_fits q)
