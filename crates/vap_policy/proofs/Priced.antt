-- What runs at a kind charges no more than its price.
use Rattle.std.proofs.Common.{Option, Some, None}
use Rattle.std.proofs.lemmas.List.Elements.{All-weaker}
use Rattle.cel_check.specs.Typing.{types_in}
use Rattle.vap_policy_evaluation.proofs.Charges.{charge_within_price}
use Rattle.vap_read_objects.specs.declared.kind.Kind.{Kind}
use Rattle.vap_policy_programs.proofs.Standing.{pair_ready, pair_within}
use Rattle.vap_policy_programs.specs.Scopes.{first_names}
use Rattle.vap_policy_programs.specs.declared.names.ParamsType.{ParamsType}
use Rattle.vap_policy_programs.specs.declared.programs.Pair.{Pair}
use Rattle.vap_policy_programs.specs.declared.programs.Pair.TheVariants.{Runs, Misconfigured}
use Rattle.vap_policy_set.proofs.Standing.{set_ready}
use Rattle.vap_policy_set.specs.Kinds.{params_type, types_at}
use Rattle.vap_policy_set.specs.Ready.{IsOneOf, IsReadyAt, IsReadyBy, type_at}
use Rattle.vap_policy_set.specs.Sets.{Holdings, IsOfObjects, kinds_of, pair_in, policies_of}
use Rattle.vap_policy_programs.specs.Held.{IsHeldAt, slots_of}
use Rattle.vap_policy_programs.specs.declared.held.Held.{Held}
use Rattle.vap_policy.proofs.Fitting.{slots_right}
use Rattle.vap_policy.specs.Priced.{ArePriced, IsPriced}

ready_priced : (k : Option Kind) (params : ParamsType) (held : Held) (pair : Option Pair) → IsHeldAt (type_at k) held
    → IsReadyBy (types_at (type_at k)) params pair → IsPriced held params pair
ready_priced k params held None is ready = tt
ready_priced k params held (Some (Misconfigured why)) is ready = tt
ready_priced k params held (Some (Runs ps)) is ready = (
  (λ v fit. charge_within_price (types_in (first_names (types_at (type_at k)) params)) ps (slots_of held v) ready.0
      (slots_right (type_at k) params held v is fit)),
  ready.1,
)

-- each policy of a set at one of its kinds
pub set_priced : (h : Holdings) → IsOfObjects h → (k : Option Kind) → IsOneOf (kinds_of h) k → ArePriced h k
set_priced h source k first held is =
    All-weaker (IsReadyAt h k) (λ p. IsPriced held (params_type (kinds_of h) p.policy.spec.param_kind) (pair_in p k))
    (λ p ready. ready_priced k (params_type (kinds_of h) p.policy.spec.param_kind) held (pair_in p k) is ready.runs)
    (policies_of h) (set_ready pair_ready pair_within h source k first)
