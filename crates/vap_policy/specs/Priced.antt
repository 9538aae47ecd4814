-- What the run of a policy at one param charges at most.
use Rattle.std.specs.Prelude.{◌≡◌, ◌≤◌, true, Option, Some, None}
use Rattle.std.specs.List.{All}
use Rattle.cel_value.specs.CelType.{fits}
use Rattle.cel_value.specs.declared.value.Value.{Value}
use Rattle.vap_policy_evaluation.specs.Found.{charge_of}
use Rattle.vap_read_objects.specs.declared.kind.Kind.{Kind}
use Rattle.vap_policy_programs.specs.Pairs.{most, price_of}
use Rattle.vap_policy_programs.specs.Scopes.{type_of_params}
use Rattle.vap_policy_programs.specs.declared.names.ParamsType.{ParamsType}
use Rattle.vap_policy_programs.specs.declared.programs.Pair.{Pair}
use Rattle.vap_policy_programs.specs.declared.programs.Pair.TheVariants.{Runs, Misconfigured}
use Rattle.vap_policy_set.specs.Kinds.{params_type}
use Rattle.vap_policy_set.specs.Ready.{type_at}
use Rattle.vap_policy_set.specs.Sets.{Holdings, kinds_of, pair_in, policies_of}
use Rattle.vap_policy_programs.specs.Held.{IsHeldAt, slots_of}
use Rattle.vap_policy_programs.specs.declared.held.Held.{Held}

-- what runs, if anything does, charges no more than its estimates together, which are no more than a policy may charge, whatever
-- value of its type `params` holds
abbrev pub IsPriced : Held → ParamsType → Option Pair → Type 0
IsPriced held params None = Unit {0}
IsPriced held params (Some (Misconfigured why)) = Unit {0}
IsPriced held params (Some (Runs ps)) =
    ((v : Value) → fits v (type_of_params params) ≡ true → charge_of ps (slots_of held v) ≤ price_of ps) × (price_of ps ≤ most)

-- so does each policy of a set at a kind, whatever the other names hold that is of their types there
abbrev pub ArePriced : Holdings → Option Kind → Type 0
ArePriced h k =
    (held : Held) → IsHeldAt (type_at k) held
    → All (λ p. IsPriced held (params_type (kinds_of h) p.policy.spec.param_kind) (pair_in p k)) (policies_of h)
