-- The params that a set holds of a kind that a policy names.
use Rattle.std.proofs.Common.{List, [], ◌∷◌, Option, Some, None, refl, ap, ◌∙◌, cond}
use Rattle.std.specs.List.{AllByRecursion, flat_map}
use Rattle.base_containers.specs.declared.text.Keyed.{Keyed}
use Rattle.vap_read_objects.specs.Cluster.{Cluster}
use Rattle.vap_read_objects.specs.Listed.{kinds_in, policies_in}
use Rattle.vap_read.specs.declared.policy.ParamKind.{ParamKind}
use Rattle.vap_read.specs.declared.policy.Policy.{Policy}
use Rattle.vap_read_objects.specs.Fitted.{kind_in, kinds_named, params_of}
use Rattle.vap_read_objects.proofs.ParamTable.{IsNamed, all_found, among_once, each_named}
use Rattle.vap_policy_set.specs.Ready.{HasItsParams}
use Rattle.vap_policy_set.specs.Sets.{holdings_of}
use Rattle.vap_policy_set.specs.declared.choice.Choice.{Choice}

held : (c : Cluster) (choice : Choice) (o : Option ParamKind) → IsNamed (flat_map kind_in (policies_in c.objects)) o
    → HasItsParams (holdings_of c choice) o
unfolding holdings_of
held c choice None named = record { source = record { objects = c; is = refl }; are = refl }
held c choice (Some k) named = record {
  source = record { objects = c; is = refl };
  are =
      all_found (kinds_in c.objects) c k (kinds_named (policies_in c.objects))
      ∙ ap (λ b. cond b (params_of (kinds_in c.objects) c (Some k)) None)
      (among_once k (flat_map kind_in (policies_in c.objects)) named);
}

-- the set of objects holds the params of each of its policies
pub each_held : (c : Cluster) (choice : Choice)
    → AllByRecursion (λ (p : Keyed Policy). HasItsParams (holdings_of c choice) p.value.spec.param_kind) (policies_in c.objects)
each_held c choice = over (policies_in c.objects) (each_named all (policies_in c.objects) (λ k h. h))
  where
    all : List ParamKind
    all = flat_map kind_in (policies_in c.objects)

    over : (ps : List (Keyed Policy)) → AllByRecursion (λ (p : Keyed Policy). IsNamed all p.value.spec.param_kind) ps
        → AllByRecursion (λ (p : Keyed Policy). HasItsParams (holdings_of c choice) p.value.spec.param_kind) ps
    over [] named = tt
    over (p ∷ ps) named = (held c choice p.value.spec.param_kind named.0, over ps named.1)
