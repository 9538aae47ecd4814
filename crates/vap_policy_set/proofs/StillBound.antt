-- Policies of a set that are still bound as they were.
use Rattle.std.proofs.Common.{◌≡◌, ◌<◌, ℕ, zero, suc, true, List, [], ◌∷◌, drop, get_or, length, map, refl, sym, ap, ◌∙◌, subst}
use Rattle.std.proofs.Common.{arith}
use Rattle.std.specs.List.{AllByRecursion}
use Rattle.std.proofs.lemmas.List.Elements.{All-from_recursion, recursion_from_All}
use Rattle.base_containers.specs.declared.text.Keyed.{Keyed}
use Rattle.vap_read.specs.declared.binding.Binding.{Binding}
use Rattle.vap_read_objects.specs.Definitions.{is_definition}
use Rattle.vap_read_objects.specs.declared.kind.Kind.{Kind}
use Rattle.vap_read_objects.specs.Classes.{all_miss, is_binding}
use Rattle.vap_read_objects.specs.Cluster.{Cluster}
use Rattle.vap_read_objects.specs.Listed.{bindings_in, kinds_in, policies_in}
use Rattle.vap_read_objects.proofs.Staying.{defined_kinds_stay, own_bindings_stay}
use Rattle.vap_read.specs.declared.policy.Policy.{Policy}
use Rattle.vap_read.specs.declared.event.Event.{Event}
use Rattle.vap_policy_set.specs.Reuse.{IsBefore}
use Rattle.vap_policy_set.specs.Sets.{Holdings, bound_of, holdings_of, policies_by}
use Rattle.vap_policy_set.specs.Still.{AreAt, AreBound, IsBound}
use Rattle.vap_policy_set.specs.declared.bound.BoundPolicy.{BoundPolicy}
use Rattle.vap_policy_set.specs.declared.choice.Choice.{Choice}
use Rattle.vap_policy_set.proofs.Standing.{bound_same}

each_bound : (choice : Choice) (kinds : List Kind) (bindings : List (Keyed Binding)) (ps : List (Keyed Policy))
    → AllByRecursion (IsBound choice kinds bindings) (map (bound_of choice kinds bindings) ps)
each_bound choice kinds bindings [] = tt
each_bound choice kinds bindings (p ∷ ps) = (refl, each_bound choice kinds bindings ps)

-- what policies are bound to is bound so
pub all_bound : (choice : Choice) (kinds : List Kind) (bindings : List (Keyed Binding)) (ps : List (Keyed Policy)) (bs : List BoundPolicy)
    → bs ≡ map (bound_of choice kinds bindings) ps → AreBound choice kinds bindings bs
all_bound choice kinds bindings ps bs is =
    subst (λ (xs : List BoundPolicy). AreBound choice kinds bindings xs) (sym is)
    (All-from_recursion (IsBound choice kinds bindings) (map (bound_of choice kinds bindings) ps) (each_bound choice kinds bindings ps))

-- so are those behind some of them
pub bound_behind : (choice : Choice) (kinds : List Kind) (bindings : List (Keyed Binding)) (bs : List BoundPolicy) (n : ℕ)
    → AreBound choice kinds bindings bs → AreBound choice kinds bindings (drop n bs)
bound_behind choice kinds bindings bs n all =
    All-from_recursion (IsBound choice kinds bindings) (drop n bs)
    (behind n bs (recursion_from_All (IsBound choice kinds bindings) bs all))
  where
    behind : (i : ℕ) (cs : List BoundPolicy) → AllByRecursion (IsBound choice kinds bindings) cs
        → AllByRecursion (IsBound choice kinds bindings) (drop i cs)
    behind zero cs each = each
    behind (suc i) [] each = tt
    behind (suc i) (c ∷ cs) each = behind i cs each.1

-- so is one of them
pub bound_at : (choice : Choice) (kinds : List Kind) (bindings : List (Keyed Binding)) (bs : List BoundPolicy) (i : ℕ) (b : BoundPolicy)
    → i < length bs → b ≡ get_or bs i b → AreBound choice kinds bindings bs → IsBound choice kinds bindings b
bound_at choice kinds bindings bs i b lt is all =
    subst (IsBound choice kinds bindings) (sym is) (here i bs lt (recursion_from_All (IsBound choice kinds bindings) bs all))
  where
    here : (n : ℕ) (cs : List BoundPolicy) → n < length cs → AllByRecursion (IsBound choice kinds bindings) cs
        → IsBound choice kinds bindings (get_or cs n b)
    here n [] h each = absurd (omega (arith, h))
    here zero (c ∷ cs) h each = each.0
    here (suc n) (c ∷ cs) h each = here n cs (omega (arith, h)) each.1

pub held_policies : (c : Cluster) (choice : Choice) → (holdings_of c choice).policies ≡ policies_by choice c
unfolding holdings_of
held_policies c choice = refl

-- if events touch no binding and no definition, the policies of a set are still bound as they were
pub policies_still : (h : Holdings) (es : List Event) (c : Cluster) → IsBefore h es c → all_miss is_binding es ≡ true
    → all_miss is_definition es ≡ true → AreBound h.choice (kinds_in c.objects) (bindings_in c.objects) h.policies
policies_still h es c before no_binding no_definition =
    let kinds : kinds_in before.objects.objects ≡ kinds_in c.objects =
    sym (defined_kinds_stay es before.objects no_definition) ∙ ap (λ (x : Cluster). kinds_in x.objects) (sym before.after) in
    let bindings : bindings_in before.objects.objects ≡ bindings_in c.objects =
    sym (own_bindings_stay es before.objects no_binding) ∙ ap (λ (x : Cluster). bindings_in x.objects) (sym before.after) in
    all_bound h.choice (kinds_in c.objects) (bindings_in c.objects) (policies_in before.objects.objects) h.policies
    (
    ap (λ (x : Holdings). x.policies) before.is
    ∙ held_policies before.objects h.choice
    ∙ bound_same refl kinds bindings refl
    )

-- if events touch no definition, the policies of a set are at each kind what they were
pub policies_at : (h : Holdings) (es : List Event) (c : Cluster) → IsBefore h es c → all_miss is_definition es ≡ true
    → AreAt h.choice (kinds_in c.objects) h.policies
policies_at h es c before no_definition =
    let kinds : kinds_in before.objects.objects ≡ kinds_in c.objects =
    sym (defined_kinds_stay es before.objects no_definition) ∙ ap (λ (x : Cluster). kinds_in x.objects) (sym before.after) in
    record {
      bindings = bindings_in before.objects.objects;
      bound =
          all_bound h.choice (kinds_in c.objects) (bindings_in before.objects.objects) (policies_in before.objects.objects) h.policies
          (
          ap (λ (x : Holdings). x.policies) before.is
          ∙ held_policies before.objects h.choice
          ∙ bound_same refl kinds refl refl
          );
    }
