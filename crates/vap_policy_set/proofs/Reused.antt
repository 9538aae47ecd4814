-- What a set takes over of one before it is that of the objects that events leave.
use Rattle.std.proofs.Common.{◌≡◌, ℕ, true, List, map, refl, sym, ap, ◌∙◌, subst}
use Rattle.std.specs.List.{All, flat_map}
use Rattle.std.proofs.lemmas.List.Elements.{All-from_recursion}
use Rattle.base_containers.specs.declared.text.Keyed.{Keyed}
use Rattle.vap_read_objects.specs.Definitions.{is_definition}
use Rattle.vap_read_objects.specs.declared.kind.Kind.{Kind}
use Rattle.vap_read_objects.specs.After.{after_all}
use Rattle.vap_read_objects.specs.Classes.{all_miss, is_namespace, is_rule}
use Rattle.vap_read_objects.specs.Cluster.{Cluster}
use Rattle.vap_read_objects.specs.Listed.{bindings_in, kinds_in, policies_in}
use Rattle.vap_read_objects.specs.OfKind.{namespaces_in}
use Rattle.vap_read_objects.proofs.Classed.{class_stays}
use Rattle.vap_read_objects.proofs.Staying.{bindings_stay, defined_kinds_stay, kinds_stay, policies_stay}
use Rattle.vap_read.specs.declared.policy.Policy.{Policy}
use Rattle.vap_read.specs.declared.event.Event.{Event}
use Rattle.vap_read.specs.declared.key.Key.{Key}
use Rattle.vap_read.specs.declared.object.Object.{Object}
use Rattle.vap_read_objects.specs.Fitted.{Fitted, all_params, fitted_in, kinds_named, refitted}
use Rattle.vap_read_objects.specs.Reuse.{AreStill, StaysUnless}
use Rattle.vap_read_objects.proofs.Reused.{fitted_again, fitted_still}
use Rattle.vap_policy_set.specs.Patterns.{IsChoiceFor, of_policies}
use Rattle.vap_policy_set.specs.Reuse.{IsBefore}
use Rattle.vap_policy_set.specs.Sets.{Holdings, held_by, holdings_of, of_bound, policies_by}
use Rattle.vap_policy_set.specs.declared.choice.Choice.{Choice}
use Rattle.vap_policy_set.specs.declared.rules.Rules.{Rules}
use Rattle.vap_policy_set.proofs.MadeSets.{bound_texts, made_of}
use Rattle.vap_policy_set.proofs.Standing.{bound_same}

-- ---- params

built_still : (es : List Event) (c : Cluster) (choice : Choice)
    → All (AreStill (after_all es c) es) (holdings_of c choice).params
unfolding holdings_of
built_still es c choice =
    All-from_recursion (AreStill (after_all es c) es) (all_params (kinds_in c.objects) c (policies_in c.objects))
    (fitted_still (kinds_in c.objects) es c (kinds_named (policies_in c.objects)))

-- the params that a set holds are still those, except where an event touches one
pub params_still : (h : Holdings) (es : List Event) (c : Cluster) → IsBefore h es c → All (AreStill c es) h.params
params_still h es c before =
    subst (λ (d : Cluster). All (AreStill d es) h.params) (sym before.after)
    (subst (λ (g : Holdings). All (AreStill (after_all es before.objects) es) g.params) (sym before.is)
    (built_still es before.objects h.choice))

-- ---- Namespaces and kinds

holds_namespaces : (c : Cluster) (choice : Choice) → (holdings_of c choice).namespaces ≡ namespaces_in c.objects
unfolding holdings_of
holds_namespaces c choice = refl

-- so are the Namespaces
pub namespaces_still : (h : Holdings) (es : List Event) (c : Cluster) → IsBefore h es c
    → StaysUnless is_namespace es (h.namespaces ≡ namespaces_in c.objects)
namespaces_still h es c before missed =
    ap (λ (x : Holdings). x.namespaces) before.is
    ∙ holds_namespaces before.objects h.choice
    ∙ sym (class_stays is_namespace es before.objects missed)
    ∙ ap (λ (x : Cluster). namespaces_in x.objects) (sym before.after)

holds_kinds : (c : Cluster) (choice : Choice) → (holdings_of c choice).kinds ≡ kinds_in c.objects
unfolding holdings_of
holds_kinds c choice = refl

-- and the kinds
pub kinds_still : (h : Holdings) (es : List Event) (c : Cluster) → IsBefore h es c
    → StaysUnless is_definition es (h.kinds ≡ kinds_in c.objects)
kinds_still h es c before missed =
    ap (λ (x : Holdings). x.kinds) before.is
    ∙ holds_kinds before.objects h.choice
    ∙ sym (defined_kinds_stay es before.objects missed)
    ∙ ap (λ (x : Cluster). kinds_in x.objects) (sym before.after)

-- ---- the set after events that touch no policy, binding or definition

module _ (h : Holdings) (es : List Event) (c : Cluster) (before : IsBefore h es c) (missed : all_miss is_rule es ≡ true) where
  same_kinds : kinds_in before.objects.objects ≡ kinds_in c.objects
  same_kinds =
      sym (kinds_stay es before.objects missed) ∙ ap (λ (x : Cluster). kinds_in x.objects) (sym before.after)

  same_bindings : bindings_in before.objects.objects ≡ bindings_in c.objects
  same_bindings =
      sym (bindings_stay es before.objects missed) ∙ ap (λ (x : Cluster). bindings_in x.objects) (sym before.after)

  same_policies : policies_in before.objects.objects ≡ policies_in c.objects
  same_policies =
      sym (policies_stay es before.objects missed) ∙ ap (λ (x : Cluster). policies_in x.objects) (sym before.after)

  after_kinds : h.kinds ≡ kinds_in c.objects
  after_kinds = ap (λ (x : Holdings). x.kinds) before.is ∙ holds_kinds before.objects h.choice ∙ same_kinds

  before_policies : (holdings_of before.objects h.choice).policies ≡ policies_by h.choice before.objects
  unfolding holdings_of
  before_policies = refl

  after_policies : h.policies ≡ policies_by h.choice c
  after_policies =
      ap (λ (x : Holdings). x.policies) before.is ∙ before_policies
      ∙ bound_same refl same_kinds same_bindings same_policies

  before_params : (holdings_of before.objects h.choice).params
      ≡ flat_map (fitted_in (kinds_in before.objects.objects) before.objects) (kinds_named (policies_in before.objects.objects))
  unfolding holdings_of
  before_params = refl

  after_params : map (refitted c) h.params ≡ all_params (kinds_in c.objects) c (policies_in c.objects)
  after_params =
      ap (λ (x : Holdings). map (refitted c) x.params) before.is
      ∙ ap (map (refitted c)) before_params
      ∙ sym (fitted_again (kinds_in before.objects.objects) before.objects c (kinds_named (policies_in before.objects.objects)))
      ∙ ap (λ (x : List Kind). all_params x c (policies_in before.objects.objects)) same_kinds
      ∙ ap (λ (x : List (Keyed Policy)). all_params (kinds_in c.objects) c x) same_policies

  -- what it holds
  pub others_held : (r : Rules) {e : ℕ} {qs : List Fitted} {ns : List (Key × Object)} → r.choice ≡ h.choice → r.definitions.kinds ≡ h.kinds
      → r.policies ≡ h.policies → e ≡ c.events → qs ≡ map (refitted c) h.params → ns ≡ namespaces_in c.objects
      → held_by e r qs ns ≡ holdings_of c r.choice
  others_held r choice kinds policies events params namespaces =
      made_of c r.choice events refl (kinds ∙ after_kinds)
      (policies ∙ after_policies ∙ ap (λ (x : Choice). policies_by x c) (sym choice)) (params ∙ after_params) namespaces

  -- its choice is for its policies
  pub others_chosen : IsChoiceFor (of_bound h.policies) h.choice.refused
      → IsChoiceFor (of_policies (policies_in c.objects)) h.choice.refused
  others_chosen chosen =
      subst (λ (texts : List (List ℕ)). IsChoiceFor texts h.choice.refused)
      (ap of_bound after_policies ∙ bound_texts h.choice (kinds_in c.objects) (bindings_in c.objects) (policies_in c.objects)) chosen
