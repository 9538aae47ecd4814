-- What is made of objects is what their set holds.
use Rattle.std.proofs.Common.{◌≡◌, ℕ, false, List, [], ◌∷◌, ◌++◌, map, refl, sym, ap, ◌∙◌, subst}
use Rattle.std.specs.Prelude.{IsSome}
use Rattle.std.specs.List.{Contains}
use Rattle.std.proofs.lemmas.List.Elements.{All-from_recursion}
use Rattle.cel_operators.specs.PatternChoice.{refuses}
use Rattle.cel_operators.specs.PatternMeaning.{tree_of}
use Rattle.base_containers.specs.declared.text.Keyed.{Keyed}
use Rattle.vap_read.specs.declared.binding.Binding.{Binding}
use Rattle.vap_read_objects.specs.declared.kind.Kind.{Kind}
use Rattle.vap_read_objects.specs.After.{nothing}
use Rattle.vap_read_objects.specs.Cluster.{Cluster}
use Rattle.vap_read_objects.specs.Listed.{bindings_in, kinds_in, policies_in}
use Rattle.vap_read_objects.specs.OfKind.{namespaces_in}
use Rattle.vap_read.specs.declared.policy.Policy.{Policy}
use Rattle.vap_read.specs.declared.key.Key.{Key}
use Rattle.vap_read.specs.declared.object.Object.{Object}
use Rattle.vap_read_objects.specs.Fitted.{Fitted, all_params}
use Rattle.vap_policy_set.specs.Patterns.{IsChoiceFor, of_policies, of_policy}
use Rattle.vap_policy_set.specs.Sets.{Holdings, IsOfObjects, bound_of, held_by, holdings_of, no_choice, of_bound, policies_by}
use Rattle.vap_policy_set.specs.declared.bound.BoundPolicy.{BoundPolicy}
use Rattle.vap_policy_set.specs.declared.choice.Choice.{Choice}
use Rattle.vap_policy_set.specs.declared.rules.Rules.{Rules}

-- a set that holds these
abbrev pub holding : ℕ → Choice → List Kind → List BoundPolicy → List Fitted → List (Key × Object) → Holdings
holding e choice ks ps qs ns = record { events = e; choice = choice; kinds = ks; policies = ps; params = qs; namespaces = ns }

pub made_of : (c : Cluster) (choice : Choice) {e : ℕ} {d : Choice} {ks : List Kind} {ps : List BoundPolicy} {qs : List Fitted}
    {ns : List (Key × Object)} → e ≡ c.events → d ≡ choice → ks ≡ kinds_in c.objects → ps ≡ policies_by choice c
    → qs ≡ all_params (kinds_in c.objects) c (policies_in c.objects) → ns ≡ namespaces_in c.objects
    → holding e d ks ps qs ns ≡ holdings_of c choice
unfolding holdings_of
made_of c choice {e} {d} {ks} {ps} {qs} {ns} one same two three four five =
    ap (λ (x : ℕ). holding x d ks ps qs ns) one
    ∙ ap (λ (x : Choice). holding c.events x ks ps qs ns) same
    ∙ ap (λ (x : List Kind). holding c.events choice x ps qs ns) two
    ∙ ap (λ (x : List BoundPolicy). holding c.events choice (kinds_in c.objects) x qs ns) three
    ∙ ap (λ (x : List Fitted). holding c.events choice (kinds_in c.objects) (policies_by choice c) x ns) four
    ∙ ap (λ (x : List (Key × Object)). holding c.events choice (kinds_in c.objects) (policies_by choice c)
    (all_params (kinds_in c.objects) c (policies_in c.objects)) x) five

-- the texts of policies that are bound are those of the policies
pub bound_texts : (choice : Choice) (kinds : List Kind) (bindings : List (Keyed Binding)) (ps : List (Keyed Policy))
    → of_bound (map (bound_of choice kinds bindings) ps) ≡ of_policies ps
bound_texts choice kinds bindings [] = refl
bound_texts choice kinds bindings (p ∷ ps) =
    ap (λ (x : List (List ℕ)). of_policy p.value.spec ++ x) (bound_texts choice kinds bindings ps)

-- a choice for policies is one for what they are bound to
pub made_chosen : (c : Cluster) (choice d : Choice) {ps : List BoundPolicy} → ps ≡ policies_by choice c
    → IsChoiceFor (of_policies (policies_in c.objects)) d.refused → IsChoiceFor (of_bound ps) d.refused
made_chosen c choice d {ps} policies chosen =
    subst (λ (texts : List (List ℕ)). IsChoiceFor texts d.refused)
    (sym (ap of_bound policies ∙ bound_texts choice (kinds_in c.objects) (bindings_in c.objects) (policies_in c.objects))) chosen

-- what is made of rules and of the rest
pub rules_made : (c : Cluster) (r s : Rules) {e : ℕ} {qs : List Fitted} {ns : List (Key × Object)} → r ≡ s
    → s.definitions.kinds ≡ kinds_in c.objects → s.policies ≡ policies_by s.choice c → e ≡ c.events
    → qs ≡ all_params (kinds_in c.objects) c (policies_in c.objects) → ns ≡ namespaces_in c.objects
    → held_by e r qs ns ≡ holdings_of c r.choice
rules_made c r s same kinds policies events params namespaces =
    made_of c r.choice events refl (ap (λ (x : Rules). x.definitions.kinds) same ∙ kinds)
    (
    ap (λ (x : Rules). x.policies) same ∙ policies
    ∙ ap (λ (d : Choice). policies_by d c) (sym (ap (λ (x : Rules). x.choice) same))
    )
    params namespaces

-- their choice is one for what they are bound to
pub rules_chosen : (c : Cluster) (r s : Rules) → r ≡ s → s.policies ≡ policies_by s.choice c
    → IsChoiceFor (of_policies (policies_in c.objects)) s.choice.refused → IsChoiceFor (of_bound r.policies) r.choice.refused
rules_chosen c r s same policies chosen =
    subst (λ (x : Rules). IsChoiceFor (of_bound x.policies) x.choice.refused) (sym same)
    (made_chosen c s.choice s.choice policies chosen)

-- what is made of nothing is what the set of no objects holds
pub nothing_made : (r : Rules) {qs : List Fitted} {ns : List (Key × Object)} → r.choice ≡ no_choice → r.definitions.kinds ≡ kinds_in []
    → r.policies ≡ [] → qs ≡ [] → ns ≡ [] → held_by 0 r qs ns ≡ holdings_of nothing no_choice
nothing_made r same two three four five = made_of nothing no_choice refl same two three four five

pub nothing_held : (r : Rules) {qs : List Fitted} {ns : List (Key × Object)} → r.definitions.kinds ≡ kinds_in [] → r.policies ≡ [] → qs ≡ []
    → ns ≡ [] → IsOfObjects (held_by 0 r qs ns)
nothing_held r two three four five = record { objects = nothing; is = made_of nothing r.choice refl refl two three four five }

pub nothing_chosen : (d : Choice) {ps : List BoundPolicy} → ps ≡ [] → d ≡ no_choice → IsChoiceFor (of_bound ps) d.refused
nothing_chosen d {ps} none same =
    subst (λ (x : List BoundPolicy). IsChoiceFor (of_bound x) d.refused) (sym none)
    (subst (λ (x : Choice). IsChoiceFor [] x.refused) (sym same)
    (
    record {
      only = All-from_recursion (Contains []) [] tt;
      others = All-from_recursion (λ text. refuses [] text ≡ false → IsSome (tree_of text)) [] tt;
    }
    ))
