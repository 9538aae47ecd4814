-- The policies whose names no event has stay as they are.
use Rattle.std.proofs.Common.{◌≡◌, ◌&&◌, ℕ, Bool, true, false, not, List, [], ◌∷◌, ◌++◌, filter, refl, sym, ap, ◌∙◌, true≢false}
use Rattle.std.specs.List.{flat_map}
use Rattle.std.proofs.lemmas.List.Elements.{filter-append}
use Rattle.base_containers.specs.declared.text.Keyed.{Keyed}
use Rattle.vap_read.specs.declared.event.Event.{Event}
use Rattle.vap_read.specs.declared.key.Key.{Key}
use Rattle.vap_read.specs.declared.object.Content.{Content}
use Rattle.vap_read.specs.declared.object.Content.TheVariants as content
use Rattle.vap_read.specs.declared.object.Object.{Object}
use Rattle.vap_read.specs.declared.policy.Policy.{Policy}
use Rattle.vap_read_objects.specs.After.{after_all}
use Rattle.vap_read_objects.specs.ByName.{by_name}
use Rattle.vap_read_objects.specs.Classes.{all_miss, has_other_name, is_one_of, is_other_policy, is_policy}
use Rattle.vap_read_objects.specs.Cluster.{Cluster}
use Rattle.vap_read_objects.specs.Listed.{policies_among, policies_in, policy_by, policy_in, policy_under}
use Rattle.vap_read_objects.proofs.Alone.{no_policy, policy_if}
use Rattle.vap_read_objects.proofs.ByName.{filter_by_name}
use Rattle.vap_read_objects.proofs.Staying.{list_stays}

module _ (names : List (List ℕ)) where
  -- the policy under a key, if its name is another
  abbrev other_in : Key × Object → List (Keyed Policy)
  other_in e = filter (has_other_name names) (policy_in e)

  others_among : (os : List (Key × Object)) → filter (has_other_name names) (policies_among os) ≡ flat_map other_in os
  others_among [] = refl
  others_among (e ∷ os) =
      filter-append (has_other_name names) (policy_in e) (policies_among os) ∙ ap (λ ps. other_in e ++ ps) (others_among os)

  others_by_name : (os : List (Key × Object)) → filter (has_other_name names) (policies_in os) ≡ by_name (flat_map other_in os)
  others_by_name os = filter_by_name (has_other_name names) (policies_among os) ∙ ap by_name (others_among os)

  -- a policy of one of the names is none of the others
  none_named : (name : List ℕ) (c : Content) → is_one_of names name ≡ true → filter (has_other_name names) (policy_by name c) ≡ []
  none_named name (content.Policy p) h = rw h refl
  none_named name (content.Binding b) h = refl
  none_named name content.Other h = refl

  named : (b c : Bool) → (b && not c) ≡ false → b ≡ true → c ≡ true
  named true true h is = refl
  named true false h is = absurd (true≢false h)
  named false c h is = absurd (true≢false (sym is))

  none_other : (e : Key × Object) → is_other_policy names e.0 ≡ false → other_in e ≡ []
  none_other e none = at (is_policy e.0) refl
    where
      at : (b : Bool) → is_policy e.0 ≡ b → other_in e ≡ []
      at true is =
          ap (filter (has_other_name names)) (policy_if e true is)
          ∙ none_named e.0.name e.1.content (named (is_policy e.0) (is_one_of names e.0.name) none is)
      at false is = ap (filter (has_other_name names)) (no_policy e is)

  -- if events touch policies of these names alone, the others are what they were
  pub other_policies_stay : (es : List Event) (c : Cluster) → all_miss (is_other_policy names) es ≡ true
      → filter (has_other_name names) (policies_in (after_all es c).objects) ≡ filter (has_other_name names) (policies_in c.objects)
  other_policies_stay es c missed =
      others_by_name (after_all es c).objects
      ∙ ap by_name (list_stays (is_other_policy names) other_in none_other es c missed)
      ∙ sym (others_by_name c.objects)
