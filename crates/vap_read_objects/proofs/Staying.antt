-- What is made of objects of a class alone stays if events touch none of these.
use Rattle.std.proofs.Common.{◌≡◌, ℕ, Bool, true, false, cond, List, [], ◌∷◌, ◌++◌, refl, sym, ap, ◌∙◌}
use Rattle.std.specs.Prelude.{if◌then◌else◌}
use Rattle.std.specs.List.{flat_map}
use Rattle.std.specs.Map.{values_of}
use Rattle.vap_read_objects.specs.Definitions.{is_definition}
use Rattle.vap_read_objects.specs.Kinds.{kinds_of}
use Rattle.vap_read.specs.declared.event.Event.{Event}
use Rattle.vap_read.specs.declared.key.Key.{Key}
use Rattle.vap_read.specs.declared.object.Object.{Object}
use Rattle.vap_read_objects.specs.After.{after_all}
use Rattle.vap_read_objects.specs.ByName.{by_name}
use Rattle.vap_read.specs.Keys.{is_of}
use Rattle.vap_read_objects.specs.Classes.{all_miss, is_binding, is_policy, is_rule, of_class}
use Rattle.vap_read_objects.specs.Cluster.{Cluster}
use Rattle.vap_read_objects.specs.Listed.{policy_in, policies_in, binding_in}
use Rattle.vap_read_objects.specs.Listed.{bindings_in}
use Rattle.vap_read_objects.specs.Listed.{definition_in, definitions_in, kinds_in}
use Rattle.vap_read_objects.specs.OfKind.{if_of_kind, objects_of_kind}
use Rattle.vap_read_objects.proofs.Alone.{made_of, no_binding, no_definition, no_policy}
use Rattle.vap_read_objects.proofs.Classed.{class_stays, miss_bindings, miss_definitions, miss_policies}

-- ---- lists that are made of a class alone

module _ {X : Type 0} (class : Key → Bool) (f : Key × Object → List X)
    (none : (e : Key × Object) → class e.0 ≡ false → f e ≡ []) where
  alone : (os : List (Key × Object)) → flat_map f os ≡ flat_map f (of_class class os)
  alone = made_of class f f none (λ e is. refl)

  pub list_stays : (es : List Event) (c : Cluster) → all_miss class es ≡ true
      → flat_map f (after_all es c).objects ≡ flat_map f c.objects
  list_stays es c h =
      alone (after_all es c).objects ∙ ap (flat_map f) (class_stays class es c h) ∙ sym (alone c.objects)

-- ---- policies and bindings

-- events that touch no policy, binding or definition leave the policies
pub policies_stay : (es : List Event) (c : Cluster) → all_miss is_rule es ≡ true
    → policies_in (after_all es c).objects ≡ policies_in c.objects
policies_stay es c h = ap by_name (list_stays is_policy policy_in no_policy es c (miss_policies es h))

-- events that touch no binding leave the bindings
pub own_bindings_stay : (es : List Event) (c : Cluster) → all_miss is_binding es ≡ true
    → bindings_in (after_all es c).objects ≡ bindings_in c.objects
own_bindings_stay es c h = ap by_name (list_stays is_binding binding_in no_binding es c h)

-- so do those that touch no policy, binding or definition
pub bindings_stay : (es : List Event) (c : Cluster) → all_miss is_rule es ≡ true
    → bindings_in (after_all es c).objects ≡ bindings_in c.objects
bindings_stay es c h = own_bindings_stay es c (miss_bindings es h)

-- ---- definitions

-- events that touch no definition leave the definitions
pub definitions_stay : (es : List Event) (c : Cluster) → all_miss is_definition es ≡ true
    → definitions_in (after_all es c).objects ≡ definitions_in c.objects
definitions_stay es c h = ap by_name (list_stays is_definition definition_in no_definition es c h)

-- and the kinds
pub defined_kinds_stay : (es : List Event) (c : Cluster) → all_miss is_definition es ≡ true
    → kinds_in (after_all es c).objects ≡ kinds_in c.objects
defined_kinds_stay es c h = ap kinds_of (definitions_stay es c h)

-- so do those that touch no policy, binding or definition
pub kinds_stay : (es : List Event) (c : Cluster) → all_miss is_rule es ≡ true
    → kinds_in (after_all es c).objects ≡ kinds_in c.objects
kinds_stay es c h = defined_kinds_stay es c (miss_definitions es h)

-- ---- objects of a kind

abbrev one_of_kind : List ℕ → List ℕ → Key × Object → List Object
one_of_kind api_version kind e = if_of_kind api_version kind e.0 e.1

none_of_kind : (api_version kind : List ℕ) (e : Key × Object) → is_of api_version kind e.0 ≡ false
    → one_of_kind api_version kind e ≡ []
unfolding if_of_kind
none_of_kind api_version kind e none = ap (λ b. if b then e.1 ∷ [] else []) none

-- events that touch no object of a kind leave those of the kind
pub of_kind_stay : (api_version kind : List ℕ) (es : List Event) (c : Cluster) → all_miss (is_of api_version kind) es ≡ true
    → objects_of_kind api_version kind (after_all es c).objects ≡ objects_of_kind api_version kind c.objects
of_kind_stay api_version kind es c h =
    list_stays (is_of api_version kind) (one_of_kind api_version kind) (none_of_kind api_version kind) es c h

-- they are those of the entries whose keys are of the kind
pub of_kind_entries : (api_version kind : List ℕ) (os : List (Key × Object))
    → objects_of_kind api_version kind os ≡ values_of (of_class (is_of api_version kind) os)
unfolding if_of_kind
of_kind_entries api_version kind [] = refl
of_kind_entries api_version kind (e ∷ os) = at (is_of api_version kind e.0) (of_kind_entries api_version kind os)
  where
    at : (b : Bool) → objects_of_kind api_version kind os ≡ values_of (of_class (is_of api_version kind) os)
        → (if b then e.1 ∷ [] else []) ++ objects_of_kind api_version kind os
        ≡ values_of (cond b (e ∷ of_class (is_of api_version kind) os) (of_class (is_of api_version kind) os))
    at true same = ap (λ xs. e.1 ∷ xs) same
    at false same = same
