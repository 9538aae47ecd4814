-- What params are after events.
use Rattle.std.proofs.Common.{◌≡◌, Bool, true, false, ◌&&◌, List, [], ◌∷◌, ◌++◌, map, Option, Some, None, option_map, refl}
use Rattle.std.proofs.Common.{sym, ap, ◌∙◌, subst}
use Rattle.std.specs.Prelude.{option_and_then, option_to_list}
use Rattle.std.specs.BTreeMap.{is_at}
use Rattle.std.specs.List.{All, AllByRecursion, flat_map}
use Rattle.std.proofs.lemmas.List.{map-append}
use Rattle.std.proofs.lemmas.List.Elements.{All-from_recursion}
use Rattle.std.proofs.lemmas.Map.Entries.{lookup-filter-keys}
use Rattle.cel_value.specs.declared.cel_type.CelType.{CelType}
use Rattle.vap_read_objects.specs.declared.kind.Kind.{Kind}
use Rattle.vap_read_objects.specs.After.{after_all}
use Rattle.vap_read_objects.specs.Classes.{all_miss, is_key, of_class}
use Rattle.vap_read_objects.specs.Cluster.{Cluster}
use Rattle.vap_read_objects.specs.OfKind.{object_at}
use Rattle.vap_read_objects.proofs.Classed.{class_stays, this_key}
use Rattle.vap_read_objects.proofs.Staying.{of_kind_stay}
use Rattle.vap_read.specs.declared.policy.ParamKind.{ParamKind}
use Rattle.vap_read.specs.Keys.{key_cmp}
use Rattle.vap_read.specs.declared.event.Event.{Event}
use Rattle.vap_read.specs.declared.key.Key.{Key}
use Rattle.vap_read.specs.declared.object.Object.{Object}
use Rattle.vap_read_objects.specs.Fitted.{Fitted, entries_of, fitted_at, fitted_in, fitted_to, is_of_params, objects_of, refitted}
use Rattle.vap_read_objects.specs.Keyed.{is_in}
use Rattle.vap_read_objects.specs.Naming.{kind_of_params, spelled}
use Rattle.vap_read_objects.specs.Reuse.{AreRefitted, AreStill, is_untouched}

typed_again : (c d : Cluster) (k : ParamKind) (n : Bool) (t : Option CelType)
    → option_to_list (option_map (fitted_to d k n) t) ≡ map (refitted d) (option_to_list (option_map (fitted_to c k n) t))
typed_again c d k n None = refl
typed_again c d k n (Some t) = refl

known_again : (c d : Cluster) (k : ParamKind) (found : Option Kind)
    → option_to_list (option_and_then (fitted_at d k) found)
    ≡ map (refitted d) (option_to_list (option_and_then (fitted_at c k) found))
known_again c d k None = refl
known_again c d k (Some kind) = typed_again c d k kind.namespaced kind.object_type

-- the params of kinds, fitted to the same types, are those that other objects have of these kinds
pub fitted_again : (kinds : List Kind) (c d : Cluster) (ks : List ParamKind)
    → flat_map (fitted_in kinds d) ks ≡ map (refitted d) (flat_map (fitted_in kinds c) ks)
unfolding fitted_in
fitted_again kinds c d [] = refl
fitted_again kinds c d (k ∷ ks) =
    ap (λ (x : List Fitted). x ++ flat_map (fitted_in kinds d) ks) (known_again c d k (kind_of_params kinds k))
    ∙ ap (λ (x : List Fitted). map (refitted d) (fitted_in kinds c k) ++ x) (fitted_again kinds c d ks)
    ∙ sym (map-append (refitted d) (fitted_in kinds c k) (flat_map (fitted_in kinds c) ks))

module _ (P : Fitted → Type 0) where
  all_both : (xs ys : List Fitted) → AllByRecursion P xs → AllByRecursion P ys → AllByRecursion P (xs ++ ys)
  all_both [] ys one two = two
  all_both (x ∷ xs) ys one two = (one.0, all_both xs ys one.1 two)

both_are : (a b : Bool) → b ≡ true → (a && b) ≡ a
both_are true b h = h
both_are false b h = refl

-- what is under a key of a class stays if no event touches it
under_stays : (class : Key → Bool) (k : Key) (es : List Event) (c : Cluster) → all_miss (is_in class k) es ≡ true
    → object_at k (of_class class c.objects) ≡ object_at k (of_class class (after_all es c).objects)
under_stays class k es c missed =
    found c.objects ∙ ap (object_at k) (sym (class_stays (is_in class k) es c missed)) ∙ sym (found (after_all es c).objects)
  where
    same : (l : Key) → is_key k l ≡ true → class l ≡ class k
    same l is = sym (ap class (this_key k l is))

    found : (os : List (Key × Object)) → object_at k (of_class class os) ≡ object_at k (of_class (is_in class k) os)
    found os =
        lookup-filter-keys (is_at (key_cmp k)) class (class k) same os
        ∙ sym (lookup-filter-keys (is_at (key_cmp k)) (is_in class k) (class k)
        (λ l is. both_are (class l) (is_key k l) is ∙ same l is) os)

-- the params of a kind stay if no event touches one
fitted_stay : (es : List Event) (c : Cluster) (k : ParamKind) (n : Bool) (t : CelType) → all_miss (is_of_params k) es ≡ true
    → fitted_to (after_all es c) k n t ≡ fitted_to c k n t
fitted_stay es c k n t missed =
    let entries : entries_of k (after_all es c) ≡ entries_of k c = class_stays (is_of_params k) es c missed in
    let objects : objects_of k (after_all es c) ≡ objects_of k c = of_kind_stay (spelled k.api_version) k.kind es c missed in
    ap (λ (p : List (Key × Object) × List Object). record { kind = k; namespaced = n; cel_type = t; entries = p.0; objects = p.1 })
    (λ i. (entries i, objects i))

typed_still : (es : List Event) (c : Cluster) (k : ParamKind) (n : Bool) (t : Option CelType)
    → AllByRecursion (AreStill (after_all es c) es) (option_to_list (option_map (fitted_to c k n) t))
typed_still es c k n None = tt
typed_still es c k n (Some t) = (
  record {
    all = λ missed. sym (fitted_stay es c k n t missed);
    each = λ key missed. under_stays (is_of_params k) key es c missed;
  },
  tt,
)

known_still : (es : List Event) (c : Cluster) (k : ParamKind) (found : Option Kind)
    → AllByRecursion (AreStill (after_all es c) es) (option_to_list (option_and_then (fitted_at c k) found))
known_still es c k None = tt
known_still es c k (Some kind) = typed_still es c k kind.namespaced kind.object_type

-- the params of kinds that objects have stay as they are, unless an event touches one
pub fitted_still : (kinds : List Kind) (es : List Event) (c : Cluster) (ks : List ParamKind)
    → AllByRecursion (AreStill (after_all es c) es) (flat_map (fitted_in kinds c) ks)
unfolding fitted_in
fitted_still kinds es c [] = tt
fitted_still kinds es c (k ∷ ks) =
    all_both (AreStill (after_all es c) es) (fitted_in kinds c k) (flat_map (fitted_in kinds c) ks)
    (known_still es c k (kind_of_params kinds k)) (fitted_still kinds es c ks)

-- if no event touches them, the params of a kind are what they were
pub same_again : (c : Cluster) (es : List Event) (q : Fitted) → AreStill c es q → is_untouched es q ≡ true → q ≡ refitted c q
unfolding is_untouched
same_again c es q still missed = still.all missed

each_refitted : (c : Cluster) (qs : List Fitted) → AllByRecursion (AreRefitted c) (map (refitted c) qs)
each_refitted c [] = tt
each_refitted c (q ∷ qs) = (refl, each_refitted c qs)

-- what is fitted again to the same types is what objects have by these
pub all_refitted : (c : Cluster) (qs rs : List Fitted) → rs ≡ map (refitted c) qs → All (AreRefitted c) rs
all_refitted c qs rs is =
    subst (λ (xs : List Fitted). All (AreRefitted c) xs) (sym is)
    (All-from_recursion (AreRefitted c) (map (refitted c) qs) (each_refitted c qs))
