-- What events do to the objects of a class of keys that they do not touch.
use Rattle.std.proofs.Common.{◌≡◌, ℕ, Bool, true, false, not, cond, List, ◌∷◌, [], Result, Ok, Err, refl, sym, ap, ◌∙◌}
use Rattle.std.specs.Prelude.{◌||◌, IfOk}
use Rattle.std.specs.BTreeMap.{insert_entry, is_at}
use Rattle.std.specs.Map.{remove_entry}
use Rattle.std.specs.Ordering.{match_ordering, is_eq, ordering_then}
use Rattle.std.specs.declared.cmp.Ordering.{Ordering}
use Rattle.std.specs.declared.cmp.Ordering.TheVariants.{Less, Equal, Greater}
use Rattle.std.proofs.lemmas.Bool.{and_parts}
use Rattle.std.proofs.lemmas.Map.Entries.{lookup-filter-keys}
use Rattle.std.proofs.lemmas.Map.Lookups.{exact_bytes}
use Rattle.vap_read_objects.specs.Definitions.{is_definition}
use Rattle.vap_read.specs.Keys.{key_cmp}
use Rattle.vap_read.specs.declared.event.Event.{Event}
use Rattle.vap_read.specs.declared.event.Event.TheVariants.{Put, Removed, Passed, Replaced}
use Rattle.vap_read.specs.declared.key.Key.{Key}
use Rattle.vap_read.specs.declared.object.Object.{Object}
use Rattle.vap_read_objects.specs.After.{after, after_all, objects_after}
use Rattle.vap_read_objects.specs.Classes.{all_miss, is_binding, is_key, is_namespace, is_policy, is_rule, misses, of_class}
use Rattle.vap_read_objects.specs.Cluster.{Cluster}
use Rattle.vap_read_objects.specs.OfKind.{namespace_key, namespaces_in, object_at}

-- ---- keys that compare as equal are one

both_equal : (a b : Ordering) → ordering_then a b ≡ Equal → (a ≡ Equal) × (b ≡ Equal)
both_equal Less b e = absurd cc
both_equal Equal b e = (refl, e)
both_equal Greater b e = absurd cc

pub same_key : (x y : Key) → key_cmp x y ≡ Equal → x ≡ y
same_key x y h =
    let one = both_equal _ _ h in
    let two = both_equal _ _ one.1 in
    let three = both_equal _ _ two.1 in λ i. record {
      api_version = exact_bytes x.api_version y.api_version one.0 i;
      kind = exact_bytes x.kind y.kind two.0 i;
      namespace = exact_bytes x.namespace y.namespace three.0 i;
      name = exact_bytes x.name y.name three.1 i;
    }

pub this_key : (x y : Key) → is_key x y ≡ true → x ≡ y
this_key x y is = same_key x y (at (key_cmp x y) is)
  where
    at : (o : Ordering) → is_eq o ≡ true → o ≡ Equal
    at Less h = absurd cc
    at Equal h = refl
    at Greater h = absurd cc

pub outside : (b : Bool) → not b ≡ true → b ≡ false
outside true h = absurd cc
outside false h = refl

-- ---- what stays

module _ (class : Key → Bool) where
  kept : (e : Key × Object) (xs ys : List (Key × Object)) → of_class class xs ≡ of_class class ys
      → of_class class (e ∷ xs) ≡ of_class class (e ∷ ys)
  kept e xs ys h = ap (λ zs. cond (class e.0) (e ∷ zs) zs) h

  -- what is put outside a class leaves it as it was
  put_outside : (es : List (Key × Object)) (k : Key) (v : Object) → class k ≡ false
      → of_class class (insert_entry key_cmp es k v) ≡ of_class class es
  put_outside [] k v out = rw out refl
  put_outside (e ∷ es) k v out = at (key_cmp k e.0) refl (put_outside es k v out)
    where
      at : (o : Ordering) → key_cmp k e.0 ≡ o → of_class class (insert_entry key_cmp es k v) ≡ of_class class es
          → of_class class (match_ordering o ((k, v) ∷ e ∷ es) ((e.0, v) ∷ es) (e ∷ insert_entry key_cmp es k v))
          ≡ of_class class (e ∷ es)
      at Less h rest = rw out refl
      at Equal h rest = rw (sym (ap class (same_key k e.0 h)) ∙ out) refl
      at Greater h rest = kept e (insert_entry key_cmp es k v) es rest

  -- so does what is removed outside it
  removed_outside : (es : List (Key × Object)) (k : Key) → class k ≡ false
      → of_class class (remove_entry (is_at (key_cmp k)) es) ≡ of_class class es
  removed_outside [] k out = refl
  removed_outside (e ∷ es) k out = at (key_cmp k e.0) refl (removed_outside es k out)
    where
      at : (o : Ordering) → key_cmp k e.0 ≡ o → of_class class (remove_entry (is_at (key_cmp k)) es) ≡ of_class class es
          → of_class class (cond (is_eq o) es (e ∷ remove_entry (is_at (key_cmp k)) es)) ≡ of_class class (e ∷ es)
      at Less h rest = kept e (remove_entry (is_at (key_cmp k)) es) es rest
      at Equal h rest = rw (sym (ap class (same_key k e.0 h)) ∙ out) refl
      at Greater h rest = kept e (remove_entry (is_at (key_cmp k)) es) es rest

  -- an event that touches no key of a class leaves it as it was
  one_misses : (e : Event) (os : List (Key × Object)) → misses class e ≡ true
      → of_class class (objects_after e os) ≡ of_class class os
  one_misses (Put o) os h = put_outside os o.key o (outside (class o.key) h)
  one_misses (Removed k) os h = removed_outside os k (outside (class k) h)
  one_misses Passed os h = refl
  one_misses (Replaced all) os h = absurd cc

  -- so do events if each of them does
  pub class_stays : (es : List Event) (c : Cluster) → all_miss class es ≡ true
      → of_class class (after_all es c).objects ≡ of_class class c.objects
  class_stays [] c h = refl
  class_stays (e ∷ es) c h =
      let parts = and_parts (misses class e) (all_miss class es) h in
      class_stays es (after e c) parts.1 ∙ one_misses e c.objects parts.0

-- ---- one key

-- what is under a key of a class is found among the objects of the class
pub found_in_class : (class : Key → Bool) (k : Key) (os : List (Key × Object)) → class k ≡ true
    → object_at k (of_class class os) ≡ object_at k os
found_in_class class k os inside =
    lookup-filter-keys (is_at (key_cmp k)) class true (λ l is. sym (ap class (this_key k l is)) ∙ inside) os

-- a Namespace is found among the Namespaces
pub namespace_found : (name : List ℕ) (os : List (Key × Object))
    → object_at (namespace_key name) (namespaces_in os) ≡ object_at (namespace_key name) os
namespace_found name os = found_in_class is_namespace (namespace_key name) os refl

-- this holds if there are Namespaces
pub each_namespace : {E : Type 0} (r : Result (List (Key × Object)) E) (os : List (Key × Object))
    → IfOk r (λ found. found ≡ namespaces_in os)
    → IfOk r (λ found. (name : List ℕ) → object_at (namespace_key name) found ≡ object_at (namespace_key name) os)
each_namespace (Ok found) os is = λ name. ap (object_at (namespace_key name)) is ∙ namespace_found name os
each_namespace (Err e) os is = tt

-- the object under a key that no event touches is the same after them
pub key_stays : (k : Key) (es : List Event) (c : Cluster) → all_miss (is_key k) es ≡ true
    → object_at k (after_all es c).objects ≡ object_at k c.objects
key_stays k es c h =
    let found : (os : List (Key × Object)) → object_at k (of_class (is_key k) os) ≡ object_at k os =
    λ os. lookup-filter-keys (is_at (key_cmp k)) (is_key k) true (λ l is. is) os in
    sym (found (after_all es c).objects) ∙ ap (object_at k) (class_stays (is_key k) es c h) ∙ found c.objects

-- ---- classes within classes

-- events that touch nothing of a class touch nothing of one within it
pub miss_less : (class wider : Key → Bool) → ((k : Key) → wider k ≡ false → class k ≡ false) → (es : List Event)
    → all_miss wider es ≡ true → all_miss class es ≡ true
miss_less class wider less [] h = refl
miss_less class wider less (e ∷ es) h =
    let parts = and_parts (misses wider e) (all_miss wider es) h in
    rw (one e parts.0) (miss_less class wider less es parts.1)
  where
    one : (f : Event) → misses wider f ≡ true → misses class f ≡ true
    one (Put o) h = ap not (less o.key (outside (wider o.key) h))
    one (Removed k) h = ap not (less k (outside (wider k) h))
    one Passed h = refl
    one (Replaced all) h = absurd cc

none_of : (a b d : Bool) → (a || b || d) ≡ false → (a ≡ false) × (b ≡ false) × (d ≡ false)
none_of true b d h = absurd cc
none_of false true d h = absurd cc
none_of false false d h = (refl, refl, h)

rule_parts : (k : Key) → is_rule k ≡ false → (is_policy k ≡ false) × (is_binding k ≡ false) × (is_definition k ≡ false)
rule_parts k none = none_of (is_policy k) (is_binding k) (is_definition k) none

pub miss_policies : (es : List Event) → all_miss is_rule es ≡ true → all_miss is_policy es ≡ true
miss_policies es h = miss_less is_policy is_rule (λ k none. (rule_parts k none).0) es h

pub miss_bindings : (es : List Event) → all_miss is_rule es ≡ true → all_miss is_binding es ≡ true
miss_bindings es h = miss_less is_binding is_rule (λ k none. (rule_parts k none).1) es h

pub miss_definitions : (es : List Event) → all_miss is_rule es ≡ true → all_miss is_definition es ≡ true
miss_definitions es h = miss_less is_definition is_rule (λ k none. (rule_parts k none).2) es h
