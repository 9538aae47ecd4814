-- Params in the order of their keys: what they become if one of them is put or taken away.
use Rattle.std.proofs.Common.{◌≡◌, ◌<◌, ◌≤◌, ◌+◌, ℕ, suc, Bool, true, false, List, [], ◌∷◌, ◌++◌, length, map, drop}
use Rattle.std.proofs.Common.{Option, Some, None, refl, sym, ap, ◌∙◌, subst, arith, add-one, append_assoc, drop-cons, get_or}
use Rattle.std.specs.Prelude.{IfSome, option_map, option_to_list}
use Rattle.std.specs.FinMap.Entries.{is_sorted, put, where_key}
use Rattle.std.specs.List.Sorted.{IsStrictlySortedBy}
use Rattle.std.specs.Map.{keys_of, values_of}
use Rattle.std.proofs.lemmas.Bool.{and_from}
use Rattle.std.proofs.lemmas.List.{drop_all, length-map, map-append}
use Rattle.cel_value.specs.declared.cel_type.CelType.{CelType}
use Rattle.vap_read_objects.specs.Classes.{all_miss, misses, of_class}
use Rattle.vap_read_objects.specs.Cluster.{Cluster}
use Rattle.vap_read_objects.specs.Limits.{IsWithin}
use Rattle.vap_read_objects.specs.OfKind.{object_at}
use Rattle.vap_read_objects.proofs.Classed.{found_in_class, same_key}
use Rattle.vap_read_objects.proofs.Staying.{of_kind_entries}
use Rattle.vap_read.specs.declared.policy.ParamKind.{ParamKind}
use Rattle.vap_read.specs.Keys.{key_cmp}
use Rattle.vap_read.specs.declared.event.Event.{Event}
use Rattle.vap_read.specs.declared.event.Event.TheVariants.{Removed}
use Rattle.vap_read.specs.declared.key.Key.{Key}
use Rattle.vap_read.specs.declared.object.Object.{Object}
use Rattle.vap_read.proofs.KeyOrder.{key_total}
use Rattle.vap_read_objects.specs.Fitted.{Fitted, entries_of, fitted_to, is_of_params}
use Rattle.vap_read_objects.specs.Naming.{spelled}
use Rattle.vap_read_objects.specs.Keyed.{is_in, Settles}
use Rattle.vap_read_objects.specs.Reuse.{StandUnless}
use Rattle.vap_read_objects.specs.Seen.{Param}
use Rattle.vap_read_objects.proofs.InOrder.{no_longer}
use Rattle.vap_read_objects.proofs.InOrder.{all_found, other_settled, put_settled, sorted_from, sorted_others, taken_settled}
use Rattle.vap_read_objects.specs.Tables.{AreInOrder, entries_in, entry_of, replaced}
use Rattle.vap_read_objects.proofs.Order.{entries_put, entries_without, is_other}

-- ---- what is found under each key

-- the object under a key, put in its place
pub found_put : (kind : ParamKind) (c : Cluster) (k : Key) (p : Param) (old new : List Param) → is_of_params kind k ≡ true → p.key ≡ k
    → object_at k c.objects ≡ Some p.object → entries_in new ≡ put key_cmp p.key p.object (entries_in old)
    → Settles (is_of_params kind) (entries_of kind c) (Removed k) (entries_in old) (entries_in new)
found_put kind c k p old new of same is put_is =
    subst (λ (es : List (Key × Object)). Settles (is_of_params kind) (entries_of kind c) (Removed k) (entries_in old) es)
    (sym (put_is ∙ ap (λ (x : Key). put key_cmp x p.object (entries_in old)) same))
    (
    put_settled key_cmp key_total same_key (is_of_params kind) k (entries_in old) (entries_of kind c) p.object
    (found_in_class (is_of_params kind) k c.objects of ∙ is)
    )

-- no object under it, and so no param
pub found_none : (kind : ParamKind) (c : Cluster) (k : Key) (old new : List Param) → is_of_params kind k ≡ true
    → object_at k c.objects ≡ None → entries_in new ≡ where_key key_cmp (is_other k) (entries_in old)
    → Settles (is_of_params kind) (entries_of kind c) (Removed k) (entries_in old) (entries_in new)
found_none kind c k old new of is taken =
    subst (λ (es : List (Key × Object)). Settles (is_of_params kind) (entries_of kind c) (Removed k) (entries_in old) es) (sym taken)
    (
    taken_settled key_cmp key_total same_key (is_of_params kind) k (entries_in old) (entries_of kind c)
    (found_in_class (is_of_params kind) k c.objects of ∙ is)
    )

-- what there is under a key in place of what there was
pub found_set : (kind : ParamKind) (c : Cluster) (k : Key) (found : Option Param) (old new : List Param) → is_of_params kind k ≡ true
    → IfSome found (λ p. p.key ≡ k) → option_map (λ (p : Param). p.object) found ≡ object_at k c.objects → AreInOrder old
    → new ≡ replaced k (option_to_list found) old
    → Settles (is_of_params kind) (entries_of kind c) (Removed k) (entries_in old) (entries_in new)
found_set kind c k None old new of same is ordered set =
    found_none kind c k old new of (sym is) (ap (λ (ps : List Param). entries_in ps) set ∙ entries_without k old ordered)
found_set kind c k (Some p) old new of same is ordered set =
    found_put kind c k p old new of same (sym is)
    (
    ap (λ (ps : List Param). entries_in ps) set
    ∙ ap (λ (x : Key). entries_in (replaced x (p ∷ []) old)) (sym same)
    ∙ entries_put p old
    )

-- a key of another kind
pub found_other : (kind : ParamKind) (c : Cluster) (k : Key) (ps : List Param) → is_of_params kind k ≡ false
    → Settles (is_of_params kind) (entries_of kind c) (Removed k) (entries_in ps) (entries_in ps)
found_other kind c k ps out =
    other_settled key_cmp key_total same_key (is_of_params kind) k (entries_in ps) (entries_of kind c) out

-- the entries of a kind are in order
pub kind_in_order : (kind : ParamKind) (c : Cluster) → IsStrictlySortedBy key_cmp (keys_of c.objects)
    → is_sorted key_cmp (entries_of kind c) ≡ true
kind_in_order kind c ordered =
    sorted_others key_cmp key_total same_key (is_of_params kind) c.objects (sorted_from key_cmp c.objects ordered)

-- one event after the other
pub settle_next : (class : Key → Bool) (want old new : List (Key × Object)) (es : List Event) (i : ℕ) (e : Event) → i < length es
    → e ≡ get_or es i e → Settles class want e old new → StandUnless class want (drop i es) old
    → StandUnless class want (drop (i + 1) es) new
settle_next class want old new es i e lt is settles stand k missed =
    let cut : drop i es ≡ e ∷ drop (i + 1) es =
    drop-cons es i e lt ∙ ap (λ (x : Event). x ∷ drop (suc i) es) (sym is) ∙ ap (λ (n : ℕ). e ∷ drop n es) (sym (add-one i)) in
    settles k (λ miss.
    stand k
    (
    ap (λ (xs : List Event). all_miss (is_in class k) xs) cut
    ∙ and_from (misses (is_in class k) e) (all_miss (is_in class k) (drop (i + 1) es)) miss missed
    ))

-- after the last event, what is there is all that is wanted
pub all_stand : (kind : ParamKind) (c : Cluster) (ps : List Param) (es : List Event) (i : ℕ) → length es ≤ i → AreInOrder ps
    → IsStrictlySortedBy key_cmp (keys_of c.objects)
    → StandUnless (is_of_params kind) (entries_of kind c) (drop i es) (entries_in ps) → entries_in ps ≡ entries_of kind c
all_stand kind c ps es i over ordered sorted stand =
    all_found key_cmp key_total same_key (entries_in ps) (entries_of kind c) ordered (kind_in_order kind c sorted)
    (λ q. stand q (ap (λ (xs : List Event). all_miss (is_in (is_of_params kind) q) xs) (drop_all i es over)))

-- ---- those of a kind

-- params by the entries of a map
pub in_order_by : (ps : List Param) (es : List (Key × Object)) → entries_in ps ≡ es → IsStrictlySortedBy key_cmp (keys_of es)
    → AreInOrder ps
in_order_by ps es is ordered =
    subst (λ (fs : List (Key × Object)). is_sorted key_cmp fs ≡ true) (sym is) (sorted_from key_cmp es ordered)

-- one more param after others
pub entry_behind : (ps : List Param) (p : Param) (k : Key) (o : Object) (rest more all : List (Key × Object)) → p.key ≡ k → p.object ≡ o
    → rest ≡ (k, o) ∷ more → entries_in ps ++ rest ≡ all → entries_in (ps ++ p ∷ []) ++ more ≡ all
entry_behind ps p k o rest more all key object next whole =
    ap (λ (xs : List (Key × Object)). xs ++ more) (map-append entry_of ps (p ∷ []))
    ∙ append_assoc (entries_in ps) (entry_of p ∷ []) more
    ∙ ap (λ (x : Key). entries_in ps ++ (x, p.object) ∷ more) key
    ∙ ap (λ (x : Object). entries_in ps ++ (k, x) ∷ more) object
    ∙ ap (λ (xs : List (Key × Object)). entries_in ps ++ xs) (sym next)
    ∙ whole

-- there are few
pub few_of_kind : (kind : ParamKind) (c : Cluster) (ps : List Param) → IsWithin c → entries_in ps ≡ entries_of kind c → length ps ≤ 4096
few_of_kind kind c ps within is =
    omega (
      arith,
      length-map ps entry_of,
      ap (λ (es : List (Key × Object)). length es) is,
      no_shorter (is_of_params kind) c.objects,
      within.few.objects,
    )
  where
    no_shorter : (class : Key → Bool) (os : List (Key × Object)) → length (of_class class os) ≤ length os
    no_shorter class os = no_longer (λ (e : Key × Object). class e.0) os

values_are : (ps : List Param) → map (λ (p : Param). p.object) ps ≡ values_of (entries_in ps)
values_are [] = refl
values_are (p ∷ ps) = ap (λ (os : List Object). p.object ∷ os) (values_are ps)

-- params of a kind are made of its entries
pub fitted_by : (c : Cluster) (kind k : ParamKind) (n : Bool) (type t : CelType) (ps : List Param) → k ≡ kind → t ≡ type
    → entries_in ps ≡ entries_of kind c
    → ◌≡◌ {A = Fitted} (record {
      kind = k;
      namespaced = n;
      cel_type = t;
      entries = entries_in ps;
      objects = map (λ (p : Param). p.object) ps;
    }) (fitted_to c kind n type)
fitted_by c kind k n type t ps same typed is =
    let objects = values_are ps ∙ ap values_of is ∙ sym (of_kind_entries (spelled kind.api_version) kind.kind c.objects) in λ i. record {
      kind = same i;
      namespaced = n;
      cel_type = typed i;
      entries = is i;
      objects = objects i;
    }
