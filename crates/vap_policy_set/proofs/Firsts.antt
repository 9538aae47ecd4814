-- Each kind of a cluster is the one of its group, version and name.
use Rattle.std.proofs.Common.{◌≡◌, Bool, true, false, cond, ◌||◌, List, [], ◌∷◌, ◌++◌, Option, Some, None, refl, sym, ◌∙◌}
use Rattle.std.specs.Prelude.{if◌then◌else◌}
use Rattle.std.specs.List.{AllByRecursion, find, list_any}
use Rattle.base_containers.specs.declared.text.Keyed.{Keyed}
use Rattle.serde_json.specs.Data as json
use Rattle.serde_json.specs.Data.{Data, Items}
use Rattle.serde_json.specs.Find.{get}
use Rattle.vap_match.specs.Parts.{items_in}
use Rattle.std.specs.Prelude.{codes}
use Rattle.vap_read_objects.specs.Definitions.{is_formed, named_schema}
use Rattle.vap_read_objects.specs.FixedKinds.{fixed_kinds}
use Rattle.vap_read_objects.specs.Kinds.{is_named, kind_of, with_kind, with_schema, with_versions, with_spec, with_definitions}
use Rattle.vap_read_objects.specs.Kinds.{kinds_of}
use Rattle.vap_read_objects.specs.declared.kind.Kind.{Kind}
use Rattle.vap_read.specs.declared.object.Object.{Object}
use Rattle.vap_policy_set.specs.Ready.{IsFirst}
use Rattle.vap_read_objects.proofs.Names.{itself, names_alike}

-- what is found is also found if more follows
found_before : {X : Type 0} (p : X → Bool) (xs ys : List X) (y : X) → find p xs ≡ Some y → find p (xs ++ ys) ≡ Some y
found_before p [] ys y e = absurd cc
found_before p (x ∷ xs) ys y e = at (p x) (found_before p xs ys y) e
  where
    at : (b : Bool) → (find p xs ≡ Some y → find p (xs ++ ys) ≡ Some y) → cond b (Some x) (find p xs) ≡ Some y
        → cond b (Some x) (find p (xs ++ ys)) ≡ Some y
    at true rest e = e
    at false rest e = rest e

-- if nothing is found before, the last is found
found_last : {X : Type 0} (p : X → Bool) (xs : List X) (y : X) → list_any p xs ≡ false → p y ≡ true → find p (xs ++ y ∷ []) ≡ Some y
found_last p [] y none h = rw h refl
found_last p (x ∷ xs) y none h = at (p x) (λ rest. found_last p xs y rest h) none
  where
    at : (b : Bool) → (list_any p xs ≡ false → find p (xs ++ y ∷ []) ≡ Some y) → (b || list_any p xs) ≡ false
        → cond b (Some x) (find p (xs ++ y ∷ [])) ≡ Some y
    at true rest none = absurd cc
    at false rest none = rest none

-- a kind has its own name
pub own_name : (k : Kind) → is_named k.group k.version k.kind k ≡ true
own_name k = rw (itself k.group) (rw (itself k.version) (itself k.kind))

-- each of these is the one of its name among those
abbrev AreFirst : List Kind → List Kind → Type 0
AreFirst ks all = AllByRecursion (IsFirst all) ks

kept_first : (ks all more : List Kind) → AreFirst ks all → AreFirst ks (all ++ more)
kept_first [] all more f = tt
kept_first (k ∷ ks) all more f = (found_before (is_named k.group k.version k.kind) all more k f.0, kept_first ks all more f.1)

joined : {X : Type 0} (P : X → Type 0) (xs : List X) (y : X) → AllByRecursion P xs → P y → AllByRecursion P (xs ++ y ∷ [])
joined P [] y all h = (h, tt)
joined P (x ∷ xs) y all h = (all.0, joined P xs y all.1 h)

-- so it stays if a kind is put after them
one_more : (k : Kind) (ks : List Kind) → AreFirst ks ks → AreFirst (with_kind k ks) (with_kind k ks)
unfolding with_kind
one_more k ks f = at (list_any (is_named k.group k.version k.kind) ks) refl
  where
    at : (b : Bool) → list_any (is_named k.group k.version k.kind) ks ≡ b
        → AreFirst (if b then ks else ks ++ k ∷ []) (if b then ks else ks ++ k ∷ [])
    at true e = f
    at false e =
        joined (IsFirst (ks ++ k ∷ [])) ks k (kept_first ks ks (k ∷ []) f)
        (found_last (is_named k.group k.version k.kind) ks k e (own_name k))

schema_more : (spec version : Data) (schema : Option Data) (ks : List Kind) → AreFirst ks ks
    → AreFirst (with_schema spec version schema ks) (with_schema spec version schema ks)
schema_more spec version None ks f = f
schema_more spec version (Some schema) ks f = one_more (kind_of spec version schema) ks f

versions_more : (spec : Data) (vs : Items) (ks : List Kind) → AreFirst ks ks
    → AreFirst (with_versions spec vs ks) (with_versions spec vs ks)
versions_more spec json.no_items ks f = f
versions_more spec (json.item v vs) ks f =
    versions_more spec vs (with_schema spec v (named_schema v) ks) (schema_more spec v (named_schema v) ks f)

spec_more : (spec : Option Data) (ks : List Kind) → AreFirst ks ks → AreFirst (with_spec spec ks) (with_spec spec ks)
spec_more None ks f = f
spec_more (Some spec) ks f = at (is_formed spec)
  where
    vs : Items
    vs = items_in (get (codes "versions") spec)

    at : (b : Bool) → AreFirst (if b then with_versions spec vs ks else ks) (if b then with_versions spec vs ks else ks)
    at true = versions_more spec vs ks f
    at false = f

definitions_more : (os : List (Keyed Object)) (ks : List Kind) → AreFirst ks ks → AreFirst (with_definitions os ks) (with_definitions os ks)
definitions_more [] ks f = f
definitions_more (o ∷ os) ks f =
    definitions_more os (with_spec (get (codes "spec") o.value.document) ks) (spec_more (get (codes "spec") o.value.document) ks f)

-- of definitions and the fixed kinds
pub kinds_first : (os : List (Keyed Object)) → AllByRecursion (IsFirst (kinds_of os)) (kinds_of os)
kinds_first os = definitions_more os fixed_kinds (refl, (refl, tt))

-- of two that are the ones of one name
pub one_kind : (ks : List Kind) (a b : Kind) → IsFirst ks a → IsFirst ks b → a.group ≡ b.group → a.version ≡ b.version → a.kind ≡ b.kind
    → a ≡ b
one_kind ks a b fa fb one two three =
    let e : Some a ≡ Some b = sym fa ∙ names_alike a.group b.group a.version b.version a.kind b.kind ks one two three ∙ fb in cc
