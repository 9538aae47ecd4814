-- The kind that is found by a name is the one of its own name.
use Rattle.std.proofs.Common.{◌≡◌, ℕ, Bool, true, false, cond, ◌&&◌, List, [], ◌∷◌, Option, Some, None, refl, sym, ap, ◌∙◌}
use Rattle.std.specs.List.{find}
use Rattle.std.specs.Str.{bytes_eq}
use Rattle.vap_read_objects.specs.Kinds.{is_named, kind_named}
use Rattle.vap_read_objects.specs.declared.kind.Kind.{Kind}
use Rattle.vap_match.specs.declared.request.Admission.{Admission}
use Rattle.vap_match.specs.declared.request.Resource.{Resource}
use Rattle.vap_read_objects.proofs.Names.{same_text, names_alike}
use Rattle.vap_policy_set.specs.Ready.{IsFirst, IsOneOf}
use Rattle.vap_policy.specs.Places.{if_its_own, is_resource_of, kind_at}

found_passes : {X : Type 0} (p : X → Bool) (xs : List X) (y : X) → find p xs ≡ Some y → p y ≡ true
found_passes p [] y e = absurd cc
found_passes p (x ∷ xs) y e = at (p x) refl (found_passes p xs y) e
  where
    at : (b : Bool) → p x ≡ b → (find p xs ≡ Some y → p y ≡ true) → cond b (Some x) (find p xs) ≡ Some y → p y ≡ true
    at true h rest e = let same : x ≡ y = cc in ap p (sym same) ∙ h
    at false h rest e = rest e

all_three : (a b c : Bool) → (a && b && c) ≡ true → (a ≡ true) × (b ≡ true) × (c ≡ true)
all_three true true true h = (refl, refl, refl)
all_three true true false h = absurd cc
all_three true false c h = absurd cc
all_three false b c h = absurd cc

first_named : (g v n : List ℕ) (ks : List Kind) (k : Kind) → kind_named g v n ks ≡ Some k → IsFirst ks k
first_named g v n ks k e =
    let named = found_passes (is_named g v n) ks k e in
    let same = all_three (bytes_eq k.group g) (bytes_eq k.version v) (bytes_eq k.kind n) named in
    names_alike k.group g k.version v k.kind n ks
    (same_text k.group g same.0) (same_text k.version v same.1) (same_text k.kind n same.2) ∙ e

own_first : (g v n : List ℕ) (r : Resource) (ks : List Kind) (k : Option Kind) → kind_named g v n ks ≡ k → IsOneOf ks (if_its_own r k)
own_first g v n r ks None e = tt
own_first g v n r ks (Some k) e = at (is_resource_of k r)
  where
    at : (b : Bool) → IsOneOf ks (cond b (Some k) None)
    at true = first_named g v n ks k e
    at false = tt

-- the kind of a request is one of these
pub kind_first : (ks : List Kind) (r : Admission) → IsOneOf ks (kind_at ks r)
kind_first ks r =
    own_first r.kind.group r.kind.version r.kind.kind r.resource ks
    (kind_named r.kind.group r.kind.version r.kind.kind ks) refl
