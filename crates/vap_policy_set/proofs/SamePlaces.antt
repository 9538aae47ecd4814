-- Places that are put once.
use Rattle.std.proofs.Common.{◌≡◌, ◌+◌, ◌<◌, ◌≤◌, ℕ, Bool, true, false, ◌||◌, List, [], ◌∷◌, ◌++◌, length, get_or, drop}
use Rattle.std.proofs.Common.{append-nil, append_assoc, refl, sym, ap, subst, ◌∙◌, Result, Ok, Err, IfOk}
use Rattle.std.specs.List.{flat_map, list_any}
use Rattle.std.specs.List.Sorted.{IsStrictlySortedBy}
use Rattle.std.specs.Str.{bytes_eq}
use Rattle.std.proofs.lemmas.Bool.{and_parts}
use Rattle.std.proofs.lemmas.List.{drop_all}
use Rattle.std.proofs.lemmas.List.Folds.{list_any-append}
use Rattle.std.proofs.lemmas.Slice.Eq.{bytes_eq-Decides}
use Rattle.vap_policy_programs.proofs.Each.{next_is}
use Rattle.vap_policy_set.specs.PlaceOrder.{place_cmp}
use Rattle.vap_policy_set.specs.Places.{AreNamedBy, NameSame, group_places, is_place, place_of, rule_places}
use Rattle.vap_match.specs.declared.rules.Rule.{Rule}
use Rattle.vap_policy_set.specs.declared.places.Place.{Place}

-- ---- a place that is there already

this_place : (k l : Place) → is_place k.group k.resource l ≡ true → l ≡ k
this_place k l is =
    let parts = and_parts (bytes_eq l.group k.group) (bytes_eq l.resource k.resource) is in λ i. record {
      group = (bytes_eq-Decides l.group k.group).0 parts.0 i;
      resource = (bytes_eq-Decides l.resource k.resource).0 parts.1 i;
    }

told_twice : (a b c : Bool) → (b ≡ (b || c)) → (a || b) ≡ ((a || b) || c)
told_twice true b c h = refl
told_twice false b c h = h

told_first : (a b : Bool) → (a || b) ≡ ((a || b) || a)
told_first true b = refl
told_first false true = refl
told_first false false = refl

-- a place that is among others names no more
named_twice : (p : Place → Bool) (k : Place) (ks : List Place) → list_any (is_place k.group k.resource) ks ≡ true
    → list_any p ks ≡ (list_any p ks || p k)
named_twice p k [] there = absurd cc
named_twice p k (l ∷ ks) there = at (is_place k.group k.resource l) refl (named_twice p k ks) there
  where
    at : (b : Bool) → is_place k.group k.resource l ≡ b
        → (list_any (is_place k.group k.resource) ks ≡ true → list_any p ks ≡ (list_any p ks || p k))
        → (b || list_any (is_place k.group k.resource) ks) ≡ true → (p l || list_any p ks) ≡ ((p l || list_any p ks) || p k)
    at true is rest there =
        told_first (p l) (list_any p ks) ∙ ap (λ (x : Place). (p l || list_any p ks) || p x) (this_place k l is)
    at false is rest there = told_twice (p l) (list_any p ks) (p k) (rest there)

or_false : (a : Bool) → a ≡ (a || false)
or_false true = refl
or_false false = refl

pub put_again : (ks : List Place) (k : Place) → list_any (is_place k.group k.resource) ks ≡ true → NameSame ks (ks ++ k ∷ [])
put_again ks k there g r =
    named_twice (is_place g r) k ks there
    ∙ ap (λ b. list_any (is_place g r) ks || b) (or_false (is_place g r k))
    ∙ sym (list_any-append (is_place g r) ks (k ∷ []))

-- ---- places that are put one after the other

pub names_on : (old new more rest all : List Place) → NameSame new (old ++ more) → NameSame (old ++ (more ++ rest)) all
    → NameSame (new ++ rest) all
names_on old new more rest all put whole g r =
    list_any-append (is_place g r) new rest
    ∙ ap (λ b. b || list_any (is_place g r) rest) (put g r)
    ∙ sym (list_any-append (is_place g r) (old ++ more) rest)
    ∙ ap (list_any (is_place g r)) (append_assoc old more rest)
    ∙ whole g r

-- those of the next of some things
pub names_next : {X : Type 0} (f : X → List Place) (xs : List X) (i : ℕ) (x : X) (old new all : List Place) → i < length xs
    → x ≡ get_or xs i x → NameSame new (old ++ f x) → NameSame (old ++ flat_map f (drop i xs)) all
    → NameSame (new ++ flat_map f (drop (i + 1) xs)) all
names_next f xs i x old new all lt is put whole =
    names_on old new (f x) (flat_map f (drop (i + 1) xs)) all put
    (subst (λ ys. NameSame (old ++ flat_map f ys) all) (next_is xs i x lt is) whole)

-- those of all of them
pub names_all : {X : Type 0} (f : X → List Place) (xs : List X) (i : ℕ) (old all : List Place) → length xs ≤ i
    → NameSame (old ++ flat_map f (drop i xs)) all → NameSame old all
names_all f xs i old all past whole =
    subst (λ ks. NameSame ks all) (append-nil old) (subst (λ ys. NameSame (old ++ flat_map f ys) all) (drop_all i xs past) whole)

-- the places of patterns, one after the other
abbrev pub one_place : List ℕ → List ℕ → List Place
one_place group pattern = place_of group pattern ∷ []

pub each_place : (patterns : List (List ℕ)) (group : List ℕ) → flat_map (one_place group) patterns ≡ group_places patterns group
each_place [] group = refl
each_place (p ∷ ps) group = ap (λ ks. place_of group p ∷ ks) (each_place ps group)

-- places, one after the other
abbrev pub itself : Place → List Place
itself k = k ∷ []

pub each_itself : (ks : List Place) → flat_map itself ks ≡ ks
each_itself [] = refl
each_itself (k ∷ ks) = ap (λ ls. k ∷ ls) (each_itself ks)

-- ---- places in order

-- places that are the same in order are named by these rules
pub named_by : {E : Type 0} (r : Result (List Place) E) (rules : List Rule) (ks : List Place) → IsStrictlySortedBy place_cmp ks
    → NameSame ks (flat_map rule_places rules) → IfOk r (λ ls. ls ≡ ks) → IfOk r (AreNamedBy rules)
named_by (Ok ls) rules ks ordered same is =
    subst (AreNamedBy rules) (sym is) (record { ordered = ordered; same = same })
named_by (Err error) rules ks ordered same is = tt

-- ---- places of policies

-- what is named by the rules of a policy may stand for what its rules name
pub names_policy : (old new ks ls : List Place) → NameSame new (old ++ ks) → NameSame ks ls → NameSame new (old ++ ls)
names_policy old new ks ls put same g r =
    put g r
    ∙ list_any-append (is_place g r) old ks
    ∙ ap (λ b. list_any (is_place g r) old || b) (same g r)
    ∙ sym (list_any-append (is_place g r) old ls)
