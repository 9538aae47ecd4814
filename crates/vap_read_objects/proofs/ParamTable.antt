-- The params of the kinds that policies name, and which of them is found for a kind.
use Rattle.std.proofs.Common.{◌≡◌, Bool, true, false, not, cond, ◌||◌, List, [], ◌∷◌, ◌++◌, filter, Option, Some, None, refl, sym, ap}
use Rattle.std.proofs.Common.{◌∙◌, subst, unwrap_or, option_map, option_and_then, option_to_list}
use Rattle.std.specs.List.{AllByRecursion, find, flat_map, list_any}
use Rattle.std.proofs.lemmas.List.Folds.{list_any-append}
use Rattle.cel_value.specs.declared.cel_type.CelType.{CelType}
use Rattle.base_containers.specs.declared.text.Keyed.{Keyed}
use Rattle.vap_read_objects.specs.declared.kind.Kind.{Kind}
use Rattle.vap_read_objects.specs.Cluster.{Cluster}
use Rattle.vap_read.specs.declared.policy.ParamKind.{ParamKind}
use Rattle.vap_read.specs.declared.policy.Policy.{Policy}
use Rattle.vap_read_objects.specs.Fitted.{Fitted, each_once, fitted_at, fitted_in, fitted_to, is_same_kind, kind_in, params_of}
use Rattle.vap_read_objects.specs.Naming.{kind_of_params}
use Rattle.vap_read_objects.specs.Reuse.{AreRefitted, IsKnownBy}
use Rattle.vap_read_objects.proofs.Once.{own_kind, same_kind}

-- a kind is written as one of these
abbrev pub is_among : ParamKind → List ParamKind → Bool
is_among k js = list_any (λ j. is_same_kind j k) js

-- ---- what is found in the table

-- what there is is of this kind
abbrev IsOfKind : ParamKind → Option Fitted → Type 0
IsOfKind k None = Unit {0}
IsOfKind k (Some q) = q.kind ≡ k

of_its_kind : (kinds : List Kind) (c : Cluster) (k : ParamKind) → IsOfKind k (params_of kinds c (Some k))
of_its_kind kinds c k = at (kind_of_params kinds k)
  where
    typed : (n : Bool) (t : Option CelType) → IsOfKind k (option_map (fitted_to c k n) t)
    typed n None = tt
    typed n (Some t) = refl

    at : (known : Option Kind) → IsOfKind k (option_and_then (fitted_at c k) known)
    at None = tt
    at (Some kind) = typed kind.namespaced kind.object_type

neither : (b : Bool) (o : Option Fitted) → o ≡ None → cond b o None ≡ o
neither true o none = refl
neither false o none = sym none

module _ (kinds : List Kind) (c : Cluster) (k : ParamKind) where
  abbrev pub found : List Fitted → Option Fitted
  found qs = find (λ q. is_same_kind q.kind k) qs

  -- after the params of one kind more
  behind : (j : ParamKind) (qs : List Fitted) (b : Bool) → found qs ≡ cond b (params_of kinds c (Some k)) None
      → found (fitted_in kinds c j ++ qs) ≡ cond (is_same_kind j k || b) (params_of kinds c (Some k)) None
  unfolding fitted_in
  behind j qs b rest = at (is_same_kind j k) refl (params_of kinds c (Some j)) refl (of_its_kind kinds c j)
    where
      at : (s : Bool) → is_same_kind j k ≡ s → (o : Option Fitted) → params_of kinds c (Some j) ≡ o → IsOfKind j o
          → found (option_to_list o ++ qs) ≡ cond (s || b) (params_of kinds c (Some k)) None
      at true same None e of =
          let none : params_of kinds c (Some k) ≡ None =
          subst (λ (x : ParamKind). params_of kinds c (Some x) ≡ None) (same_kind j k same) e in
          rest ∙ neither b (params_of kinds c (Some k)) none
      at true same (Some q) e of =
          ap (λ (s : Bool). cond s (Some q) (found qs)) (ap (λ (x : ParamKind). is_same_kind x k) of ∙ same)
          ∙ sym (subst (λ (x : ParamKind). params_of kinds c (Some x) ≡ Some q) (same_kind j k same) e)
      at false other None e of = rest
      at false other (Some q) e of =
          ap (λ (s : Bool). cond s (Some q) (found qs)) (ap (λ (x : ParamKind). is_same_kind x k) of ∙ other) ∙ rest

  -- among the params of kinds, those of each of them are found
  pub all_found : (js : List ParamKind)
      → found (flat_map (fitted_in kinds c) js) ≡ cond (is_among k js) (params_of kinds c (Some k)) None
  all_found [] = refl
  all_found (j ∷ js) = behind j (flat_map (fitted_in kinds c) js) (is_among k js) (all_found js)

-- what is found for a kind among params that objects have is of the kind, and what they have of it by its type
pub found_kept : (c : Cluster) (k : ParamKind) (qs : List Fitted) → AllByRecursion (AreRefitted c) qs
    → (q : Fitted) → find (λ p. is_same_kind p.kind k) qs ≡ Some q → AreRefitted c q × (q.kind ≡ k)
found_kept c k [] all q h = absurd cc
found_kept c k (p ∷ qs) all q h = at (is_same_kind p.kind k) refl (found_kept c k qs all.1 q) h
  where
    at : (s : Bool) → is_same_kind p.kind k ≡ s
        → (find (λ p. is_same_kind p.kind k) qs ≡ Some q → AreRefitted c q × (q.kind ≡ k))
        → cond s (Some p) (find (λ p. is_same_kind p.kind k) qs) ≡ Some q → AreRefitted c q × (q.kind ≡ k)
    at true same rest h =
        let is : p ≡ q = ap (λ (o : Option Fitted). unwrap_or o p) h in
        subst (λ (x : Fitted). AreRefitted c x × (x.kind ≡ k)) is (all.0, same_kind p.kind k same)
    at false other rest h = rest h

-- they are what the objects have of it, if its type is theirs
pub kept_theirs : (kinds : List Kind) (c : Cluster) (k : ParamKind) (q : Fitted) → AreRefitted c q × (q.kind ≡ k) → IsKnownBy kinds q
    → Some q ≡ params_of kinds c (Some k)
kept_theirs kinds c k q kept known =
    ap (λ (x : Fitted). Some x) kept.0
    ∙ sym (known c)
    ∙ ap (λ (x : ParamKind). params_of kinds c (Some x)) kept.1

-- a kind that is known by the type of params
pub known_by : (kinds : List Kind) (q : Fitted) (kind : Kind) → kind_of_params kinds q.kind ≡ Some kind
    → (kind.namespaced ≡ q.namespaced) × (kind.object_type ≡ Some q.cel_type) → IsKnownBy kinds q
known_by kinds q kind known is c =
    ap (option_and_then (fitted_at c q.kind)) known
    ∙ ap (λ (n : Bool). option_map (fitted_to c q.kind n) kind.object_type) is.0
    ∙ ap (option_map (fitted_to c q.kind q.namespaced)) is.1

-- ---- which kinds there are

-- a kind is not another
still_among : (j k : ParamKind) (us : List ParamKind) → is_same_kind j k ≡ false → is_among k us ≡ true
    → is_among k (filter (λ u. not (is_same_kind u j)) us) ≡ true
still_among j k [] other h = absurd cc
still_among j k (u ∷ us) other h = at (is_same_kind u k) refl (is_same_kind u j) refl (still_among j k us other) h
  where
    at : (s : Bool) → is_same_kind u k ≡ s → (e : Bool) → is_same_kind u j ≡ e
        → (is_among k us ≡ true → is_among k (filter (λ x. not (is_same_kind x j)) us) ≡ true) → (s || is_among k us) ≡ true
        → is_among k (cond (not e) (u ∷ filter (λ x. not (is_same_kind x j)) us) (filter (λ x. not (is_same_kind x j)) us)) ≡ true
    at true same true one rest h =
        absurd
        (
        let clash : true ≡ false = sym (subst (λ (x : ParamKind). is_same_kind x k ≡ true) (same_kind u j one) same) ∙ other in cc
        )
    at true same false one rest h = ap (λ b. b || is_among k (filter (λ x. not (is_same_kind x j)) us)) same
    at false same true one rest h = rest h
    at false same false one rest h =
        ap (λ b. b || is_among k (filter (λ x. not (is_same_kind x j)) us)) same ∙ rest h

-- each of some kinds is among them, each once
pub among_once : (k : ParamKind) (js : List ParamKind) → is_among k js ≡ true → is_among k (each_once js) ≡ true
among_once k [] h = absurd cc
among_once k (j ∷ js) h = at (is_same_kind j k) refl (among_once k js) h
  where
    at : (s : Bool) → is_same_kind j k ≡ s → (is_among k js ≡ true → is_among k (each_once js) ≡ true) → (s || is_among k js) ≡ true
        → is_among k (each_once (j ∷ js)) ≡ true
    at true same rest h = ap (λ b. b || is_among k (filter (λ u. not (is_same_kind u j)) (each_once js))) same
    at false other rest h =
        ap (λ b. b || is_among k (filter (λ u. not (is_same_kind u j)) (each_once js))) other
        ∙ still_among j k (each_once js) other (rest h)

-- a kind, if one is named, is one of these
abbrev pub IsNamed : List ParamKind → Option ParamKind → Type 0
IsNamed ks None = Unit {0}
IsNamed ks (Some k) = is_among k ks ≡ true

first_of : (b d : Bool) → b ≡ true → (b || d) ≡ true
first_of true d h = refl
first_of false d h = absurd cc

last_of : (b d : Bool) → d ≡ true → (b || d) ≡ true
last_of true d h = refl
last_of false d h = h

pub each_named : (all : List ParamKind) (ps : List (Keyed Policy))
    → ((k : ParamKind) → is_among k (flat_map kind_in ps) ≡ true → is_among k all ≡ true)
    → AllByRecursion (λ (p : Keyed Policy). IsNamed all p.value.spec.param_kind) ps
each_named all [] among = tt
each_named all (p ∷ ps) among = (
  own p.value.spec.param_kind (λ k h.
      among k
      (
      list_any-append (λ j. is_same_kind j k) (kind_in p) (flat_map kind_in ps)
      ∙ first_of (is_among k (kind_in p)) (is_among k (flat_map kind_in ps)) h
      )),
  each_named all ps (λ k h.
      among k
      (
      list_any-append (λ j. is_same_kind j k) (kind_in p) (flat_map kind_in ps)
      ∙ last_of (is_among k (kind_in p)) (is_among k (flat_map kind_in ps)) h
      )),
)
  where
    own : (o : Option ParamKind) → ((k : ParamKind) → is_among k (option_to_list o) ≡ true → is_among k all ≡ true) → IsNamed all o
    own None h = tt
    own (Some k) h = h k (first_of (is_same_kind k k) false (own_kind k))
