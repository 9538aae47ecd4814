-- A policy is something at each kind that it names.
use Rattle.std.proofs.Common.{◌≡◌, ℕ, Bool, true, false, cond, ◌||◌, List, [], ◌∷◌, map, filter, find}
use Rattle.std.proofs.Common.{Option, Some, None, option_map, option_and_then, is_some, Result, Ok, Err, refl, sym, ap, subst}
use Rattle.std.specs.List.{AllByRecursion, list_any}
use Rattle.std.proofs.lemmas.List.Elements.{All-from_recursion}
use Rattle.cel_value.specs.declared.cel_type.CelType.{CelType}
use Rattle.base_containers.specs.declared.text.Keyed.{Keyed}
use Rattle.vap_read.specs.declared.binding.Binding.{Binding}
use Rattle.vap_read_objects.specs.Kinds.{is_named, kind_named}
use Rattle.vap_read_objects.specs.declared.kind.Kind.{Kind}
use Rattle.vap_read_objects.specs.Cluster.{Cluster}
use Rattle.vap_read_objects.specs.Listed.{bindings_in, definitions_in, policies_in}
use Rattle.vap_read.specs.declared.policy.ParamKind.{ParamKind}
use Rattle.vap_read.specs.declared.policy.Policy.{Policy}
use Rattle.vap_read.specs.declared.policy.PolicySpec.{PolicySpec}
use Rattle.vap_policy_programs.specs.Pairs.{pair_by, pair_of, programs_with}
use Rattle.vap_policy_programs.specs.declared.names.KindTypes.{KindTypes}
use Rattle.vap_policy_programs.specs.declared.names.ParamsType.TheVariants.{Absent, Known}
use Rattle.vap_policy_programs.specs.declared.pair_fault.PairFault.{PairFault}
use Rattle.vap_policy_programs.specs.declared.programs.Programs.{Programs}
use Rattle.vap_read_objects.specs.Naming.{kind_of_params}
use Rattle.vap_policy_set.specs.Kinds.{params_by, params_type, type_or_opaque, types_at}
use Rattle.vap_policy_set.specs.Made.{pair_made}
use Rattle.vap_policy_set.specs.Parts.{part_of}
use Rattle.vap_policy_set.specs.Ready.{IsFirst, IsOneOf}
use Rattle.vap_policy_set.specs.Sets.{Holdings, IsOfObjects, bound_of, holdings_of, is_looked_at, is_pair_of, kind_pair, kinds_of, pairs_of}
use Rattle.vap_policy_set.specs.Sets.{policies_by}
use Rattle.vap_policy_set.specs.Whole.{AreWhole, HasKnownParams, IsSomething, IsWholeAt}
use Rattle.vap_policy_set.specs.declared.bound.KindPair.{KindPair}
use Rattle.vap_policy_set.specs.declared.choice.Choice.{Choice}
use Rattle.vap_policy_set.proofs.Firsts.{kinds_first, own_name}
use Rattle.vap_policy_set.proofs.Standing.{IsOfKind, all_of_kinds}

second : (b c : Bool) → c ≡ true → (b || c) ≡ true
second true c h = refl
second false c h = h

first : (b c : Bool) → b ≡ true → (b || c) ≡ true
first true c h = refl
first false c h = absurd cc

-- a kind that is looked at has its own pair
all_there : (refused : List (List ℕ)) (kinds : List Kind) (p : PolicySpec) (g v n : List ℕ) (k : Kind) (ks : List Kind)
    → kind_named g v n ks ≡ Some k → is_looked_at p k ≡ true
    → list_any (is_pair_of k) (map (kind_pair refused kinds p) (filter (is_looked_at p) ks)) ≡ true
all_there refused kinds p g v n k [] found looked = absurd cc
all_there refused kinds p g v n k (x ∷ xs) found looked =
    at (is_named g v n x) (λ rest. among (is_looked_at p x) (all_there refused kinds p g v n k xs rest looked)) found
  where
    Among : List KindPair → Type 0
    Among es = list_any (is_pair_of k) es ≡ true

    rest : List KindPair
    rest = map (kind_pair refused kinds p) (filter (is_looked_at p) xs)

    among : (b : Bool) → Among rest → Among
        (map (kind_pair refused kinds p) (cond b (x ∷ filter (is_looked_at p) xs) (filter (is_looked_at p) xs)))
    among true h = second (is_pair_of k (kind_pair refused kinds p x)) (list_any (is_pair_of k) rest) h
    among false h = h

    own : (b : Bool) → is_looked_at p x ≡ b → k ≡ x
        → Among (map (kind_pair refused kinds p) (cond b (x ∷ filter (is_looked_at p) xs) (filter (is_looked_at p) xs)))
    own true e same =
        first (is_pair_of k (kind_pair refused kinds p x)) (list_any (is_pair_of k) rest)
        (subst (λ (y : Kind). is_pair_of k (kind_pair refused kinds p y) ≡ true) same (own_name k))
    own false e same = absurd (let h = subst (λ (y : Kind). is_looked_at p y ≡ true) same looked in cc)

    at : (b : Bool)
        → (kind_named g v n xs ≡ Some k → Among (map (kind_pair refused kinds p) (filter (is_looked_at p) (x ∷ xs))))
        → cond b (Some x) (kind_named g v n xs) ≡ Some k → Among (map (kind_pair refused kinds p) (filter (is_looked_at p) (x ∷ xs)))
    at true other e = own (is_looked_at p x) refl (cc)
    at false other e = other e

-- ---- what is found

-- what runs has params of a kind that is known, if it names one
something_by : (kinds : List Kind) (o : Option ParamKind) (r : Result Programs PairFault) → HasKnownParams kinds o
    → IsSomething kinds o (Some (pair_by r))
something_by kinds o (Ok ps) known = known
something_by kinds o (Err why) known = tt

something_at : (choice : List (List ℕ)) (types : KindTypes) (kinds : List Kind) (o : Option ParamKind) (p : PolicySpec)
    → IsSomething kinds o (Some (pair_of choice types (params_type kinds o) p))
unfolding pair_of
something_at choice types kinds None p = something_by kinds None (programs_with choice types Absent p) tt
something_at choice types kinds (Some k) p = at (option_and_then (λ (x : Kind). x.object_type) (kind_of_params kinds k)) refl
  where
    at : (t : Option CelType) → option_and_then (λ (x : Kind). x.object_type) (kind_of_params kinds k) ≡ t
        → IsSomething kinds (Some k) (Some (pair_by (programs_with choice types (params_by t) p)))
    at None e = tt
    at (Some t) e = something_by kinds (Some k) (programs_with choice types (Known t) p) (ap (λ x. is_some x) e)

some_found : (refused : List (List ℕ)) (kinds : List Kind) (p : PolicySpec) (k : Kind) (es : List KindPair)
    → AllByRecursion (IsOfKind refused kinds p) es → list_any (is_pair_of k) es ≡ true
    → IsSomething kinds p.param_kind (option_map (λ e. pair_made e.made) (find (is_pair_of k) es))
some_found refused kinds p k [] all h = absurd cc
some_found refused kinds p k (e ∷ es) all h = at (is_pair_of k e) (some_found refused kinds p k es all.1) h
  where
    Found : Option KindPair → Type 0
    Found found = IsSomething kinds p.param_kind (option_map (λ x. pair_made x.made) found)

    at : (b : Bool) → (list_any (is_pair_of k) es ≡ true → Found (find (is_pair_of k) es)) → (b || list_any (is_pair_of k) es) ≡ true
        → Found (cond b (Some e) (find (is_pair_of k) es))
    at true rest h =
        subst (λ (x : KindPair). Found (Some x)) (sym all.0.is)
        (something_at refused (types_at (type_or_opaque all.0.kind.object_type)) kinds p.param_kind p)
    at false rest h = rest h

one_whole : (h : Holdings) (bindings : List (Keyed Binding)) (p : Keyed Policy) (k : Option Kind)
    → AllByRecursion (IsFirst (kinds_of h)) (kinds_of h) → IsOneOf (kinds_of h) k
    → IsWholeAt h k (bound_of h.choice (kinds_of h) bindings p)
one_whole h bindings p None firsts first =
    λ named. something_at (part_of h.choice p.value.spec) (types_at (type_or_opaque None)) (kinds_of h) p.value.spec.param_kind p.value.spec
one_whole h bindings p (Some k) firsts first = λ looked.
    let refused = part_of h.choice p.value.spec in
    some_found refused (kinds_of h) p.value.spec k (pairs_of refused (kinds_of h) p.value.spec)
    (all_of_kinds refused (kinds_of h) p.value.spec (kinds_of h) firsts)
    (all_there refused (kinds_of h) p.value.spec k.group k.version k.kind k (kinds_of h) first looked)

each_whole : (h : Holdings) (bindings : List (Keyed Binding)) (ps : List (Keyed Policy)) (k : Option Kind)
    → AllByRecursion (IsFirst (kinds_of h)) (kinds_of h) → IsOneOf (kinds_of h) k
    → AllByRecursion (IsWholeAt h k) (map (bound_of h.choice (kinds_of h) bindings) ps)
each_whole h bindings [] k firsts first = tt
each_whole h bindings (p ∷ ps) k firsts first = (one_whole h bindings p k firsts first, each_whole h bindings ps k firsts first)

built_whole : (c : Cluster) (choice : Choice) → AreWhole (holdings_of c choice)
unfolding holdings_of
built_whole c choice k first =
    All-from_recursion (IsWholeAt (holdings_of c choice) k) (policies_by choice c)
    (
    each_whole (holdings_of c choice) (bindings_in c.objects) (policies_in c.objects) k (kinds_first (definitions_in c.objects)) first
    )

-- so is each policy of a set
pub set_whole : (h : Holdings) → IsOfObjects h → AreWhole h
set_whole h source = subst AreWhole (sym source.is) (built_whole source.objects h.choice)
