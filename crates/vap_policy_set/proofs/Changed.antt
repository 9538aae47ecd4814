-- Which policies events change, and what stays of a set's policies.
use Rattle.std.proofs.Common.{◌≡◌, ◌<◌, ◌≤◌, ◌+◌, ◌&&◌, ◌||◌, ℕ, Bool, true, false, not, cond, List, [], ◌∷◌, ◌++◌}
use Rattle.std.proofs.Common.{Option, Some, None, Result, Ok, Err, refl, sym, ap, ◌∙◌, subst, true≢false}
use Rattle.std.proofs.Common.{filter, get_or, length, map, drop, take}
use Rattle.std.specs.Prelude.{IfOk, IfSome, OnOk, if◌then◌else◌}
use Rattle.std.specs.List.{list_any}
use Rattle.std.specs.Str.{bytes_eq}
use Rattle.std.proofs.lemmas.Bool.{and_from, and_parts}
use Rattle.std.proofs.lemmas.List.{drop_all, take_more}
use Rattle.std.proofs.lemmas.List.Elements.{All-from_recursion}
use Rattle.std.proofs.lemmas.Slice.Eq.{bytes_eq-Decides}
use Rattle.base_containers.specs.declared.text.Keyed.{Keyed}
use Rattle.vap_read.specs.declared.binding.Binding.{Binding}
use Rattle.vap_read.specs.declared.event.Event.{Event}
use Rattle.vap_read.specs.declared.key.Key.{Key}
use Rattle.vap_read.specs.declared.policy.Policy.{Policy}
use Rattle.vap_read_objects.specs.Classes.{all_miss, has_other_name, is_one_of, is_other_policy, is_policy, misses}
use Rattle.vap_read_objects.specs.Cluster.{Cluster}
use Rattle.vap_read_objects.specs.Listed.{bindings_in, kinds_in, policies_in}
use Rattle.vap_read_objects.specs.declared.kind.Kind.{Kind}
use Rattle.vap_read_objects.proofs.Classed.{miss_less}
use Rattle.vap_read_objects.proofs.OtherPolicies.{other_policies_stay}
use Rattle.vap_policy_programs.proofs.Each.{next_is}
use Rattle.vap_policy_set.specs.Changed.{HasTaken, IsNext, KeepOthers, MissOthers, has_changed, policy_name}
use Rattle.vap_policy_set.specs.Reuse.{IsBefore}
use Rattle.vap_policy_set.specs.Sets.{Holdings, bound_of}
use Rattle.vap_policy_set.specs.Still.{AreBound, IsBound, IsOldOf, named_of}
use Rattle.vap_policy_set.specs.declared.bound.BoundPolicy.{BoundPolicy}
use Rattle.vap_policy_set.specs.declared.changed_policies.ChangedPolicies.{ChangedPolicies}
use Rattle.vap_policy_set.specs.declared.choice.Choice.{Choice}
use Rattle.vap_policy_set.proofs.StillBound.{bound_at, bound_behind, held_policies}

-- ---- one name more

any_left : (p : List ℕ → Bool) (xs ys : List (List ℕ)) → list_any p xs ≡ true → list_any p (xs ++ ys) ≡ true
any_left p [] ys h = absurd (true≢false (sym h))
any_left p (x ∷ xs) ys h = at (p x) h (any_left p xs ys)
  where
    at : (b : Bool) → (b || list_any p xs) ≡ true → (list_any p xs ≡ true → list_any p (xs ++ ys) ≡ true)
        → (b || list_any p (xs ++ ys)) ≡ true
    at true h rest = refl
    at false h rest = rest h

any_last : (p : List ℕ → Bool) (xs : List (List ℕ)) (y : List ℕ) → p y ≡ true → list_any p (xs ++ y ∷ []) ≡ true
any_last p [] y h = ap (λ b. b || false) h
any_last p (x ∷ xs) y h = at (p x) (any_last p xs y h)
  where
    at : (b : Bool) → list_any p (xs ++ y ∷ []) ≡ true → (b || list_any p (xs ++ y ∷ [])) ≡ true
    at true h = refl
    at false h = h

-- a policy that is none of the others is none of them if more are named
others_less : (names more : List (List ℕ)) (k : Key) → is_other_policy names k ≡ false → is_other_policy (names ++ more) k ≡ false
others_less names more k h = at (is_policy k) (is_one_of names k.name) refl h
  where
    at : (b c : Bool) → is_one_of names k.name ≡ c → (b && not c) ≡ false → (b && not (is_one_of (names ++ more) k.name)) ≡ false
    at false c is h = refl
    at true true is h = ap not (any_left (λ n. bytes_eq n k.name) names more is)
    at true false is h = absurd (true≢false h)

still_missed : (names more : List (List ℕ)) (es : List Event) → all_miss (is_other_policy names) es ≡ true
    → all_miss (is_other_policy (names ++ more)) es ≡ true
still_missed names more es h = miss_less (is_other_policy (names ++ more)) (is_other_policy names) (others_less names more) es h

-- a key whose name is named, if it is a policy's, is none of the others
key_named : (names : List (List ℕ)) (k : Key) → is_other_policy (names ++ policy_name k) k ≡ false
unfolding policy_name
key_named names k = at (is_policy k)
  where
    at : (b : Bool) → (b && not (is_one_of (names ++ (if b then k.name ∷ [] else [])) k.name)) ≡ false
    at true = ap not (any_last (λ n. bytes_eq n k.name) names k.name ((bytes_eq-Decides k.name k.name).1 refl))
    at false = refl

takes_key : (event : Event) (k : Key) (old new : ChangedPolicies)
    → ((class : Key → Bool) → class k ≡ false → misses class event ≡ true) → new.all ≡ old.all
    → new.names.items ≡ old.names.items ++ policy_name k → HasTaken event old new
takes_key event k old new missing all names = record {
  more = policy_name k;
  grown = names;
  all = λ none. sym all ∙ none;
  missed = λ none. missing (is_other_policy new.names.items)
      (ap (λ (ns : List (List ℕ)). is_other_policy ns k) names ∙ key_named old.names.items k);
}

-- the same of a key whose name is added, if memory suffices
pub takes_if : {X E : Type 0} (r : Result X E) (event : Event) (k : Key) (old new : ChangedPolicies)
    → ((class : Key → Bool) → class k ≡ false → misses class event ≡ true) → OnOk r (new.all ≡ old.all)
    → OnOk r (new.names.items ≡ old.names.items ++ policy_name k) → OnOk r (HasTaken event old new)
takes_if (Ok x) event k old new missing all names = takes_key event k old new missing all names
takes_if (Err e) event k old new missing all names = tt

all_miss_more : (class : Key → Bool) (es : List Event) (e : Event) → all_miss class es ≡ true → misses class e ≡ true
    → all_miss class (es ++ e ∷ []) ≡ true
all_miss_more class [] e before one = and_from (misses class e) true one refl
all_miss_more class (x ∷ es) e before one =
    let parts = and_parts (misses class x) (all_miss class es) before in
    and_from (misses class x) (all_miss class (es ++ e ∷ [])) parts.0 (all_miss_more class es e parts.1 one)

-- one event more
pub next_missed : (es : List Event) (i : ℕ) (e : Event) (old new : ChangedPolicies) → i < length es → e ≡ get_or es i e
    → MissOthers old (take i es) → HasTaken e old new → MissOthers new (take (i + 1) es)
next_missed es i e old new lt is before taken none =
    let class = is_other_policy new.names.items in
    let others : all_miss class (take i es) ≡ true =
    ap (λ (ns : List (List ℕ)). all_miss (is_other_policy ns) (take i es)) taken.grown
    ∙ still_missed old.names.items taken.more (take i es) (before (taken.all none)) in
    ap (all_miss class) (take_more es i e lt ∙ sym (ap (λ x. take i es ++ x ∷ []) is))
    ∙ all_miss_more class (take i es) e others (taken.missed none)

-- ---- what is kept of a set

-- the policies of a set are those that were bound
names_of_bound : (choice : Choice) (kinds : List Kind) (bindings : List (Keyed Binding)) (ps : List (Keyed Policy))
    → map named_of (map (bound_of choice kinds bindings) ps) ≡ ps
names_of_bound choice kinds bindings [] = refl
names_of_bound choice kinds bindings (p ∷ ps) = ap (λ qs. p ∷ qs) (names_of_bound choice kinds bindings ps)

-- if events touch no policy of another name, the others of a set are those that the objects have
others_kept : (h : Holdings) (es : List Event) (changed : ChangedPolicies) → MissOthers changed es → (c : Cluster) → IsBefore h es c
    → KeepOthers changed (policies_in c.objects) h.policies
others_kept h es changed missed c before none =
    let names = changed.names.items in
    let old = before.objects.objects in
    let held : map named_of h.policies ≡ policies_in old =
    ap (λ (x : Holdings). map named_of x.policies) before.is
    ∙ ap (map named_of) (held_policies before.objects h.choice)
    ∙ names_of_bound h.choice (kinds_in old) (bindings_in old) (policies_in old) in
    ap (λ (x : Cluster). filter (has_other_name names) (policies_in x.objects)) before.after
    ∙ other_policies_stay names es before.objects (missed none)
    ∙ ap (filter (has_other_name names)) (sym held)

-- this holds if the policies that changed are told
pub told_kept : {E : Type 0} (r : Result ChangedPolicies E) (h : Holdings) (es : List Event) → IfOk r (λ changed. MissOthers changed es)
    → IfOk r (λ changed. (c : Cluster) → IsBefore h es c → KeepOthers changed (policies_in c.objects) h.policies)
told_kept (Ok changed) h es missed = others_kept h es changed missed
told_kept (Err e) h es missed = tt

-- ---- what comes next

heads : {X : Type 0} (x y : X) (xs ys : List X) → x ∷ xs ≡ y ∷ ys → (x ≡ y) × (xs ≡ ys)
heads x y xs ys h = (ap (λ zs. get_or zs 0 x) h, ap (λ zs. drop 1 zs) h)

none_of_both : (a b : Bool) → (a || b) ≡ false → a ≡ false
none_of_both true b h = absurd (true≢false h)
none_of_both false b h = refl

one_of_both : (a b : Bool) → (a || b) ≡ true → b ≡ false → a ≡ true
one_of_both true b h none = refl
one_of_both false b h none = absurd (true≢false (sym h ∙ none))

-- what has changed is passed
pub passed : (changed : ChangedPolicies) (bs : List BoundPolicy) (i : ℕ) (b : BoundPolicy) → i < length bs → b ≡ get_or bs i b
    → has_changed changed b.name ≡ true
    → (changed.all ≡ false → filter (has_other_name changed.names.items) (map named_of (drop i bs))
    ≡ filter (has_other_name changed.names.items) (map named_of bs))
    → changed.all ≡ false → filter (has_other_name changed.names.items) (map named_of (drop (i + 1) bs))
    ≡ filter (has_other_name changed.names.items) (map named_of bs)
passed changed bs i b lt is has before none =
    let others = λ (cs : List BoundPolicy). filter (has_other_name changed.names.items) (map named_of cs) in
    let named : is_one_of changed.names.items b.name ≡ true =
    one_of_both (is_one_of changed.names.items b.name) changed.all has none in
    let cut : drop i bs ≡ b ∷ drop (i + 1) bs =
    next_is bs i b lt is in
    let out : others (b ∷ drop (i + 1) bs) ≡ others (drop (i + 1) bs) =
    ap (λ t. cond (not t) (named_of b ∷ others (drop (i + 1) bs)) (others (drop (i + 1) bs))) named in
    sym out ∙ sym (ap others cut) ∙ before none

-- the policy that comes next has changed
pub next_changed : (changed : ChangedPolicies) (name : List ℕ) (rest : List BoundPolicy) → has_changed changed name ≡ true
    → IsNext changed name rest None rest
next_changed changed name rest has = record {
  part = λ choice kinds bindings are. are;
  old = λ p ps same keep. tt;
  kept = λ p ps same keep none.
      let others = filter (has_other_name changed.names.items) in
      let named : is_one_of changed.names.items p.key ≡ true =
      ap (is_one_of changed.names.items) same ∙ one_of_both (is_one_of changed.names.items name) changed.all has none in
      sym (ap (λ t. cond (not t) (p ∷ others ps) (others ps)) named) ∙ keep none;
}

-- it is the first of those that have not
pub next_found : (changed : ChangedPolicies) (name : List ℕ) (rest behind : List BoundPolicy) (i : ℕ) (b : BoundPolicy)
    → has_changed changed name ≡ false → has_changed changed b.name ≡ false → i < length rest → b ≡ get_or rest i b
    → (changed.all ≡ false → filter (has_other_name changed.names.items) (map named_of (drop i rest))
    ≡ filter (has_other_name changed.names.items) (map named_of rest))
    → behind ≡ drop (i + 1) rest → IsNext changed name rest (Some b) behind
next_found changed name rest behind i b stays own lt is before cut = record {
  part = λ choice kinds bindings are.
      subst (λ (cs : List BoundPolicy). AreBound choice kinds bindings cs) (sym cut)
      (bound_behind choice kinds bindings rest (i + 1) are);
  old = λ p ps same keep.
      let is_named = (both p ps same keep).0 in
      record {
        says = sym (ap (λ (q : Keyed Policy). q.value) is_named);
        bound = λ choice kinds bindings are.
            bound_at choice kinds bindings rest i b lt is are ∙ ap (bound_of choice kinds bindings) (sym is_named);
      };
  kept = λ p ps same keep none. (both p ps same keep).1 ∙ sym (ap others cut);
}
  where
    others : List BoundPolicy → List (Keyed Policy)
    others cs = filter (has_other_name changed.names.items) (map named_of cs)

    whole : drop i rest ≡ b ∷ drop (i + 1) rest
    whole = next_is rest i b lt is

    none : changed.all ≡ false
    none = all_of (is_one_of changed.names.items name) changed.all stays
      where
        all_of : (a c : Bool) → (a || c) ≡ false → c ≡ false
        all_of true c h = absurd (true≢false h)
        all_of false c h = h

    both : (p : Keyed Policy) (ps : List (Keyed Policy)) → p.key ≡ name → KeepOthers changed (p ∷ ps) rest
        → (p ≡ named_of b) × (filter (has_other_name changed.names.items) ps ≡ others (drop (i + 1) rest))
    both p ps same keep =
        let filtered = filter (has_other_name changed.names.items) in
        let its : is_one_of changed.names.items p.key ≡ false =
        ap (is_one_of changed.names.items) same ∙ none_of_both (is_one_of changed.names.items name) changed.all stays in
        let own_is : is_one_of changed.names.items b.name ≡ false = none_of_both (is_one_of changed.names.items b.name) changed.all own in
        let left : filtered (p ∷ ps) ≡ p ∷ filtered ps = ap (λ t. cond (not t) (p ∷ filtered ps) (filtered ps)) its in
        let right : others (b ∷ drop (i + 1) rest) ≡ named_of b ∷ others (drop (i + 1) rest) =
        ap (λ t. cond (not t) (named_of b ∷ others (drop (i + 1) rest)) (others (drop (i + 1) rest))) own_is in
        heads p (named_of b) (filtered ps) (others (drop (i + 1) rest))
        (sym left ∙ keep none ∙ sym (before none) ∙ ap others whole ∙ right)

-- of what is kept of the policies from a place on, what is kept of that one and of those behind it
pub keep_next : (changed : ChangedPolicies) (ps : List (Keyed Policy)) (rest : List BoundPolicy) (i : ℕ) (p : Keyed Policy) → i < length ps
    → p ≡ get_or ps i p → KeepOthers changed (drop i ps) rest → KeepOthers changed (p ∷ drop (i + 1) ps) rest
keep_next changed ps rest i p lt is keep none =
    let cut : drop i ps ≡ p ∷ drop (i + 1) ps =
    next_is ps i p lt is in
    ap (filter (has_other_name changed.names.items)) (sym cut) ∙ keep none

-- what is kept of a policy says the same
pub says_same : (rest : List BoundPolicy) (p : Keyed Policy) (o : Option BoundPolicy) → IfSome o (IsOldOf rest p)
    → IfSome o (λ b. b.read ≡ p.value)
says_same rest p None old = tt
says_same rest p (Some b) old = old.says

-- none is left
pub next_none : (changed : ChangedPolicies) (name : List ℕ) (rest behind : List BoundPolicy) (i : ℕ) → has_changed changed name ≡ false
    → length rest ≤ i → (changed.all ≡ false → filter (has_other_name changed.names.items) (map named_of (drop i rest))
    ≡ filter (has_other_name changed.names.items) (map named_of rest))
    → behind ≡ [] → IsNext changed name rest None behind
next_none changed name rest behind i stays over before empty = record {
  part = λ choice kinds bindings are.
      subst (λ (cs : List BoundPolicy). AreBound choice kinds bindings cs) (sym empty)
      (All-from_recursion (IsBound choice kinds bindings) [] tt);
  old = λ p ps same keep. tt;
  kept = λ p ps same keep none.
      let filtered = filter (has_other_name changed.names.items) in
      let its : is_one_of changed.names.items p.key ≡ false =
      ap (is_one_of changed.names.items) same ∙ none_of_both (is_one_of changed.names.items name) changed.all stays in
      let left : filtered (p ∷ ps) ≡ p ∷ filtered ps = ap (λ t. cond (not t) (p ∷ filtered ps) (filtered ps)) its in
      let right : filtered (map named_of (drop i rest)) ≡ [] = ap (λ cs. filtered (map named_of cs)) (drop_all i rest over) in
      absurd (true≢false (ap is_cons (sym left ∙ keep none ∙ sym (before none) ∙ right)));
}
  where
    is_cons : List (Keyed Policy) → Bool
    is_cons [] = false
    is_cons (p ∷ ps) = true
