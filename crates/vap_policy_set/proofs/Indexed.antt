-- The policies that an index lends are enough.
use Rattle.std.proofs.Common.{◌≡◌, ◌<◌, ℕ, true, false, ◌||◌, List, [], ◌∷◌, length, map, get_or, refl, sym, ◌∙◌, subst}
use Rattle.std.specs.Prelude.{Some, None, filter}
use Rattle.std.specs.List.{AllByRecursion, list_any}
use Rattle.std.proofs.lemmas.List.Elements.{All-from_recursion}
use Rattle.std.proofs.lemmas.List.Folds.{list_any-append}
use Rattle.base_containers.specs.declared.text.Keyed.{Keyed}
use Rattle.vap_read.specs.declared.binding.Binding.{Binding}
use Rattle.vap_read.specs.declared.policy.Policy.{Policy}
use Rattle.vap_read_objects.specs.declared.kind.Kind.{Kind}
use Rattle.vap_policy_set.specs.Index.{AreEnough, AreEntriesOf, IsEntryOf, IsFoundAt, is_entry}
use Rattle.vap_policy_set.specs.Places.{is_place}
use Rattle.vap_policy_set.specs.PolicyCovering.{AreRead, IsReadOf, is_wide, may_cover, places_in, places_of}
use Rattle.vap_policy_set.specs.Sets.{bound_of}
use Rattle.vap_policy_set.specs.declared.bound.BoundPolicy.{BoundPolicy}
use Rattle.vap_policy_set.specs.declared.choice.Choice.{Choice}
use Rattle.vap_policy_set.specs.declared.index.Entry.{Entry}
use Rattle.vap_policy_set.specs.declared.places.Place.{Place}
use Rattle.vap_policy_set.proofs.Covered.{unnamed_wide, left_of, right_of}
use Rattle.vap_policy_set.proofs.Entries.{same_place}
use Rattle.vap_policy_set.proofs.PlaceOrder.{place}

-- if no policy names a place, those that may cover it are wide
wide_left : (g s : List ℕ) (ps : List BoundPolicy) → list_any (is_place g s) (places_in ps) ≡ false
    → AllByRecursion (λ p. may_cover g s p ≡ true → is_wide p ≡ true) ps
wide_left g s [] none = tt
wide_left g s (p ∷ ps) none =
    let parts : (list_any (is_place g s) (places_of p) || list_any (is_place g s) (places_in ps)) ≡ false =
    sym (list_any-append (is_place g s) (places_of p) (places_in ps)) ∙ none in (
      unnamed_wide g s p (left_of (list_any (is_place g s) (places_of p)) (list_any (is_place g s) (places_in ps)) parts),
      wide_left g s ps (right_of (list_any (is_place g s) (places_of p)) (list_any (is_place g s) (places_in ps)) parts),
    )

-- so, if there is no entry, the wide ones are enough
pub enough_none : (es : List Entry) (g s : List ℕ) (all some : List BoundPolicy) → IsFoundAt g s es None → AreEntriesOf all es
    → some ≡ filter is_wide all → AreEnough g s all some
enough_none es g s all some none entries is = record {
  keep = is_wide;
  are = is;
  enough = All-from_recursion (λ p. may_cover g s p ≡ true → is_wide p ≡ true) all
      (wide_left g s all (sym (entries.named g s) ∙ none));
}

-- an entry has enough of them
enough_here : (k : Place) (g s : List ℕ) (all some : List BoundPolicy) → k ≡ place g s
    → some ≡ filter (may_cover k.group k.resource) all → AreEnough g s all some
enough_here k g s all some same is = record {
  keep = may_cover k.group k.resource;
  are = is;
  enough = λ i d lt may. subst (λ (x : Place). may_cover x.group x.resource (get_or all i d) ≡ true) (sym same) may;
}

pub enough_found : (es : List Entry) (at : ℕ) (e : Entry) (g s : List ℕ) (all some : List BoundPolicy) → e ≡ get_or es at e
    → IsFoundAt g s es (Some at) → AreEntriesOf all es → some ≡ e.policies → AreEnough g s all some
enough_found es at e g s all some here found entries is =
    let own : is_entry g s e ≡ true = subst (λ (x : Entry). is_entry g s x ≡ true) (sym here) (found.1 e) in
    let right : IsEntryOf all e = subst (IsEntryOf all) (sym here) (entries.right at e found.0) in
    enough_here e.place g s all some (same_place g s e.place own) (is ∙ right)

-- ---- what is read of policies

pub read_at : (ps : List BoundPolicy) (i : ℕ) (p : BoundPolicy) → i < length ps → p ≡ get_or ps i p → AreRead ps → IsReadOf p
read_at ps i p lt is read = subst IsReadOf (sym is) (read i p lt)

bound_each : (choice : Choice) (kinds : List Kind) (bindings : List (Keyed Binding)) (ps : List (Keyed Policy))
    → AllByRecursion IsReadOf (map (bound_of choice kinds bindings) ps)
bound_each choice kinds bindings [] = tt
bound_each choice kinds bindings (p ∷ ps) = (refl, bound_each choice kinds bindings ps)

-- what is read of a policy that is bound is read of that policy
pub bound_read : (choice : Choice) (kinds : List Kind) (bindings : List (Keyed Binding)) (ps : List (Keyed Policy)) (bs : List BoundPolicy)
    → bs ≡ map (bound_of choice kinds bindings) ps → AreRead bs
bound_read choice kinds bindings ps bs is =
    subst AreRead (sym is)
    (All-from_recursion IsReadOf (map (bound_of choice kinds bindings) ps) (bound_each choice kinds bindings ps))

pub none_read : AreRead []
none_read = All-from_recursion IsReadOf [] tt
