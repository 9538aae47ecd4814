-- The index of policies by group and resource.
use Rattle.std.specs.Prelude.{◌≡◌, ◌<◌, ℕ, Bool, true, false, if◌then◌else◌, length, List, [], ◌∷◌, ◌++◌, filter, map}
use Rattle.std.specs.Prelude.{Option, Some, None}
use Rattle.std.specs.List.{All, HoldsAt, list_any}
use Rattle.std.specs.List.Sorted.{IsStrictlySortedBy}
use Rattle.vap_policy_set.specs.PlaceOrder.{place_cmp}
use Rattle.vap_policy_set.specs.Places.{is_place}
use Rattle.vap_policy_set.specs.PolicyCovering.{is_wide, may_cover, places_in}
use Rattle.vap_policy_set.specs.declared.bound.BoundPolicy.{BoundPolicy}
use Rattle.vap_policy_set.specs.declared.index.Entry.{Entry}
use Rattle.vap_policy_set.specs.declared.places.Place.{Place}

-- some of the policies, in their order, among them all that may cover requests on a resource of a group
pub record AreEnough (group resource : List ℕ) (all some : List BoundPolicy) : Type 0 where
  pub keep : BoundPolicy → Bool
  pub are : some ≡ filter keep all
  pub enough : All (λ p. may_cover group resource p ≡ true → keep p ≡ true) all

-- ---- entries

-- an entry is that of this resource of this group
abbrev pub is_entry : List ℕ → List ℕ → Entry → Bool
is_entry group resource e = is_place group resource e.place

-- the places that entries are for
abbrev pub entry_places : List Entry → List Place
entry_places es = map (λ e. e.place) es

-- entries are in the order of their places, each place once
abbrev pub AreApart : List Entry → Type 0
AreApart es = IsStrictlySortedBy place_cmp (entry_places es)

-- an entry has the policies that may cover what it is for
abbrev pub IsEntryOf : List BoundPolicy → Entry → Type 0
IsEntryOf ps e = e.policies ≡ filter (may_cover e.place.group e.place.resource) ps

-- a resource of a group has an entry exactly if it is one of these places
abbrev pub AreForPlaces : List Place → List Entry → Type 0
AreForPlaces ks es =
    (group resource : List ℕ) → list_any (is_entry group resource) es ≡ list_any (is_place group resource) ks

-- entries are those of policies: each is right, they are for the places that the policies name, and each place occurs once
pub record AreEntriesOf (ps : List BoundPolicy) (es : List Entry) : Type 0 where
  pub right : All (IsEntryOf ps) es
  pub named : AreForPlaces (places_in ps) es
  pub apart : AreApart es

-- where the entry for a resource of a group is, if there is one
abbrev pub IsFoundAt : List ℕ → List ℕ → List Entry → Option ℕ → Type 0
IsFoundAt group resource es None = list_any (is_entry group resource) es ≡ false
IsFoundAt group resource es (Some at) = (at < length es) × HoldsAt (λ e. is_entry group resource e ≡ true) es at

-- ---- one policy more

-- a policy, if it may cover more than the places that it names
unfoldable pub if_wide : BoundPolicy → List BoundPolicy
if_wide p = if is_wide p then p ∷ [] else []

-- an entry for a place, without policies so far
abbrev pub empty_entry : Place → Entry
empty_entry k = record { place = k; policies = [] }

-- an entry with a policy after its others
abbrev pub with_behind : BoundPolicy → Entry → Entry
with_behind p e = record { place = e.place; policies = e.policies ++ p ∷ [] }

-- the same, if the policy may cover what the entry is for
unfoldable pub with_policy : BoundPolicy → Entry → Entry
with_policy p e = if may_cover e.place.group e.place.resource p then with_behind p e else e

-- the same, if the entry is for one of these places
unfoldable pub with_named : List Place → BoundPolicy → Entry → Entry
with_named ks p e = if list_any (is_place e.place.group e.place.resource) ks then with_behind p e else e
