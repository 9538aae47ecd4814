-- Resources of groups, and which of them rules name.
use Rattle.std.specs.Prelude.{◌≡◌, ℕ, Bool, ◌&&◌, List, map}
use Rattle.std.specs.List.{flat_map, list_any}
use Rattle.std.specs.List.Sorted.{IsStrictlySortedBy}
use Rattle.std.specs.Str.{bytes_eq}
use Rattle.vap_match.specs.Cover.{before_slash}
use Rattle.vap_match.specs.declared.rules.Rule.{Rule}
use Rattle.vap_policy_set.specs.PlaceOrder.{place_cmp}
use Rattle.vap_policy_set.specs.declared.places.Place.{Place}

-- a place is this resource of this group
abbrev pub is_place : List ℕ → List ℕ → Place → Bool
is_place group resource k = bytes_eq k.group group && bytes_eq k.resource resource

-- the resource of a pattern in a group
abbrev pub place_of : List ℕ → List ℕ → Place
place_of group pattern = record { group = group; resource = before_slash pattern }

-- the places that patterns name in a group
abbrev pub group_places : List (List ℕ) → List ℕ → List Place
group_places patterns group = map (place_of group) patterns

-- the places that a rule names
abbrev pub rule_places : Rule → List Place
rule_places rule = flat_map (group_places rule.resources) rule.api_groups

-- the same places are in both lists, in whatever order and however often
abbrev pub NameSame : List Place → List Place → Type 0
NameSame ks ls = (group resource : List ℕ) → list_any (is_place group resource) ks ≡ list_any (is_place group resource) ls

-- places are those that rules name, in order, each once
pub record AreNamedBy (rules : List Rule) (ks : List Place) : Type 0 where
  pub ordered : IsStrictlySortedBy place_cmp ks
  pub same : NameSame ks (flat_map rule_places rules)
