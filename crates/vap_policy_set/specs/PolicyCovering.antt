-- Which policies may cover requests on a resource of a group, and which places they name.
use Rattle.std.specs.Prelude.{◌≡◌, ℕ, Bool, List}
use Rattle.std.specs.List.{All, flat_map}
use Rattle.vap_match.specs.declared.rules.Rule.{Rule}
use Rattle.vap_policy_set.specs.Covering.{rules_are_wide, rules_may_cover, rules_of}
use Rattle.vap_policy_set.specs.Places.{rule_places}
use Rattle.vap_policy_set.specs.declared.bound.BoundPolicy.{BoundPolicy}
use Rattle.vap_policy_set.specs.declared.places.Place.{Place}

-- the rules of a policy
abbrev pub rules_in : BoundPolicy → List Rule
rules_in p = rules_of p.policy

-- a policy may cover requests on this resource of this group
abbrev pub may_cover : List ℕ → List ℕ → BoundPolicy → Bool
may_cover group resource p = rules_may_cover group resource (rules_in p)

-- a policy may cover more than the places that it names
abbrev pub is_wide : BoundPolicy → Bool
is_wide p = rules_are_wide (rules_in p)

-- the places that a policy names
abbrev pub places_of : BoundPolicy → List Place
places_of p = flat_map rule_places (rules_in p)

-- those that policies name
abbrev pub places_in : List BoundPolicy → List Place
places_in ps = flat_map places_of ps

-- what is read of a policy once is read of the policy that is bound
abbrev pub IsReadOf : BoundPolicy → Type 0
IsReadOf p = p.read ≡ p.policy

-- so it is of each of these
abbrev pub AreRead : List BoundPolicy → Type 0
AreRead ps = All IsReadOf ps
