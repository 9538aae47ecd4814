-- Policies that are still bound as they were.
use Rattle.std.specs.Prelude.{◌≡◌, ⊤, List, [], ◌∷◌, Option, IfSome}
use Rattle.std.specs.List.{All}
use Rattle.base_containers.specs.declared.text.Keyed.{Keyed}
use Rattle.vap_read.specs.declared.binding.Binding.{Binding}
use Rattle.vap_read_objects.specs.declared.kind.Kind.{Kind}
use Rattle.vap_read.specs.declared.policy.Policy.{Policy}
use Rattle.vap_policy_set.specs.Sets.{bound_of}
use Rattle.vap_policy_set.specs.declared.bound.BoundPolicy.{BoundPolicy}
use Rattle.vap_policy_set.specs.declared.choice.Choice.{Choice}

-- a policy under its name
abbrev pub named_of : BoundPolicy → Keyed Policy
named_of b = record { key = b.name; value = b.read }

-- a policy is bound as it is by a choice, with these kinds and bindings
abbrev pub IsBound : Choice → List Kind → List (Keyed Binding) → BoundPolicy → Type 0
IsBound choice kinds bindings b = b ≡ bound_of choice kinds bindings (named_of b)

-- so is each of these
abbrev pub AreBound : Choice → List Kind → List (Keyed Binding) → List BoundPolicy → Type 0
AreBound choice kinds bindings bs = All (IsBound choice kinds bindings) bs

-- policies are bound as they are by a choice with these kinds, to whichever bindings
pub record AreAt (choice : Choice) (kinds : List Kind) (bs : List BoundPolicy) : Type 0 where
  pub bindings : List (Keyed Binding)
  pub bound : AreBound choice kinds bindings bs

-- what was bound of a policy before, among all that were: it says the same, and is bound to the same as long as they all are
pub record IsOldOf (all : List BoundPolicy) (p : Keyed Policy) (b : BoundPolicy) : Type 0 where
  pub says : b.read ≡ p.value
  pub bound : (choice : Choice) (kinds : List Kind) (bindings : List (Keyed Binding)) → AreBound choice kinds bindings all
      → b ≡ bound_of choice kinds bindings p

-- for each of these policies one that was bound of it before, or none
abbrev pub AreOldOf : List BoundPolicy → List (Keyed Policy) → List (Option BoundPolicy) → Type 0
AreOldOf all [] [] = ⊤
AreOldOf all [] (o ∷ os) = ⊥
AreOldOf all (p ∷ ps) [] = ⊥
AreOldOf all (p ∷ ps) (o ∷ os) = IfSome o (IsOldOf all p) × AreOldOf all ps os
