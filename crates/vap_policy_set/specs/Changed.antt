-- Which policies events change, and what stays of a set's policies.
use Rattle.std.specs.Prelude.{◌≡◌, ℕ, Bool, true, false, ◌||◌, if◌then◌else◌, List, [], ◌∷◌, ◌++◌, filter, map, Option, IfSome}
use Rattle.base_containers.specs.declared.text.Keyed.{Keyed}
use Rattle.vap_read.specs.declared.binding.Binding.{Binding}
use Rattle.vap_read.specs.declared.event.Event.{Event}
use Rattle.vap_read.specs.declared.key.Key.{Key}
use Rattle.vap_read.specs.declared.policy.Policy.{Policy}
use Rattle.vap_read_objects.specs.Classes.{all_miss, has_other_name, is_one_of, is_other_policy, is_policy, misses}
use Rattle.vap_read_objects.specs.declared.kind.Kind.{Kind}
use Rattle.vap_policy_set.specs.Still.{AreBound, IsOldOf, named_of}
use Rattle.vap_policy_set.specs.declared.bound.BoundPolicy.{BoundPolicy}
use Rattle.vap_policy_set.specs.declared.changed_policies.ChangedPolicies.{ChangedPolicies}
use Rattle.vap_policy_set.specs.declared.choice.Choice.{Choice}

-- a policy of this name may have changed
abbrev pub has_changed : ChangedPolicies → List ℕ → Bool
has_changed changed name = is_one_of changed.names.items name || changed.all

-- the name in a key, if that is a policy's
unfoldable pub policy_name : Key → List (List ℕ)
policy_name k = if is_policy k then k.name ∷ [] else []

-- unless all may have changed, events touch no policy of another name
abbrev pub MissOthers : ChangedPolicies → List Event → Type 0
MissOthers changed events = changed.all ≡ false → all_miss (is_other_policy changed.names.items) events ≡ true

-- one event more: names are added, and then it touches no policy of another name
pub record HasTaken (event : Event) (old new : ChangedPolicies) : Type 0 where
  pub more : List (List ℕ)
  pub grown : new.names.items ≡ old.names.items ++ more
  pub all : new.all ≡ false → old.all ≡ false
  pub missed : new.all ≡ false → misses (is_other_policy new.names.items) event ≡ true

-- unless all may have changed, policies of other names are those that were bound
abbrev pub KeepOthers : ChangedPolicies → List (Keyed Policy) → List BoundPolicy → Type 0
KeepOthers changed ps bs = changed.all ≡ false
    → filter (has_other_name changed.names.items) ps ≡ filter (has_other_name changed.names.items) (map named_of bs)

-- of what was bound, what was bound of the policy of this name, if it is kept, and what is left for the policies behind it
pub record IsNext (changed : ChangedPolicies) (name : List ℕ) (rest : List BoundPolicy) (bound : Option BoundPolicy)
    (behind : List BoundPolicy) : Type 0 where
  pub part : (choice : Choice) (kinds : List Kind) (bindings : List (Keyed Binding)) → AreBound choice kinds bindings rest
      → AreBound choice kinds bindings behind
  pub old : (p : Keyed Policy) (ps : List (Keyed Policy)) → p.key ≡ name → KeepOthers changed (p ∷ ps) rest → IfSome bound (IsOldOf rest p)
  pub kept : (p : Keyed Policy) (ps : List (Keyed Policy)) → p.key ≡ name → KeepOthers changed (p ∷ ps) rest → KeepOthers changed ps behind
