-- Lists in the order of names, in which a name may occur more than once.
use Rattle.std.specs.Prelude.{◌≡◌, ℕ, Bool, List, [], ◌∷◌, ◌++◌, filter, if◌then◌else◌}
use Rattle.std.specs.Cmp.Lexicographic.{slice_cmp}
use Rattle.std.specs.List.Sorted.{IsSortedByKey}
use Rattle.std.specs.Ordering.{nat_cmp, is_lt}
use Rattle.std.specs.Str.{bytes_eq}
use Rattle.base_containers.specs.declared.text.Keyed.{Keyed}

abbrev pub is_named : {V : Type 0} → List ℕ → Keyed V → Bool
is_named name e = bytes_eq e.key name

-- the list holds these, each once, and is in the order of the bytes of their names; those of one name keep their order
pub record AreByName {V : Type 0} (these list : List (Keyed V)) : Type 0 where
  pub sorted : IsSortedByKey (λ e. e.key) (slice_cmp nat_cmp) list
  pub same : (name : List ℕ) → filter (is_named name) list ≡ filter (is_named name) these

-- an entry goes before the first one whose name is not below its own
abbrev pub before_greater : {V : Type 0} → Keyed V → List (Keyed V) → List (Keyed V)
before_greater e [] = e ∷ []
before_greater e (f ∷ fs) = if is_lt (slice_cmp nat_cmp f.key e.key) then f ∷ before_greater e fs else e ∷ f ∷ fs

-- the one list that is so
abbrev pub by_name : {V : Type 0} → List (Keyed V) → List (Keyed V)
by_name [] = []
by_name (e ∷ es) = before_greater e (by_name es)

-- a list by name becomes one with these entries more
pub record Adds {V : Type 0} (more old new : List (Keyed V)) : Type 0 where
  pub grown : (these : List (Keyed V)) → old ≡ by_name these → new ≡ by_name (these ++ more)
