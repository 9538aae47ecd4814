-- Some of the policies of a set.
use Rattle.std.proofs.Common.{ℕ, Bool, true, false, cond, List, [], ◌∷◌, sym, subst}
use Rattle.std.specs.Prelude.{filter}
use Rattle.std.specs.List.{All, AllByRecursion}
use Rattle.std.proofs.lemmas.List.Elements.{All-from_recursion, recursion_from_All}
use Rattle.vap_policy_set.specs.Index.{AreEnough}
use Rattle.vap_policy_set.specs.declared.bound.BoundPolicy.{BoundPolicy}

module _ {X : Type 0} (P : X → Type 0) (keep : X → Bool) where
  kept_all : (xs : List X) → AllByRecursion P xs → AllByRecursion P (filter keep xs)
  kept_all [] all = tt
  kept_all (x ∷ xs) all = at (keep x) (kept_all xs all.1)
    where
      at : (b : Bool) → AllByRecursion P (filter keep xs) → AllByRecursion P (cond b (x ∷ filter keep xs) (filter keep xs))
      at true rest = (all.0, rest)
      at false rest = rest

-- what holds of all policies holds of some
pub chosen_all : (P : BoundPolicy → Type 0) (g s : List ℕ) (all some : List BoundPolicy) → AreEnough g s all some → All P all → All P some
chosen_all P g s all some few each =
    subst (All P) (sym few.are) (All-from_recursion P (filter few.keep all) (kept_all P few.keep all (recursion_from_All P all each)))
