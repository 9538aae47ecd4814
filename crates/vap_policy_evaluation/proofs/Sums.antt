-- Charges within estimates, one more item at a time.
use Rattle.std.proofs.Common.{◌≡◌, ◌≤◌, ℕ, ◌+◌, List, ◌∷◌, sum_by, arith}
use Rattle.std.proofs.lemmas.List.Sums.{sum_by-cons}

pub next_sum : {X : Type 0} (f : X → ℕ) (x : X) (rest xs : List X) (charged cost all : ℕ) → xs ≡ x ∷ rest → cost ≤ f x
    → charged + sum_by f xs ≤ all → charged + cost + sum_by f rest ≤ all
next_sum f x rest xs charged cost all d k v = let h = rw d at v in omega (arith, sum_by-cons f x rest, h, k)
