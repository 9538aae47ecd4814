-- Where one of several evaluations looks for a pattern.
use Rattle.std.proofs.Common.{List, [], ◌∷◌, ◌++◌, inl, inr}
use Rattle.vap_policy.specs.Evaluations.{Evaluation}
use Rattle.vap_policy.specs.RequestPatterns.{OneMayMatch}

pub in_front : (es fs : List Evaluation) → OneMayMatch es → OneMayMatch (es ++ fs)
in_front [] fs one = elim one [ ]
in_front (e ∷ es) fs (inl one) = inl one
in_front (e ∷ es) fs (inr one) = inr (in_front es fs one)

pub after : (es fs : List Evaluation) → OneMayMatch fs → OneMayMatch (es ++ fs)
after [] fs one = one
after (e ∷ es) fs one = inr (after es fs one)
