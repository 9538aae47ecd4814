use Rattle.std.proofs.Common.{◌≡◌, ℕ, ◌≤◌, length}
use Rattle.cel_verify.specs.Walked.{AreWeights}
use Rattle.cel_verify.proofs.ToGo.{AreSums}
use Rattle.cel_verify.proofs.sums.path_sum.Given as goal

abbrev pub invariant-loop-at : goal.invariant-loop-at
invariant-loop-at l =
    record {
      inside : l.at ≤ length l.image.code;
      long : length l.sums.items ≡ length l.image.code;
      sums : (weigh : ℕ → ℕ) → AreWeights weigh (length l.image.code) l.fn.weights.items → AreSums l.image weigh l.at l.sums.items;
    }

abbrev pub decreases-loop-at : goal.decreases-loop-at
decreases-loop-at l = l.at
