use Rattle.std.proofs.Common.{◌≡◌, ◌+◌, ℕ, vec_len}
use Rattle.std.specs.Prelude.{slice_get, Some}
use Rattle.vap_plane.proofs.closing.SharedHistory.new.Given as goal

abbrev pub invariant-loop-number : goal.invariant-loop-number
invariant-loop-number g l =
    (l.rest.parts + l.number ≡ l.workers) × (l.rest.amount ≡ 0) × (vec_len l.passes ≡ l.number) × ((k : ℕ) (p : _)
    → slice_get l.passes.items k ≡ Some p → p.number ≡ k)
