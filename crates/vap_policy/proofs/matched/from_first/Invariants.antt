use Rattle.std.proofs.Common.{◌≡◌, drop}
use Rattle.vap_match.specs.Select.{lent_labels}
use Rattle.vap_policy.specs.Matched.{matched_by}
use Rattle.vap_policy.proofs.matched.from_first.Given as goal

-- all that match are among those that are left
abbrev pub invariant-loop-place : goal.invariant-loop-place
invariant-loop-place l =
    matched_by l.request.request.now.admission (lent_labels l.labels) (drop l.place l.policies)
    ≡ matched_by l.request.request.now.admission (lent_labels l.labels) l.policies
