use Rattle.std.proofs.Common.{◌+◌, ◌-◌, ◌*◌, ◌^◌, min, ap, ◌∙◌}
use Rattle.std.specs.Prelude.{slice_index}
use Rattle.cel_verify.specs.Paths.{goes_to}
use Rattle.cel_verify.specs.Walked.{rounds_of, greatest}
use Rattle.cel_verify.proofs.Summing.{both_capped}
use Rattle.cel_verify.proofs.sums.sum_behind.Goals as goal

pub returns : goal.returns
returns c =
    let sums = c.args.sums.now in
    let at = c.args.at in
    let rounds = rounds_of c.args.instr c.args.times in
    let body =
    c.saturating_mul-body.ensures
    ∙ ap (λ n. min (n * c.sum_at.result) (2 ^ 64 - 1)) c.rounds.ensures
    ∙ ap (λ n. min (rounds * n) (2 ^ 64 - 1)) c.sum_at.ensures in
    both_capped (rounds * slice_index sums (at + 1)) (greatest (λ t. slice_index sums t) (goes_to c.args.instr at))
    c.saturating_mul-body.result c.greatest_at.result c.saturating_add.result (2 ^ 64 - 1) body c.greatest_at.ensures
    c.saturating_add.ensures
