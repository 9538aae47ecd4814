use Rattle.std.proofs.Common.{length, subst, sym, ap, ◌∙◌, replicate}
use Rattle.cel_verify.specs.Paths.{charge_at}
use Rattle.cel_verify.specs.Walked.{AreWeights}
use Rattle.cel_verify.proofs.Summing.{ones_weigh}
use Rattle.cel_verify.proofs.program.bounded.Goals as goal

pub returns : goal.returns
returns c =
    let image = c.args.image.now in
    let m = c.requires.measured in
    let ones = c.in_ok-ones.ensures.items_if_clones_equal (λ y same. same) ∙ ap (λ n. replicate n 1) c.len.ensures in
    record {
      cost = c.path_sum.ensures (charge_at image) m.charges;
      steps = c.path_sum-2.ensures (λ _. 1) (subst (AreWeights (λ _. 1) (length image.code)) (sym ones) (ones_weigh (length image.code)));
      depth = m.depth;
      nesting = m.nesting;
    }
