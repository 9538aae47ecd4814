use Rattle.std.proofs.Common.{◌≡◌, ◌+◌, ◌-◌, ◌^◌, min, subst, sym, ap, ◌∙◌, arith, length-set}
use Rattle.std.specs.Prelude.{slice_index}
use Rattle.std.proofs.lemmas.Grind.{common_steps, get_or_default_zero}
use Rattle.cel_verify.specs.Walked.{behind}
use Rattle.cel_verify.proofs.Labels.{walks}
use Rattle.cel_verify.proofs.Routes.{greatest_path}
use Rattle.cel_verify.proofs.ToGo.{path_from, AreSums}
use Rattle.cel_verify.proofs.Summing.{sums_first, sums_next}
use Rattle.cel_verify.proofs.Falling.{no_end}
use Rattle.cel_verify.proofs.sums.path_sum.Goals as goal

pub loop-at-init : goal.loop-at-init
loop-at-init c =
    let image = c.args.image.now in
    let weights = c.args.weights.items in
    record {
      inside = omega (arith, c.len-at.ensures);
      long = c.requires.weighed;
      sums = λ weigh h. subst (λ n. AreSums image weigh n weights) (sym c.len-at.ensures) (sums_first image weigh weights h);
    }

pub unreachable-requires : goal.unreachable-requires
unreachable-requires c =
    let l = c.loop-at in
    no_end c.args.image.now.code (l.at - 1) (omega (arith, l.invariant.inside, c.loop-at-test.true)) (sym c.in_default.ensures.value)

pub loop-at-preserved : goal.loop-at-preserved
loop-at-preserved c =
    let l = c.loop-at in
    let at = l.at - 1 in
    let e : at + 1 ≡ l.at = omega (arith, c.loop-at-test.true) in
    let image = c.args.image.now in
    let i = c.in-Some.instr.now in
    let sums = l.sums.items in
    let same = c.requires.timed.1 at (omega (arith, l.invariant.inside, c.loop-at-test.true)) in
    let sum = c.saturating_add.result in
    record {
      inside = omega (arith, l.invariant.inside);
      long = length-set sums at sum ∙ l.invariant.long;
      sums = λ weigh h.
          sums_next image (walks image c.requires.sound) weigh sums at c.sum_behind-rest.result sum i
          (subst (λ n. AreSums image weigh n sums) (sym e) (l.invariant.sums weigh h))
          (sym c.in-Some.ensures.value)
          (c.sum_behind-rest.ensures
          ∙ ap (λ xs. min (behind xs (slice_index c.args.times.now at) i at) (2 ^ 64 - 1)) c.as_slice.ensures.value
          ∙ ap (λ n. min (behind sums n i at) (2 ^ 64 - 1)) same)
          (grind (arith, common_steps, get_or_default_zero));
    }

pub returns : goal.returns
returns c = λ weigh h.
    let l = c.loop-at in
    let zero : l.at ≡ 0 = omega (arith, c.loop-at-test.false) in
    let image = c.args.image.now in
    record {
      most = path_from image weigh 0;
      is = greatest_path image (walks image c.requires.sound) weigh;
      capped =
          c.sum_at.ensures
          ∙ ap (λ xs. slice_index xs 0) c.as_slice-2.ensures.value
          ∙ (l.invariant.sums weigh h).paths 0 (omega arith);
    }
