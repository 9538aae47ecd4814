use Rattle.std.proofs.Common.{◌+◌, ◌++◌, arith, get_or, sym, ap, ◌∙◌, drop, filter, map}
use Rattle.vap_read_objects.specs.Seen.{IsSeenAt}
use Rattle.vap_read_objects.specs.Blocks as blocks
use Rattle.vap_policy.specs.Adds.{behind, progress_of}
use Rattle.vap_policy.specs.Judging.{at_param}
use Rattle.vap_policy.specs.Params.{is_param}
use Rattle.vap_policy.specs.Shown.{case_of, lent_place, rule_of}
use Rattle.std.proofs.lemmas.Result.{err_from_is_err_and}
use Rattle.vap_policy.proofs.Budget.{behind_none, first_looks, next_progress, rest_looks}
use Rattle.vap_policy.proofs.InBlocks.{held_at, next_block, none_left}
use Rattle.vap_policy.proofs.evaluations.Judging.each.Goals as goal

pub each_of-requires : goal.each_of-requires
each_of-requires g c =
    let l = c.loop-block in
    let bs = c.blocks-block-items.result.now in
    let is = c.as_slice.ensures ∙ c.get.ensures in
    let there = is ∙ c.block-item.is ∙ ap (get_or bs l.block-index) (sym is) in
    rw l.invariant.case (
      c.requires.0,
      (
        held_at (IsSeenAt c.args.selection.now.params.now.cel_type) bs l.block-index c.as_slice.result.now c.loop-block-test.true there
            c.blocks-block-items.ensures.seen,
        l.invariant.within,
      ),
    )

pub loop-block-preserved : goal.loop-block-preserved
loop-block-preserved g c =
    let l = c.loop-block in
    let bs = c.blocks-block-items.result.now in
    let b = c.as_slice.result.now in
    let is = c.as_slice.ensures ∙ c.get.ensures in
    let there = is ∙ c.block-item.is ∙ ap (get_or bs l.block-index) (sym is) in
    let case = case_of c.args.self.now.case.now in
    let rule = rule_of c.args.rule.now in
    let ps = c.args.programs.now in
    let t = c.args.selection.now.params.now.cel_type in
    let test = is_param (lent_place c.args.selection.now.place) c.args.selection.now.reference.now in
    let here = map (at_param (case_of l.self.case.now) rule ps t) (filter test (map (λ p. p.object) b)) in
    let rest = map (at_param case rule ps t) (filter test (map (λ p. p.object) (blocks.joined (drop (l.block-index + 1) bs)))) in
    let more = map (at_param case rule ps t) (filter test (map (λ p. p.object) (blocks.joined (drop l.block-index bs)))) in
    let adds = c.in_ok-each_of.ensures.adds in
    let cut = ap (λ k. map (at_param (case_of k.now) rule ps t) (filter test (map (λ p. p.object) b)) ++ rest) l.invariant.case
    ∙ next_block case rule ps t test bs l.block-index b c.loop-block-test.true there in
    record {
      case = adds.case ∙ l.invariant.case;
      progress = next_progress (progress_of l.self) (progress_of c.each_of.new.self) _ here rest more adds.progress cut
          l.invariant.progress;
      within = adds.within;
      looks = λ one.
          l.invariant.looks (rest_looks (progress_of l.self) (progress_of c.each_of.new.self) here rest more adds.progress cut one);
    }

-- in the block where the loop is
pub returns-in_err-each_of-clause-pattern : goal.returns-in_err-each_of-clause-pattern
returns-in_err-each_of-clause-pattern g c = λ is.
    let p = err_from_is_err_and c.from_residual.result c.from_residual.ensures.1 in
    let q = p.1 in
    let r = p.2 in
    let l = c.loop-block in
    let bs = c.blocks-block-items.result.now in
    let b = c.as_slice.result.now in
    let same = c.as_slice.ensures ∙ c.get.ensures in
    let there = same ∙ c.block-item.is ∙ ap (get_or bs l.block-index) (sym same) in
    let case = case_of c.args.self.now.case.now in
    let rule = rule_of c.args.rule.now in
    let ps = c.args.programs.now in
    let t = c.args.selection.now.params.now.cel_type in
    let test = is_param (lent_place c.args.selection.now.place) c.args.selection.now.reference.now in
    let rest = map (at_param case rule ps t) (filter test (map (λ p. p.object) (blocks.joined (drop (l.block-index + 1) bs)))) in
    l.invariant.looks
    (
    first_looks l.self.left (map (at_param (case_of l.self.case.now) rule ps t) (filter test (map (λ p. p.object) b))) rest
    (map (at_param case rule ps t) (filter test (map (λ p. p.object) (blocks.joined (drop l.block-index bs)))))
    (
    ap (λ k. map (at_param (case_of k.now) rule ps t) (filter test (map (λ p. p.object) b)) ++ rest) l.invariant.case
    ∙ next_block case rule ps t test bs l.block-index b c.loop-block-test.true there
    )
    (c.in_err-each_of.ensures.pattern (cc))
    )

-- after the last block
pub returns-clause-adds : goal.returns-clause-adds
returns-clause-adds g c =
    let l = c.loop-block in
    let bs = c.blocks-block-items.result.now in
    let case = case_of c.args.self.now.case.now in
    let rule = rule_of c.args.rule.now in
    let ps = c.args.programs.now in
    let t = c.args.selection.now.params.now.cel_type in
    let test = is_param (lent_place c.args.selection.now.place) c.args.selection.now.reference.now in
    let none = none_left bs l.block-index (omega (arith, c.loop-block-test.false)) in
    record {
      case = l.invariant.case;
      progress = sym (behind_none (progress_of l.self))
          ∙ ap (λ xs. behind (progress_of l.self) (map (at_param case rule ps t) (filter test (map (λ p. p.object) xs)))) (sym none)
          ∙ l.invariant.progress;
      within = l.invariant.within;
    }
