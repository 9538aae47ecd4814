use Rattle.std.proofs.Common.{◌≡◌, List, ap, subst, sym, arith}
use Rattle.std.proofs.lemmas.Grind.{common_steps}
use Rattle.std.proofs.lemmas.List.Sorted.{answers_always}
use Rattle.std.specs.List.Sorted.{IsSorted, IsStable}
use Rattle.std.specs.Ordering.{is_lt}
use Rattle.vap_policy_set.specs.Sets.{report_cmp, told_of}
use Rattle.vap_policy_set.specs.declared.report.Misconfigured.{Misconfigured}
use Rattle.vap_policy_set.proofs.ReportOrder.{report_ranks}
use Rattle.vap_policy_set.proofs.report.report_of.Goals as goal

pub returns : goal.returns
returns c =
    let e = c.in_ok-sort_by.ensures in
    let ps = c.args.policies.now in
    let all : c.loop-policy.report.items ≡ told_of ps =
    grind (arith, common_steps, c.loop-policy.invariant, c.loop-policy-test.false) in
    record {
      sorted = subst (IsSorted report_cmp) (sym c.from_vec.ensures)
          (e.sorted _ report_ranks (answers_always _ _ _ (λ f a r g k. ap is_lt k.met)));
      stable = subst (IsStable report_cmp (told_of ps)) (sym c.from_vec.ensures)
          (subst (λ (xs : List Misconfigured). IsStable report_cmp xs c.sort_by.new.self.items) all
          (e.stable _ report_ranks (answers_always _ _ _ (λ f a r g k. ap is_lt k.met))));
    }
