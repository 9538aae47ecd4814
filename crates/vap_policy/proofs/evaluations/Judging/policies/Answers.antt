use Rattle.std.proofs.Common.{◌≡◌, ◌+◌, true, ◌++◌, sym, ap, ◌∙◌, subst, drop}
use Rattle.std.proofs.lemmas.Result.{err_from_is_err_and}
use Rattle.vap_policy_set.specs.Ready.{IsReadyAt}
use Rattle.vap_policy_set.specs.declared.bound.BoundPolicy.{BoundPolicy}
use Rattle.vap_policy.specs.Adds.{Looks, behind, progress_of}
use Rattle.vap_policy.specs.Judging.{is_matched, of_policies, of_policy, policy_matches}
use Rattle.vap_policy.specs.Shown.{case_of}
use Rattle.vap_policy.proofs.Budget.{first_looks, next_progress, rest_looks}
use Rattle.vap_policy.proofs.Joined.{next_of, none_of}
use Rattle.vap_policy.proofs.evaluations.Judging.policies.Goals as goal
use Rattle.vap_policy.proofs.evaluations.Judging.policies.Goals.{then-is_matched+in_ok-policy, else-is_matched}

pub loop-policy-preserved : goal.loop-policy-preserved
loop-policy-preserved c =
    let l = c.loop-policy in
    let case = case_of c.args.self.now.case.now in
    let xs = c.args.policies.now in
    let x = c.policy-item.result in
    let b = c.get-bound.result.now in
    let rest = of_policies case (drop (l.policy-index + 1) xs) in
    let more = of_policies case (drop l.policy-index xs) in
    let matched =
    ap (λ k. policy_matches (case_of k.now) x) (sym l.invariant.case)
    ∙ ap (λ (y : BoundPolicy). policy_matches (case_of l.self.case.now) y) (sym c.get-bound.ensures)
    ∙ ap (λ s. is_matched (case_of l.self.case.now) s.match_constraints) (sym c.get.ensures)
    ∙ sym c.is_matched.ensures in
    let cut : c.is_matched.result ≡ true → of_policy (case_of l.self.case.now) b ++ rest ≡ more =
    λ yes. ap (λ k. of_policy (case_of k.now) b ++ rest) l.invariant.case
    ∙ ap (λ (y : BoundPolicy). of_policy case y ++ rest) c.get-bound.ensures
    ∙ next_of (of_policy case) (policy_matches case) xs l.policy-index x c.loop-policy-test.true c.policy-item.is (matched ∙ yes) in
    elim c.if-is_matched.branch [
      | then-is_matched+in_ok-policy w ↦ record {
        case = rw w.self-is (w.in_ok-policy.ensures.adds.case ∙ l.invariant.case);
        progress = rw w.self-is (
            next_progress (progress_of l.self) (progress_of w.policy.new.self) _ (of_policy (case_of l.self.case.now) b) rest more
            w.in_ok-policy.ensures.adds.progress (cut w.if-is_matched.true) l.invariant.progress
            );
        within = rw w.self-is w.in_ok-policy.ensures.adds.within;
        looks = rw w.self-is (λ one.
            l.invariant.looks
            (
            rest_looks (progress_of l.self) (progress_of w.policy.new.self) (of_policy (case_of l.self.case.now) b) rest more
            w.in_ok-policy.ensures.adds.progress (cut w.if-is_matched.true) one
            ));
      }
      | else-is_matched w ↦ let skipped = none_of (of_policy case) (policy_matches case) xs l.policy-index x c.loop-policy-test.true
          c.policy-item.is (matched ∙ w.if-is_matched.false) in record {
            case = rw w.self-is l.invariant.case;
            progress = rw w.self-is (ap (behind (progress_of l.self)) skipped ∙ l.invariant.progress);
            within = rw w.self-is l.invariant.within;
            looks = rw w.self-is (λ one. l.invariant.looks (subst (Looks l.self) skipped one));
          }
    ]

-- at the policy where the loop is
pub returns-in_err-policy-clause-pattern : goal.returns-in_err-policy-clause-pattern
returns-in_err-policy-clause-pattern c = λ is.
    let p = err_from_is_err_and c.from_residual.result c.from_residual.ensures.1 in
    let q = p.1 in
    let r = p.2 in
    let l = c.loop-policy in
    let case = case_of c.args.self.now.case.now in
    let xs = c.args.policies.now in
    let x = c.policy-item.result in
    let b = c.get-bound.result.now in
    let rest = of_policies case (drop (l.policy-index + 1) xs) in
    l.invariant.looks
    (
    first_looks l.self.left (of_policy (case_of l.self.case.now) b) rest (of_policies case (drop l.policy-index xs))
    (
    ap (λ k. of_policy (case_of k.now) b ++ rest) l.invariant.case
    ∙ ap (λ (y : BoundPolicy). of_policy case y ++ rest) c.get-bound.ensures
    ∙ next_of (of_policy case) (policy_matches case) xs l.policy-index x c.loop-policy-test.true c.policy-item.is
    (
    ap (λ k. policy_matches (case_of k.now) x) (sym l.invariant.case)
    ∙ ap (λ (y : BoundPolicy). policy_matches (case_of l.self.case.now) y) (sym c.get-bound.ensures)
    ∙ ap (λ s. is_matched (case_of l.self.case.now) s.match_constraints) (sym c.get.ensures)
    ∙ sym c.is_matched.ensures
    ∙ c.if-is_matched.true
    )
    )
    (c.in_err-policy.ensures.pattern (cc))
    )

-- the policy where the loop is is ready
pub policy-requires-clause-ready : goal.policy-requires-clause-ready
policy-requires-clause-ready c =
    let l = c.loop-policy in
    let case = c.args.self.now.case.now in
    subst (λ k. IsReadyAt k.now.set.now (case_of k.now).kind c.get-bound.result.now) (sym l.invariant.case)
    (
    subst (IsReadyAt case.set.now (case_of case).kind) (sym (c.get-bound.ensures ∙ c.policy-item.is))
    (c.requires.ready l.policy-index c.policy-item.result c.loop-policy-test.true)
    )
