use Rattle.std.proofs.Common.{◌≡◌, ◌+◌, ◌<◌, true, ◌++◌, sym, ap, ◌∙◌, subst, length, get_or, drop, filter, flat_map}
use Rattle.std.proofs.lemmas.Result.{err_from_is_err_and}
use Rattle.vap_policy.specs.Adds.{Looks, behind, progress_of}
use Rattle.vap_policy.specs.Judging.{binding_matches, is_matched, of_binding, of_policy}
use Rattle.vap_policy.specs.Shown.{case_of}
use Rattle.vap_policy.proofs.Budget.{first_looks, next_progress, rest_looks}
use Rattle.vap_policy.proofs.Joined.{next_of, none_of}
use Rattle.vap_policy.proofs.evaluations.Judging.policy.Goals as goal
use Rattle.vap_policy.proofs.evaluations.Judging.policy.Goals.{then-is_matched+in_ok-binding, else-is_matched}

pub loop-binding-preserved : goal.loop-binding-preserved
loop-binding-preserved c =
    let l = c.loop-binding in
    let case = case_of c.args.self.now.case.now in
    let p = c.args.policy.now in
    let xs = p.bindings in
    let x = c.binding-item.result in
    let rest = flat_map (of_binding case p) (filter (binding_matches case) (drop (l.binding-index + 1) xs)) in
    let more = flat_map (of_binding case p) (filter (binding_matches case) (drop l.binding-index xs)) in
    let same = c.as_slice-binding-items.ensures in
    let inside = subst (λ ys. l.binding-index < length ys) same c.loop-binding-test.true in
    let is = c.binding-item.is ∙ ap (λ ys. get_or ys l.binding-index x) same in
    let matched =
    ap (λ k. binding_matches (case_of k.now) x) (sym l.invariant.case)
    ∙ ap (λ s. is_matched (case_of l.self.case.now) s.match_resources) (sym c.get.ensures)
    ∙ sym c.is_matched.ensures in
    let cut : c.is_matched.result ≡ true → of_binding (case_of l.self.case.now) p x ++ rest ≡ more =
    λ yes. ap (λ k. of_binding (case_of k.now) p x ++ rest) l.invariant.case
    ∙ next_of (of_binding case p) (binding_matches case) xs l.binding-index x inside is (matched ∙ yes) in
    elim c.if-is_matched.branch [
      | then-is_matched+in_ok-binding w ↦ record {
        case = rw w.self-is (w.in_ok-binding.ensures.adds.case ∙ l.invariant.case);
        progress = rw w.self-is (
            next_progress (progress_of l.self) (progress_of w.binding.new.self) _ (of_binding (case_of l.self.case.now) p x) rest more
            w.in_ok-binding.ensures.adds.progress (cut w.if-is_matched.true) l.invariant.progress
            );
        within = rw w.self-is w.in_ok-binding.ensures.adds.within;
        looks = rw w.self-is (λ one.
            l.invariant.looks
            (
            rest_looks (progress_of l.self) (progress_of w.binding.new.self) (of_binding (case_of l.self.case.now) p x) rest more
            w.in_ok-binding.ensures.adds.progress (cut w.if-is_matched.true) one
            ));
      }
      | else-is_matched w ↦ let skipped = none_of (of_binding case p) (binding_matches case) xs l.binding-index x inside is
          (matched ∙ w.if-is_matched.false) in record {
            case = rw w.self-is l.invariant.case;
            progress = rw w.self-is (ap (behind (progress_of l.self)) skipped ∙ l.invariant.progress);
            within = rw w.self-is l.invariant.within;
            looks = rw w.self-is (λ one. l.invariant.looks (subst (Looks l.self) skipped one));
          }
    ]

-- at the binding where the loop is
pub returns-in_err-binding-clause-pattern : goal.returns-in_err-binding-clause-pattern
unfolding of_policy
returns-in_err-binding-clause-pattern c = λ is.
    let p = err_from_is_err_and c.from_residual.result c.from_residual.ensures.1 in
    let q = p.1 in
    let r = p.2 in
    let l = c.loop-binding in
    let case = case_of c.args.self.now.case.now in
    let x = c.binding-item.result in
    let same = c.as_slice-binding-items.ensures in
    let matched =
    ap (λ k. binding_matches (case_of k.now) x) (sym l.invariant.case)
    ∙ ap (λ s. is_matched (case_of l.self.case.now) s.match_resources) (sym c.get.ensures)
    ∙ sym c.is_matched.ensures
    ∙ c.if-is_matched.true in
    l.invariant.looks
    (
    first_looks l.self.left (of_binding (case_of l.self.case.now) c.args.policy.now x)
    (flat_map (of_binding case c.args.policy.now) (filter (binding_matches case) (drop (l.binding-index + 1) c.args.policy.now.bindings)))
    (flat_map (of_binding case c.args.policy.now) (filter (binding_matches case) (drop l.binding-index c.args.policy.now.bindings)))
    (
    ap (λ k. of_binding (case_of k.now) c.args.policy.now x ++ flat_map (of_binding case c.args.policy.now)
    (filter (binding_matches case) (drop (l.binding-index + 1) c.args.policy.now.bindings))) l.invariant.case
    ∙ next_of (of_binding case c.args.policy.now) (binding_matches case) c.args.policy.now.bindings l.binding-index x
    (subst (λ ys. l.binding-index < length ys) same c.loop-binding-test.true)
    (c.binding-item.is ∙ ap (λ ys. get_or ys l.binding-index x) same) matched
    )
    (c.in_err-binding.ensures.pattern (cc))
    )
