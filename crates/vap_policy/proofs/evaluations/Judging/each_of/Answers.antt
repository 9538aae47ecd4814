use Rattle.std.proofs.Common.{◌≡◌, ◌+◌, true, ◌++◌, get_or, sym, ap, ◌∙◌, subst, [], ◌∷◌, drop, filter, map}
use Rattle.vap_policy.specs.Adds.{Looks, behind, progress_of}
use Rattle.vap_policy.specs.Judging.{at_param, at_seen}
use Rattle.vap_policy.specs.Params.{is_param}
use Rattle.vap_policy.specs.Shown.{case_of, lent_place, rule_of}
use Rattle.std.proofs.lemmas.Result.{err_from_is_err_and}
use Rattle.vap_policy.proofs.Budget.{first_looks, next_progress, rest_looks}
use Rattle.vap_policy.proofs.KeptParams.{can_run_at, next_param, other_param, seen_at}
use Rattle.vap_policy.proofs.evaluations.Judging.each_of.Goals as goal
use Rattle.vap_policy.proofs.evaluations.Judging.each_of.Goals.{then-takes+in_ok-param, else-takes}

pub param-requires : goal.param-requires
param-requires g c =
    let l = c.loop-param in
    let x = c.get-fitted.result.now in
    let there = c.get-fitted.ensures ∙ c.param-item.is
    ∙ ap (get_or c.args.params.now c.loop-param.param-index) (sym c.get-fitted.ensures) in
    rw l.invariant.case (
      c.requires.0.ready,
      (
        c.requires.0.within,
        (
          can_run_at (case_of c.args.self.now.case.now) c.args.selection.now.params.now g.types c.args.programs.now x c.requires.0
              (seen_at c.args.selection.now.params.now.cel_type c.args.params.now l.param-index x c.loop-param-test.true there
              c.requires.1.0),
          l.invariant.within,
        ),
      ),
    )

pub loop-param-preserved : goal.loop-param-preserved
loop-param-preserved g c =
    let l = c.loop-param in
    let case = case_of c.args.self.now.case.now in
    let rule = rule_of c.args.rule.now in
    let ps = c.args.programs.now in
    let t = c.args.selection.now.params.now.cel_type in
    let test = is_param (lent_place c.args.selection.now.place) c.args.selection.now.reference.now in
    let xs = c.args.params.now in
    let x = c.get-fitted.result.now in
    let there = c.get-fitted.ensures ∙ c.param-item.is
    ∙ ap (get_or c.args.params.now c.loop-param.param-index) (sym c.get-fitted.ensures) in
    let here = at_seen (case_of l.self.case.now) rule ps x.outcome ∷ [] in
    let rest = map (at_param case rule ps t) (filter test (map (λ p. p.object) (drop (l.param-index + 1) xs))) in
    let more = map (at_param case rule ps t) (filter test (map (λ p. p.object) (drop l.param-index xs))) in
    let taken = ap test (sym c.get.ensures) ∙ sym c.takes.ensures in
    let cut : c.takes.result ≡ true → here ++ rest ≡ more =
    λ yes. ap (λ k. at_seen (case_of k.now) rule ps x.outcome ∷ rest) l.invariant.case
    ∙ next_param case rule ps t test xs l.param-index x c.loop-param-test.true there c.requires.1.0 (taken ∙ yes) in
    elim c.if-takes.branch [
      | then-takes+in_ok-param w ↦ record {
        case = rw w.self-is (w.in_ok-param.ensures.adds.case ∙ l.invariant.case);
        progress = rw w.self-is (
            next_progress (progress_of l.self) (progress_of w.param.new.self) _ here rest more w.in_ok-param.ensures.adds.progress
            (cut w.if-takes.true) l.invariant.progress
            );
        within = rw w.self-is w.in_ok-param.ensures.adds.within;
        looks = rw w.self-is (λ one.
            l.invariant.looks
            (
            rest_looks (progress_of l.self) (progress_of w.param.new.self) here rest more w.in_ok-param.ensures.adds.progress
            (cut w.if-takes.true) one
            ));
      }
      | else-takes w ↦ let skipped = other_param case rule ps t test xs l.param-index x c.loop-param-test.true there
          (taken ∙ w.if-takes.false) in record {
            case = rw w.self-is l.invariant.case;
            progress = rw w.self-is (ap (behind (progress_of l.self)) skipped ∙ l.invariant.progress);
            within = rw w.self-is l.invariant.within;
            looks = rw w.self-is (λ one. l.invariant.looks (subst (Looks l.self) skipped one));
          }
    ]

-- at the param where the loop is
pub returns-in_err-param-clause-pattern : goal.returns-in_err-param-clause-pattern
returns-in_err-param-clause-pattern g c = λ is.
    let p = err_from_is_err_and c.from_residual.result c.from_residual.ensures.1 in
    let q = p.1 in
    let r = p.2 in
    let l = c.loop-param in
    let case = case_of c.args.self.now.case.now in
    let rule = rule_of c.args.rule.now in
    let ps = c.args.programs.now in
    let t = c.args.selection.now.params.now.cel_type in
    let test = is_param (lent_place c.args.selection.now.place) c.args.selection.now.reference.now in
    let xs = c.args.params.now in
    let x = c.get-fitted.result.now in
    let there = c.get-fitted.ensures ∙ c.param-item.is
    ∙ ap (get_or c.args.params.now c.loop-param.param-index) (sym c.get-fitted.ensures) in
    let rest = map (at_param case rule ps t) (filter test (map (λ p. p.object) (drop (l.param-index + 1) xs))) in
    l.invariant.looks
    (
    first_looks l.self.left (at_seen (case_of l.self.case.now) rule ps x.outcome ∷ []) rest
    (map (at_param case rule ps t) (filter test (map (λ p. p.object) (drop l.param-index xs))))
    (
    ap (λ k. at_seen (case_of k.now) rule ps x.outcome ∷ rest) l.invariant.case
    ∙ next_param case rule ps t test xs l.param-index x c.loop-param-test.true there c.requires.1.0
    (ap test (sym c.get.ensures) ∙ sym c.takes.ensures ∙ c.if-takes.true)
    )
    (c.in_err-param.ensures.pattern (cc))
    )
