use Rattle.std.proofs.Common.{◌≤◌, [], length, sym, ap, ◌∙◌, subst, arith}
use Rattle.std.specs.List.{All}
use Rattle.std.proofs.lemmas.List.{drop_all}
use Rattle.std.proofs.lemmas.List.Elements.{All-drop, All-from_recursion}
use Rattle.vap_match.specs.Choose.{matches}
use Rattle.vap_match.specs.Select.{lent_labels}
use Rattle.vap_policy_set.specs.Ready.{IsReadyAt}
use Rattle.vap_policy_set.specs.declared.bound.BoundPolicy.{BoundPolicy}
use Rattle.vap_read.specs.declared.policy.PolicySpec.{PolicySpec}
use Rattle.vap_policy.specs.Matched.{matched_by}
use Rattle.vap_policy.proofs.Skipped.{one_skipped}
use Rattle.vap_policy.proofs.matched.from_first.Goals as goal

pub loop-place-preserved : goal.loop-place-preserved
loop-place-preserved c =
    let l = c.loop-place in
    let r = c.args.request.now.request.now.admission in
    let held = lent_labels c.args.labels.now in
    let x = c.index-policies-place.result in
    one_skipped r held c.args.policies.now l.place x c.loop-place-test.true c.index-policies-place.is
    (
    ap (λ (y : BoundPolicy). matches y.policy.spec.match_constraints r held) (sym c.get-bound.ensures)
    ∙ ap (λ (s : PolicySpec). matches s.match_constraints r held) (sym c.get.ensures)
    ∙ sym c.matches.ensures
    ∙ c.if-matches.false
    )
    ∙ l.invariant

pub returns-then-matches-clause-matched : goal.returns-then-matches-clause-matched
returns-then-matches-clause-matched c =
    ap (matched_by c.args.request.now.request.now.admission (lent_labels c.args.labels.now)) c.split_at.ensures.back
    ∙ c.loop-place.invariant

pub returns-then-matches-clause-ready : goal.returns-then-matches-clause-ready
returns-then-matches-clause-ready c = λ set kind all.
    subst (All (IsReadyAt set kind)) (sym c.split_at.ensures.back)
    (All-drop (IsReadyAt set kind) c.loop-place.place c.args.policies.now all)

-- none is left
pub returns-clause-matched : goal.returns-clause-matched
returns-clause-matched c =
    let end : length c.args.policies.now ≤ c.loop-place.place = omega (arith, c.loop-place-test.false) in
    ap (matched_by c.args.request.now.request.now.admission (lent_labels c.args.labels.now))
    (sym (drop_all c.loop-place.place c.args.policies.now end))
    ∙ c.loop-place.invariant

pub returns-clause-ready : goal.returns-clause-ready
returns-clause-ready c = λ set kind all. All-from_recursion (IsReadyAt set kind) [] tt
