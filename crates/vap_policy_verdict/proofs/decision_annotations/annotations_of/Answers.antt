use Rattle.std.proofs.Common.{IfOk, rules}
use Rattle.vap_policy_verdict.specs.DecisionAnnotations.{AreByKey, found_annotations}
use Rattle.vap_policy_verdict.proofs.ByKey.{each_by_key}
use Rattle.vap_policy_verdict.proofs.decision_annotations.annotations_of.Goals as goal

pub returns-clause-exact : goal.returns-clause-exact
returns-clause-exact c =
    let by : IfOk c.annotations_from.result (AreByKey (found_annotations c.args.findings.now c.args.notes.now)) = search rules in
    each_by_key c.annotations_from.result (found_annotations c.args.findings.now c.args.notes.now) by
