use Rattle.std.proofs.Common.{◌≡◌, subst}
use Rattle.std.specs.Prelude.{IfOk}
use Rattle.std.specs.Option.{option_copied}
use Rattle.vap_match.specs.declared.request.Request.{Request}
use Rattle.vap_policy.specs.Judging.{verdict_at}
use Rattle.vap_policy.specs.RequestPatterns.{KindMayMatch}
use Rattle.vap_policy.proofs.judgement.judge_opened.Goals as goal

pub returns-clause-verdict : goal.returns-clause-verdict
returns-clause-verdict c =
    subst (λ (r : Request). IfOk c.judge_at.result (λ verdict. verdict ≡ verdict_at c.args.set.now r.admission (option_copied c.args.kind)))
    c.new-open.ensures c.judge_at.ensures.verdict

pub returns-clause-pattern : goal.returns-clause-pattern
returns-clause-pattern c = λ is.
    subst (λ (r : Request). KindMayMatch c.args.set.now r.admission (option_copied c.args.kind)) c.new-open.ensures
    (c.judge_at.ensures.pattern is)
