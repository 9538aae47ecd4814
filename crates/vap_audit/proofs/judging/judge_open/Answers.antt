use Rattle.std.proofs.Common.{subst}
use Rattle.vap_watch.specs.Given.{PolicySet}
use Rattle.vap_audit.specs.Verdicts.{MayMatch}
use Rattle.vap_audit.proofs.judging.judge_open.Goals as goal

-- at the set of the log
pub returns-clause-pattern : goal.returns-clause-pattern
returns-clause-pattern c = λ is.
    subst (λ (set : PolicySet). MayMatch set c.args.request.now.request.now) c.set.ensures (c.judge_open.ensures.pattern is)
