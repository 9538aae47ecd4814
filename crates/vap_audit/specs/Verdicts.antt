-- What is decided on a request at a published log. No other definition from here on names where verdicts are defined, and none looks
-- inside one, except for its revision and its charge.
use Rattle.std.specs.Prelude.{ℕ, List}
use Rattle.vap_match.specs.declared.request.Request.{Request}
use Rattle.vap_policy_verdict.specs.declared.verdict.Verdict.{Verdict as VerdictOf}
use Rattle.vap_policy.specs.Evaluations as evaluations
use Rattle.vap_policy.specs.Judging as judging
use Rattle.vap_policy.specs.RequestPatterns as patterns
use Rattle.vap_watch.specs.Given.{PolicySet}
use Rattle.vap_watch.specs.Logs.{set_of}
use Rattle.vap_watch.specs.declared.log.Logged.{Logged}

-- what is decided on a request
abbrev pub Verdict : Type 0
Verdict = VerdictOf

-- what a set decides on a request
unfoldable pub verdict_of : PolicySet → Request → Verdict
verdict_of = judging.verdict_of

-- the verdict on a request at a log
abbrev pub verdict_at : List Logged → Request → Verdict
verdict_at log request = verdict_of (set_of log) request

-- the most that is charged for a request
abbrev pub budget : ℕ
budget = evaluations.budget

-- a set looks for a pattern at a request: a policy that matches it under a binding has an expression that gives `matches` a
-- literal text
abbrev pub MayMatch : PolicySet → Request → Type 0
MayMatch set request = patterns.MayMatch set request.admission
