use Rattle.std.proofs.Common.{◌≡◌, arith, rules}
use Rattle.vap_policy_verdict.specs.declared.verdict.Verdict.{Verdict}
use Rattle.vap_cli_replay.proofs.Crews.{all_next, all_whole}
use Rattle.vap_cli_replay.proofs.crew.are_at.Goals as goal

pub loop-verdict-preserved : goal.loop-verdict-preserved
loop-verdict-preserved c =
    let same : c.verdict-item.result.revision ≡ c.args.revision = search rules in
    all_next (λ (v : Verdict). v.revision ≡ c.args.revision) c.args.verdicts.now c.loop-verdict.verdict-index c.verdict-item.result
    (omega (arith, c.loop-verdict-test.true)) c.verdict-item.is same c.loop-verdict.invariant

pub returns : goal.returns
returns c = λ _.
    all_whole (λ (v : Verdict). v.revision ≡ c.args.revision) c.args.verdicts.now c.loop-verdict.verdict-index
    (omega (arith, c.loop-verdict-test.false)) c.loop-verdict.invariant
