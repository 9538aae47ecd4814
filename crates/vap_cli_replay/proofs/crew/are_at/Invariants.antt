use Rattle.std.proofs.Common.{◌≡◌, take}
use Rattle.std.specs.List.{All}
use Rattle.vap_cli_replay.proofs.crew.are_at.Given as goal

abbrev pub invariant-loop-verdict : goal.invariant-loop-verdict
invariant-loop-verdict l = All (λ verdict. verdict.revision ≡ l.revision) (take l.verdict-index l.verdicts)
