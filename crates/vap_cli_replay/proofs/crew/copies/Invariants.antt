use Rattle.std.proofs.Common.{◌≡◌, take}
use Rattle.vap_cli_replay.proofs.crew.copies.Given as goal

abbrev pub invariant-loop-request : goal.invariant-loop-request
invariant-loop-request l = l.copies.items ≡ take l.request-index l.requests
