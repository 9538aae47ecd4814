use Rattle.std.proofs.Common.{◌≡◌, drop}
use Rattle.vap_read.specs.PolicyForm.{has_break}
use Rattle.vap_policy_evaluation.proofs.words.has_break.Given as goal

abbrev pub invariant-loop-byte : goal.invariant-loop-byte
invariant-loop-byte l = has_break (drop l.byte-index l.text) ≡ has_break l.text
