use Rattle.std.proofs.Common.{◌≡◌, drop}
use Rattle.vap_policy_evaluation.specs.Words.{is_blank}
use Rattle.vap_policy_evaluation.proofs.words.is_blank.Given as goal

abbrev pub invariant-loop-byte : goal.invariant-loop-byte
invariant-loop-byte l = is_blank (drop l.byte-index l.text) ≡ is_blank l.text
