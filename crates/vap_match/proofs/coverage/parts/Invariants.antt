use Rattle.std.proofs.Common.{◌≡◌, ◌++◌, take, drop}
use Rattle.vap_match.specs.Cover.{before_slash, behind_slash}
use Rattle.vap_match.proofs.coverage.parts.Given as goal

abbrev pub invariant-loop-place : goal.invariant-loop-place
invariant-loop-place l = record {
  before : take l.place l.pattern ++ before_slash (drop l.place l.pattern) ≡ before_slash l.pattern;
  behind : behind_slash (drop l.place l.pattern) ≡ behind_slash l.pattern;
}
