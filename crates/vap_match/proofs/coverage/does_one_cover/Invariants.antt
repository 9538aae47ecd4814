use Rattle.std.proofs.Common.{◌≡◌, drop}
use Rattle.std.specs.List.{list_any}
use Rattle.vap_match.specs.Cover.{rule_covers}
use Rattle.vap_match.proofs.coverage.does_one_cover.Given as goal

abbrev pub invariant-loop-rule : goal.invariant-loop-rule
invariant-loop-rule l = list_any (rule_covers l.request) (drop l.rule-index l.rules) ≡ list_any (rule_covers l.request) l.rules
