use Rattle.std.proofs.Common.{◌≡◌, drop}
use Rattle.std.specs.List.{list_any}
use Rattle.vap_match.specs.Cover.{is_word_or_any, before_slash}
use Rattle.vap_policy_set.proofs.params.names_resource.Given as goal

abbrev pub invariant-loop-pattern : goal.invariant-loop-pattern
invariant-loop-pattern l =
    list_any (λ pattern. is_word_or_any l.resource (before_slash pattern)) (drop l.pattern-index l.patterns)
    ≡ list_any (λ pattern. is_word_or_any l.resource (before_slash pattern)) l.patterns
