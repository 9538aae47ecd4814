use Rattle.std.proofs.Common.{◌≡◌, drop}
use Rattle.std.specs.List.{list_any}
use Rattle.vap_match.specs.Cover.{covers_resource}
use Rattle.vap_match.proofs.coverage.names_resource.Given as goal

abbrev pub invariant-loop-pattern : goal.invariant-loop-pattern
invariant-loop-pattern l =
    list_any (covers_resource l.resource l.sub) (drop l.pattern-index l.patterns)
    ≡ list_any (covers_resource l.resource l.sub) l.patterns
