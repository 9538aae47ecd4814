use Rattle.std.proofs.Common.{◌≡◌, ◌+◌, ◌<◌, ◌^◌, length}
use Rattle.std.specs.Option.{option_map}
use Rattle.cel_value.specs.Reading as spec
use Rattle.cel_value.specs.Views.{capped}
use Rattle.cel_value.proofs.reading.parts_spelled.Given as goal

abbrev pub invariant-loop-rest : goal.invariant-loop-rest
invariant-loop-rest l =
    (option_map (λ n. capped (l.total + n)) (spec.parts_spelled (length l.rest) l.rest)
    ≡ option_map capped (spec.parts_spelled (length l.bytes) l.bytes))
    × (l.total < 2 ^ 64)

abbrev pub decreases-loop-rest : goal.decreases-loop-rest
decreases-loop-rest l = length l.rest
