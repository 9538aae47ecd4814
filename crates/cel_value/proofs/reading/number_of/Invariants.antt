use Rattle.std.proofs.Common.{◌≡◌, ◌<◌, ◌^◌, drop}
use Rattle.cel_value.specs.Reading as spec
use Rattle.cel_value.proofs.Digits.{number_from}
use Rattle.cel_value.proofs.reading.number_of.Given as goal

abbrev pub invariant-loop-digit : goal.invariant-loop-digit
invariant-loop-digit l =
    (number_from l.number (drop l.digit-index l.digits) ≡ spec.number_of l.digits) × (l.number < 10 ^ l.digit-index)
