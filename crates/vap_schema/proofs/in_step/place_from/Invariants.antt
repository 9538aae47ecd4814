use Rattle.std.proofs.Common.{◌≡◌, ◌+◌, ◌-◌, ◌≤◌, length, drop}
use Rattle.vap_schema.specs.InStep.{count_before}
use Rattle.vap_schema.proofs.in_step.place_from.Given as goal

abbrev pub invariant-loop-place : goal.invariant-loop-place
invariant-loop-place g l = record {
  within : l.place ≤ length l.entries;
  counted : l.place + count_before l.name (drop l.place l.entries) ≡ l.from + count_before l.name (drop l.from l.entries);
}

abbrev pub decreases-loop-place : goal.decreases-loop-place
decreases-loop-place g l = length l.entries - l.place
