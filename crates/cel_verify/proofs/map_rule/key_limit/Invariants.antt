use Rattle.std.proofs.Common.{◌≡◌, length}
use Rattle.std.specs.Prelude.{reverse}
use Rattle.cel_operators.specs.Maps.{greater_limit, key_limit, keys_by_turns}
use Rattle.cel_verify.proofs.map_rule.key_limit.Given as goal

-- the limit so far and that of the keys that are left
abbrev pub invariant-loop-below : goal.invariant-loop-below
invariant-loop-below l = greater_limit l.limit (key_limit (keys_by_turns (reverse l.rest))) ≡ key_limit (keys_by_turns (reverse l.entries))

abbrev pub decreases-loop-below : goal.decreases-loop-below
decreases-loop-below l = length l.rest
