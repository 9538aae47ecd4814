use Rattle.std.proofs.Common.{◌≡◌, drop, string_bytes}
use Rattle.cel_operators.proofs.Joins.{more}
use Rattle.cel_operators.proofs.concatenation.joined.Given as goal

-- what is there and what is left are what was there first and all the rest
abbrev pub invariant-loop-part : goal.invariant-loop-part
invariant-loop-part l =
    more l.separator (string_bytes l.text) (drop l.part-index l.rest) ≡ more l.separator (string_bytes l.initial.text) l.rest
