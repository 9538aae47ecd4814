use Rattle.std.proofs.Common.{◌≡◌, drop}
use Rattle.cel_operators.specs.Compared.{every_field, compared_in}
use Rattle.cel_operators.proofs.equality.+is_comparable.Given as goal

-- the fields that are left decide
abbrev pub invariant-each_comparable-loop-field : goal.invariant-each_comparable-loop-field
invariant-each_comparable-loop-field l = every_field (compared_in (drop l.field-index l.fields)) ≡ every_field (compared_in l.fields)
