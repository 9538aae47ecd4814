use Rattle.std.proofs.Common.{◌≡◌, drop}
use Rattle.cel_operators.specs.Compared.{every_field, plain_in}
use Rattle.cel_operators.proofs.equality.+is_all_plain.Given as goal

-- the fields that are left decide
abbrev pub invariant-each_all_plain-loop-field : goal.invariant-each_all_plain-loop-field
invariant-each_all_plain-loop-field l = every_field (plain_in (drop l.field-index l.fields)) ≡ every_field (plain_in l.fields)
