use Rattle.std.proofs.Common.{◌≡◌, drop}
use Rattle.cel_check.specs.Typing.{own_name}
use Rattle.cel_check.proofs.selection.own_name.Given as goal

-- the fields that are left have the first of all that is selected
abbrev pub invariant-loop-field : goal.invariant-loop-field
invariant-loop-field l = own_name l.selector (drop l.field-index l.fields) ≡ own_name l.selector l.fields
