use Rattle.std.proofs.Common.{◌≡◌, drop}
use Rattle.cel_value.specs.Assignable.{fields_take, takers_of}
use Rattle.cel_value.proofs.assignment.+takes.Given as goal

abbrev pub invariant-take_fields-loop-field : goal.invariant-take_fields-loop-field
invariant-take_fields-loop-field l =
    fields_take (takers_of (drop l.field-index l.fields)) l.rest ≡ fields_take (takers_of l.fields) l.initial.rest
