use Rattle.std.proofs.Common.{◌≡◌, ◌++◌, length, take}
use Rattle.std.specs.List.{flat_map}
use Rattle.cel_code.specs.Spelling.{be32}
use Rattle.cel_code.specs.Writing.{spelt_field}
use Rattle.cel_code.proofs.writing.+writing.Given as goal

abbrev pub invariant-put_fields-loop-field : goal.invariant-put_fields-loop-field
invariant-put_fields-loop-field l = l.out.items ≡ l.fn.out.items ++
    (be32 (length l.fields) ++ flat_map spelt_field (take l.field-index l.fields))
