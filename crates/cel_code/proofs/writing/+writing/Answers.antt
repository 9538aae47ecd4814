use Rattle.std.proofs.Common.{arith}
use Rattle.std.proofs.lemmas.Grind.{common_steps}
use Rattle.cel_code.proofs.TypeLaw.{spelling-Object, spelling-Nullable}
use Rattle.cel_code.proofs.writing.+writing.Goals as goal

pub put_type-returns-in_ok-put_fields-in-Object : goal.put_type-returns-in_ok-put_fields-in-Object
put_type-returns-in_ok-put_fields-in-Object t c = grind (arith, common_steps, spelling-Object c.in-Object.fields)

pub put_type-returns-in_ok-put_type-in-Nullable : goal.put_type-returns-in_ok-put_type-in-Nullable
put_type-returns-in_ok-put_type-in-Nullable t c = grind (arith, common_steps, spelling-Nullable c.in-Nullable.item)
