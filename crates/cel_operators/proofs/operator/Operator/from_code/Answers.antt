use Rattle.std.proofs.Common.{refl, sym}
use Rattle.std.proofs.lemmas.Option.{slice_get_read, slice_get_past}
use Rattle.cel_operators.specs.Operators.{operators}
use Rattle.cel_operators.proofs.operator.Operator.from_code.Goals as goal

pub returns-in-Some : goal.returns-in-Some
returns-in-Some c =
    let found = c.in-Some.ensures.lookup in
    sym (slice_get_read operators _ c.args.code c.in-Some.operator.now refl found.3.0 found.1)

pub returns-in-None : goal.returns-in-None
returns-in-None c = sym (slice_get_past operators c.args.code c.in-None.ensures.lookup.3)
