use Rattle.std.proofs.Common.{Some, sym, ap, ◌∙◌, arith}
use Rattle.std.proofs.lemmas.Bool.{leb-true}
use Rattle.base_containers.specs.Numbers.{num_of}
use Rattle.vap_schema_conformance.proofs.Simple.{negative_is_value, unsigned_is_value}
use Rattle.vap_schema_conformance.proofs.scalars.is_int.Goals as goal

pub returns-in-Some-Unsigned : goal.returns-in-Some-Unsigned
returns-in-Some-Unsigned c = λ small.
    let within = leb-true _ _ small in
    unsigned_is_value c.args.document.now c.in-Some-Unsigned.n
    (sym c.in-Some-Unsigned.ensures ∙ ap (λ n. Some (num_of n)) c.in-Some-Unsigned.field-0-is) (omega (arith, within))

pub returns-in-Some-Negative : goal.returns-in-Some-Negative
returns-in-Some-Negative c = λ _.
    negative_is_value c.args.document.now c.in-Some-Negative.field-0-0
    (sym c.in-Some-Negative.ensures ∙ ap (λ n. Some (num_of n)) c.in-Some-Negative.field-0-is)
