use Rattle.std.proofs.Common.{◌∙◌, sym, eqb-true}
use Rattle.std.proofs.lemmas.Bool.{eqb-false}
use Rattle.cel_operators.proofs.Digits.{int_read, int_of_plus}
use Rattle.cel_operators.proofs.numbers.read_int.Goals as goal

pub returns-then-has_plus : goal.returns-then-has_plus
returns-then-has_plus c = sym (int_of_plus c.args.text.now (eqb-true _ 43 (sym c.has_plus.ensures ∙ c.if-has_plus.true)))

pub returns : goal.returns
returns c =
    c.ok.ensures.value
    ∙ int_read c.args.text.now c.parse.result c.parse.ensures.value.0 (eqb-false _ 43 (sym c.has_plus.ensures ∙ c.if-has_plus.false))
