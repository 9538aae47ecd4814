use Rattle.std.proofs.Common.{refl, rules}
use Rattle.cel_expression.proofs.Place.{interned}
use Rattle.cel_expression.proofs.Written.{grows_found, grows_new}
use Rattle.cel_expression.proofs.compiler.Draft.intern.Goals as goal

pub returns-in-Some-clause-grows : goal.returns-in-Some-clause-grows
returns-in-Some-clause-grows c = grows_found c.args.self.now c.args.value.now c.in-Some.number c.in-Some.ensures

pub returns-clause-number : goal.returns-clause-number
returns-clause-number c =
    interned _ _ c.args.value.now _ _ refl (search rules) c.in_ok-push.ensures refl

pub returns-clause-grows : goal.returns-clause-grows
returns-clause-grows c = grows_new _ _ c.args.value.now _ refl c.in_default.ensures c.in_ok-push.ensures refl refl refl
