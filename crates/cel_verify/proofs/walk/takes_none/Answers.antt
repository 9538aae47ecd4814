use Rattle.cel_verify.proofs.Openings.{none_taken, taken_by, refused_by}
use Rattle.cel_verify.proofs.walk.takes_none.Goals as goal

pub returns-in-Some-clause-taken : goal.returns-in-Some-clause-taken
returns-in-Some-clause-taken c = λ t. taken_by _ c.in-Some.types.now c.is_empty.result c.in-Some.ensures c.is_empty.ensures t

pub returns-in-Some-clause-refused : goal.returns-in-Some-clause-refused
returns-in-Some-clause-refused c = λ f. refused_by _ c.in-Some.types.now c.is_empty.result c.in-Some.ensures c.is_empty.ensures f

pub returns-in-None-clause-taken : goal.returns-in-None-clause-taken
returns-in-None-clause-taken c = λ t. none_taken _ c.in-None.ensures
