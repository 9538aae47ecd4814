use Rattle.std.proofs.Common.{Some, ap, ◌∙◌}
use Rattle.vap_read_objects.proofs.fitting.Fitting.param_at.Goals as goal

pub returns-in_ok-param-in-Some-clause-object : goal.returns-in_ok-param-in-Some-clause-object
returns-in_ok-param-in-Some-clause-object c = ap Some c.in_ok-param-in-Some.ensures.object ∙ c.in-Some.ensures
