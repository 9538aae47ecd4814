use Rattle.cel_expression.proofs.OfImage.{image_is, faithful_is}
use Rattle.cel_expression.proofs.compiled.Compiled.program.Goals as goal

pub returns-clause-image : goal.returns-clause-image
returns-clause-image c = image_is c.self.inside c.self.invariant _ c.self.view_is _ c.get.ensures

pub returns-clause-faithful : goal.returns-clause-faithful
returns-clause-faithful c = faithful_is c.self.inside c.self.invariant _ c.self.view_is _ c.get.ensures
