use Rattle.cel_expression.proofs.Faults.{refused_image}
use Rattle.cel_expression.proofs.stages.program_of.Goals as goal

pub returns-in-Ok-clause-computes : goal.returns-in-Ok-clause-computes
returns-in-Ok-clause-computes c = rw c.in-Ok.ensures.accepted.0 c.in_ok-image.ensures.computes

pub returns-in-Ok-clause-image : goal.returns-in-Ok-clause-image
returns-in-Ok-clause-image c = rw c.in-Ok.ensures.accepted.0 c.in_ok-image.ensures.compiled

pub returns-clause-unverified : goal.returns-clause-unverified
returns-clause-unverified c =
    λ at is.
    refused_image c.args.typed.now.tree c.in_ok-image.image _ c.in-Err.error at c.widened.result c.in_ok-image.ensures.compiled
    c.in-Err.ensures.accepted c.widened.ensures cc
