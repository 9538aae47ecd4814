use Rattle.std.proofs.Common.{length, ap, ◌∙◌}
use Rattle.cel_verify.specs.Sound.{below_all}
use Rattle.cel_verify.proofs.opens.Opens.below.Goals as goal

pub returns : goal.returns
returns c = c.self.invariant ∙ ap (λ os. length (below_all os)) c.self.view_is
