use Rattle.std.proofs.Common.{◌≡◌, length, take}
use Rattle.cel_expression.specs.Drafts.{drafted}
use Rattle.cel_expression.proofs.compiler.Draft.leave.Given as goal

-- the first so many are still there, and nothing else is changed
abbrev pub invariant-loop-self : goal.invariant-loop-self
invariant-loop-self l =
    (take l.count l.self.below ≡ take l.count l.initial.self.below) × (drafted l.self ≡ drafted l.initial.self)
    × (l.self.targets ≡ l.initial.self.targets)

abbrev pub decreases-loop-self : goal.decreases-loop-self
decreases-loop-self l = length l.self.below
