use Rattle.std.proofs.Common.{◌∙◌, sym, subst}
use Rattle.cel_operators.specs.PatternAnswers.{IsHonest}
use Rattle.cel_operators.proofs.Copies.{copied_told}
use Rattle.cel_operators.proofs.patterns.Patterns.copy.Goals as goal

pub invariant_of-result : goal.invariant_of-result
invariant_of-result c =
    subst IsHonest
    (sym (copied_told c.self.inside.answers c.in_ok-clone.field-0 c.self.inside.refused.items _
    c.in_ok-clone.ensures.cases c.in_ok-clone-2.ensures.cases.0))
    c.self.invariant

pub returns : goal.returns
returns c =
    copied_told c.self.inside.answers c.in_ok-clone.field-0 c.self.inside.refused.items _
    c.in_ok-clone.ensures.cases c.in_ok-clone-2.ensures.cases.0
    ∙ c.self.view_is
