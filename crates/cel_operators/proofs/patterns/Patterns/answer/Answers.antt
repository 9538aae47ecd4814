use Rattle.std.proofs.Common.{◌≡◌, ◌∙◌, ap, sym, rules}
use Rattle.std.specs.BTreeMap.{get_by_text}
use Rattle.cel_operators.specs.PatternAnswers.{answer_in}
use Rattle.cel_operators.proofs.Asked.{answer_is}
use Rattle.cel_operators.proofs.patterns.Patterns.answer.Goals as goal

pub returns-clause-answer : goal.returns-clause-answer
returns-clause-answer c =
    let text = c.args.text.now in
    let found : c.copied.result ≡ get_by_text c.self.inside.answers text = search rules in
    found ∙ sym (answer_is c.self.inside.answers c.self.inside.refused.items text) ∙ ap (λ asked. answer_in asked text) c.self.view_is
