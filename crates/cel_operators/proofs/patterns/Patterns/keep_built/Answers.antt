use Rattle.std.proofs.Common.{◌∙◌, ap, refl, string_bytes, true}
use Rattle.cel_operators.specs.PatternAnswers.{answer_in, told_by}
use Rattle.cel_operators.proofs.Asked.{Adds, adds, answered_by, grows_seen, honest_built}
use Rattle.cel_operators.proofs.Only.{asks_nothing, asks_one}
use Rattle.cel_operators.proofs.patterns.Patterns.keep_built.Goals as goal

added : (c : goal.In_ok-insert) →
    Adds (told_by c.self.inside.answers c.self.inside.refused.items) (told_by c.insert.new.self c.self.inside.refused.items)
    c.args.text.now true
added c =
    let refused = c.self.inside.refused.items in
    adds c.self.inside.answers c.insert.new.self refused refused (string_bytes c.in_ok-key.key) c.args.text.now true
    c.in_ok-key.ensures.ok c.in_ok-insert.ensures.updates

pub invariant_of-self : goal.invariant_of-self
invariant_of-self c = rw c.in_err-insert.ensures.err c.self.invariant

pub invariant_of-self-2 : goal.invariant_of-self-2
invariant_of-self-2 c =
    honest_built _ _ c.args.text.now (added c) (ap (λ asked. answer_in asked c.args.text.now) c.self.view_is ∙ c.requires.new)
    c.requires.is_pattern refl c.self.invariant

pub returns-clause-answered : goal.returns-clause-answered
returns-clause-answered c = answered_by _ _ c.args.text.now true (added c)

pub returns-clause-grows : goal.returns-clause-grows
returns-clause-grows c = grows_seen _ _ _ c.args.text.now true c.self.view_is (added c) c.requires.new

pub returns-clause-only : goal.returns-clause-only
returns-clause-only c = asks_one _ _ _ c.args.text.now true c.self.view_is (added c)

pub returns-in_err-insert-clause-only : goal.returns-in_err-insert-clause-only
returns-in_err-insert-clause-only c =
    let refused = c.self.inside.refused.items in
    asks_nothing _ c.self.inside.answers c.insert.new.self refused refused _ c.self.view_is c.in_err-insert.ensures.err
