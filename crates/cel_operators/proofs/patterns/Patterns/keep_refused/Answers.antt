use Rattle.std.proofs.Common.{◌≡◌, ◌∙◌, ◌++◌, ◌∷◌, [], ap, false, string_bytes}
use Rattle.cel_operators.specs.PatternAnswers.{answer_in, choice_in, told_by}
use Rattle.cel_operators.proofs.Asked.{Adds, adds, answered_by, grows_seen, honest_refused, joined}
use Rattle.cel_operators.proofs.Only.{asks_nothing, asks_one}
use Rattle.std.proofs.lemmas.List.{map-append}
use Rattle.cel_operators.specs.PatternChoice.{then_answered}
use Rattle.cel_operators.proofs.patterns.Patterns.keep_refused.Goals as goal

added : (c : goal.After-push_reserved) →
    Adds (told_by c.self.inside.answers c.self.inside.refused.items) (told_by c.insert.new.self c.push_reserved.new.self.items)
    c.args.text.now false
added c =
    adds c.self.inside.answers c.insert.new.self c.self.inside.refused.items c.push_reserved.new.self.items
    (string_bytes c.in_ok-key.key) c.args.text.now false c.in_ok-key.ensures.ok c.in_ok-insert.ensures.updates

last : (c : goal.After-push_reserved) →
    choice_in (told_by c.insert.new.self c.push_reserved.new.self.items)
    ≡ choice_in (told_by c.self.inside.answers c.self.inside.refused.items) ++ c.args.text.now ∷ []
last c =
    rw
    (c.push_reserved.ensures.items, c.reserve.ensures.items, map-append string_bytes c.self.inside.refused.items (c.in_ok-name.name ∷ []))
    (ap (λ text. choice_in (told_by c.self.inside.answers c.self.inside.refused.items) ++ text ∷ []) c.in_ok-name.ensures.ok)

pub invariant_of-self : goal.invariant_of-self
invariant_of-self c = rw c.reserve.ensures.items c.self.invariant

pub invariant_of-self-2 : goal.invariant_of-self-2
invariant_of-self-2 c = honest_refused _ _ c.args.text.now (added c) (last c) c.self.invariant

pub returns-clause-answered : goal.returns-clause-answered
returns-clause-answered c = answered_by _ _ c.args.text.now false (added c)

pub returns-clause-in_order : goal.returns-clause-in_order
returns-clause-in_order c =
    last c ∙ joined _ c.args.text.now c.self.invariant (ap (λ asked. answer_in asked c.args.text.now) c.self.view_is ∙ c.requires.new)
    ∙ ap (λ asked. then_answered (choice_in asked) c.args.text.now false) c.self.view_is

pub returns-clause-grows : goal.returns-clause-grows
returns-clause-grows c = grows_seen _ _ _ c.args.text.now false c.self.view_is (added c) c.requires.new

pub returns-clause-only : goal.returns-clause-only
returns-clause-only c = asks_one _ _ _ c.args.text.now false c.self.view_is (added c)

pub returns-in_err-insert-clause-only : goal.returns-in_err-insert-clause-only
returns-in_err-insert-clause-only c =
    asks_nothing _ c.self.inside.answers c.insert.new.self c.self.inside.refused.items c.reserve.new.self.items _ c.self.view_is
    c.in_err-insert.ensures.err
