use Rattle.std.proofs.Common.{refl, sym, subst}
use Rattle.std.specs.Prelude.{IsErrOf, OnOk}
use Rattle.std.proofs.lemmas.Result.{err_from_is_err_and}
use Rattle.vap_cli_replay.specs.Moves.{RefusesAt, Takes}
use Rattle.vap_cli_replay.specs.declared.fault.ReplayError.TheVariants.{Line as AtLine}
use Rattle.vap_cli_lines.specs.Judged.{IsJudgedAt}
use Rattle.vap_cli_lines.specs.declared.line.Line.{Line}
use Rattle.vap_cli_replay.proofs.Arms.{event_step, refused_event, refused_line, refused_review, took_each}
use Rattle.vap_cli_lines.specs.declared.fault.LineFault.TheVariants.{Pattern, Unverified}
use Rattle.vap_cli_replay.proofs.Told.{stops_answered, told_unwritten}
use Rattle.vap_cli_replay.proofs.Unjudged.{asks_waits, event_unpublished, group_unjudged, none_waits, plain_fault, review_unjudged}
use Rattle.vap_cli_replay.proofs.Unjudged.{same_waits}
use Rattle.vap_cli_replay.proofs.session.Session.take.Goals as goal

pub take_review-requires-clause-judged : goal.take_review-requires-clause-judged
take_review-requires-clause-judged g c κs within =
    subst (λ (l : Line). IsJudgedAt c.args.self.now.writer.published l c.args.answer) c.in-Asks.is c.requires.judged

pub returns-in-Asks-clause-refused : goal.returns-in-Asks-clause-refused
returns-in-Asks-clause-refused g c =
    λ number why is told.
    subst (λ (l : Line). RefusesAt g.W.Write.contents l c.args.self.now c.args.out.now c.take_review.new.out number why)
    (sym c.in-Asks.is)
    (refused_review g.W.Write.contents c.in-Asks.request c.args.self.now _ c.args.out.now c.take_review.new.out number why
    (c.take_review.ensures.told number why is told) (c.take_review.ensures.full number why is told) refl refl refl)

pub returns-in_ok-answer_group-in-Happens-clause-step :
    goal.returns-in_ok-answer_group-in-Happens-clause-step
returns-in_ok-answer_group-in-Happens-clause-step g c =
    event_step c.take_event.result _ c.answer_group.new.self c.take_event.new.self c.in_ok-answer_group-in-Happens.ensures.answered
    c.requires.step.room c.take_event.ensures.rest c.take_event.ensures.answers c.take_event.ensures.published

pub returns-in_ok-answer_group-in-Happens-clause-taken :
    goal.returns-in_ok-answer_group-in-Happens-clause-taken
returns-in_ok-answer_group-in-Happens-clause-taken g c =
    subst (λ (l : Line). OnOk c.take_event.result (Takes l c.args.self.now c.take_event.new.self)) (sym c.in-Happens.is)
    (took_each c.take_event.result c.in-Happens.event c.args.self.now _ c.answer_group.new.self c.take_event.new.self
    c.in_ok-answer_group-in-Happens.ensures.answered refl refl refl c.take_event.ensures.rest c.take_event.ensures.taken)

pub returns-in_ok-answer_group-in-Happens-clause-refused :
    goal.returns-in_ok-answer_group-in-Happens-clause-refused
returns-in_ok-answer_group-in-Happens-clause-refused g c =
    λ number why is told.
    subst (λ (l : Line). RefusesAt g.W.Write.contents l c.args.self.now c.args.out.now c.answer_group.new.out number why)
    (sym c.in-Happens.is)
    (refused_event g.W.Write.contents c.in-Happens.event c.args.self.now _ c.answer_group.new.self c.args.out.now
    c.answer_group.new.out number why c.in_ok-answer_group-in-Happens.ensures.answered
    c.in_ok-answer_group-in-Happens.ensures.written (c.take_event.ensures.refused number why is told) refl refl refl)

pub returns-in_ok-answer_group-in-Happens-clause-stopped :
    goal.returns-in_ok-answer_group-in-Happens-clause-stopped
returns-in_ok-answer_group-in-Happens-clause-stopped g c =
    stops_answered c.take_event.result g.W.Write.contents c.args.self.now c.args.out.now c.answer_group.new.out
    c.in_ok-answer_group-in-Happens.ensures.written

pub returns-in-Refused-clause-refused : goal.returns-in-Refused-clause-refused
returns-in-Refused-clause-refused g c =
    λ number why is told.
    subst (λ (l : Line). RefusesAt g.W.Write.contents l c.args.self.now c.args.out.now c.refuse.new.out number why)
    (sym c.in-Refused.is)
    (refused_line g.W.Write.contents c.in-Refused.fault c.args.self.now _ c.args.out.now c.refuse.new.out number why
    (c.refuse.ensures.told number why is told) refl refl)

pub returns-in-Skipped-clause-waiting : goal.returns-in-Skipped-clause-waiting
returns-in-Skipped-clause-waiting g c = λ some. same_waits _ c.args.self.now _ refl refl refl refl some

pub returns-in-Asks-clause-waiting : goal.returns-in-Asks-clause-waiting
returns-in-Asks-clause-waiting g c =
    asks_waits c.take_review.result c.args.line c.in-Asks.request c.args.self.now _ c.take_review.new.self c.in-Asks.is
    refl refl refl refl refl c.take_review.ensures.taken c.take_review.ensures.waiting c.take_review.ensures.group

pub returns-in-Asks-clause-pattern : goal.returns-in-Asks-clause-pattern
returns-in-Asks-clause-pattern g c =
    λ number told plain.
    review_unjudged c.args.line c.in-Asks.request c.args.self.now c.args.out.now c.take_review.new.out number c.in-Asks.is
    (c.take_review.ensures.pattern number told) (c.take_review.ensures.asked number told)

pub returns-in_ok-answer_group-in-Happens-clause-waiting :
    goal.returns-in_ok-answer_group-in-Happens-clause-waiting
returns-in_ok-answer_group-in-Happens-clause-waiting g c =
    none_waits c.take_event.result _ c.args.self.now c.answer_group.new.self c.take_event.new.self
    c.in_ok-answer_group-in-Happens.ensures.answered.none c.take_event.ensures.rest.1

pub returns-in_ok-answer_group-in-Happens-clause-unverified :
    goal.returns-in_ok-answer_group-in-Happens-clause-unverified
returns-in_ok-answer_group-in-Happens-clause-unverified g c =
    λ number told plain.
    event_unpublished g.W.Write.contents c.args.line c.in-Happens.event c.args.self.now _ c.answer_group.new.self c.args.out.now
    c.answer_group.new.out number c.in-Happens.is c.in_ok-answer_group-in-Happens.ensures.answered refl refl refl
    (c.take_event.ensures.unverified number told) c.in_ok-answer_group-in-Happens.ensures.written

pub returns-in-Refused-clause-pattern : goal.returns-in-Refused-clause-pattern
returns-in-Refused-clause-pattern g c =
    λ number told plain.
    let both = c.refuse.ensures.pattern number Pattern refl (plain_fault c.args.line c.in-Refused.fault plain c.in-Refused.is) told in
    group_unjudged _ c.args.self.now _ _ _ c.args.out.now c.refuse.new.out number both.0 refl refl refl both.1

pub returns-in-Refused-clause-unverified : goal.returns-in-Refused-clause-unverified
returns-in-Refused-clause-unverified g c =
    λ number told plain.
    let both =
    c.refuse.ensures.pattern number Unverified refl (plain_fault c.args.line c.in-Refused.fault plain c.in-Refused.is) told in
    absurd both.0.fault

pub returns-in_err-answer_group-in-Happens-clause-pattern :
    goal.returns-in_err-answer_group-in-Happens-clause-pattern
returns-in_err-answer_group-in-Happens-clause-pattern g c =
    let from = c.from_residual in
    let p = err_from_is_err_and from.result from.ensures.1 in
    λ number told plain.
    let same : IsErrOf c.answer_group.result (AtLine number Pattern) = cc (c.in_err-answer_group-in-Happens.was) in
    let unwritten = told_unwritten c.answer_group.result c.args.out.now c.answer_group.new.out number Pattern same
    c.answer_group.ensures.stopped in
    group_unjudged _ c.args.self.now _ _ _ c.args.out.now c.answer_group.new.out number
    (c.answer_group.ensures.pattern number Pattern same) refl refl refl unwritten

pub returns-in_err-answer_group-in-Happens-clause-unverified :
    goal.returns-in_err-answer_group-in-Happens-clause-unverified
returns-in_err-answer_group-in-Happens-clause-unverified g c =
    let from = c.from_residual in
    let p = err_from_is_err_and from.result from.ensures.1 in
    λ number told plain.
    let same : IsErrOf c.answer_group.result (AtLine number Unverified) = cc (c.in_err-answer_group-in-Happens.was) in
    absurd (c.answer_group.ensures.pattern number Unverified same).fault

-- no fault of a group is one of the lines
pub returns-in_err-answer_group-in-Happens-clause-refused :
    goal.returns-in_err-answer_group-in-Happens-clause-refused
returns-in_err-answer_group-in-Happens-clause-refused g c =
    let from = c.from_residual in
    let p = err_from_is_err_and from.result from.ensures.1 in
    λ number why is told.
    let same : IsErrOf c.answer_group.result (AtLine number why) = cc (c.in_err-answer_group-in-Happens.was) in
    let other = c.answer_group.ensures.lines number why same in
    cc
