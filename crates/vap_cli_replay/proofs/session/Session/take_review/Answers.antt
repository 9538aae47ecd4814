use Rattle.std.proofs.Common.{◌≡◌, List, Some, Err, true, refl, sym, subst, ap, ◌∙◌}
use Rattle.std.specs.Prelude.{IsErrOf}
use Rattle.std.proofs.lemmas.Result.{err_from_is_err_and}
use Rattle.vap_match.specs.declared.request.Request.{Request}
use Rattle.vap_watch.specs.Places.{Written}
use Rattle.vap_cli_replay.specs.Groups.{OneMayMatch}
use Rattle.vap_cli_lines.specs.declared.fault.LineFault.TheVariants.{Pattern, Unverified}
use Rattle.vap_cli_replay.specs.declared.fault.ReplayError.TheVariants.{Line}
use Rattle.vap_cli_replay.proofs.Arms.{answered_last, answered_step, entries_length}
use Rattle.vap_cli_replay.proofs.Told.{stops_unless_written, told_unwritten}
use Rattle.base_containers.specs.declared.failed.Failed.TheVariants.{Fault}
use Rattle.cel_machine.specs.declared.fault.RunFault.TheVariants.{Pattern as PatternOf}
use Rattle.vap_cli_lines.specs.Judged.{IsJudged}
use Rattle.vap_cli_lines.specs.declared.fault.LineFault.{LineFault}
use Rattle.vap_cli_replay.specs.Streams.{is_of_the_lines}
use Rattle.vap_cli_replay.proofs.Unjudged.{group_first, last_looks, one_more_waits}
use Rattle.vap_cli_replay.proofs.session.Session.take_review.Goals as goal

pub returns-then-waiting-eq-MOST_ENTRIES-clause-full :
    goal.returns-then-waiting-eq-MOST_ENTRIES-clause-full
returns-then-waiting-eq-MOST_ENTRIES-clause-full g c =
    λ number why is told. entries_length c.args.self.now ∙ (sym c.waiting.ensures ∙ c.if-waiting-eq-MOST_ENTRIES.true)

pub returns-in_ok-answer_group-clause-step : goal.returns-in_ok-answer_group-clause-step
returns-in_ok-answer_group-clause-step g c =
    let done = c.in_ok-answer_group.ensures.answered in
    answered_step c.wait.new.self c.answer_group.new.self c.in_ok-wait.ensures.room done
    (ap (λ (p : Written). p.staged) (done.log ∙ c.in_ok-wait.ensures.taken.log) ∙ c.requires.step.published)

pub returns-in_ok-answer_group-clause-taken : goal.returns-in_ok-answer_group-clause-taken
returns-in_ok-answer_group-clause-taken g c =
    answered_last c.args.request c.args.self.now c.wait.new.self c.answer_group.new.self c.in_ok-wait.ensures.taken
    c.in_ok-answer_group.ensures.answered

pub returns-then-waiting-eq-MOST_ENTRIES-clause-pattern :
    goal.returns-then-waiting-eq-MOST_ENTRIES-clause-pattern
returns-then-waiting-eq-MOST_ENTRIES-clause-pattern g c =
    λ number told.
    let both = c.refuse.ensures.pattern number Pattern refl refl told in
    (both.1, group_first c.args.self.now c.args.self.now.lines number Pattern both.0)

pub returns-then-waiting-eq-MOST_ENTRIES-clause-no_image :
    goal.returns-then-waiting-eq-MOST_ENTRIES-clause-no_image
returns-then-waiting-eq-MOST_ENTRIES-clause-no_image g c =
    λ number told.
    let both = c.refuse.ensures.pattern number Unverified refl refl told in
    absurd both.0.fault

pub returns-then-waiting-eq-MOST_ENTRIES-clause-asked :
    goal.returns-then-waiting-eq-MOST_ENTRIES-clause-asked
returns-then-waiting-eq-MOST_ENTRIES-clause-asked g c =
    λ number told.
    let both = c.refuse.ensures.pattern number Pattern refl refl told in
    one_more_waits c.args.self.now c.args.request (both.0.one refl)

pub returns-in_err-answer_group-clause-stopped :
    goal.returns-in_err-answer_group-clause-stopped
returns-in_err-answer_group-clause-stopped g c =
    let from = c.from_residual-in_err-answer_group in
    let p = err_from_is_err_and from.result from.ensures.1 in
    let failed : IsErrOf c.answer_group.result p.0 = cc (c.in_err-answer_group.was) in
    let same : IsErrOf from.result p.0 = cc in
    stops_unless_written c.answer_group.result from.result p.0 g.W.Write.contents c.args.self.now c.args.out.now c.answer_group.new.out
    failed same c.answer_group.ensures.stopped

-- no fault of a group is one of the lines
pub returns-in_err-answer_group-clause-told : goal.returns-in_err-answer_group-clause-told
returns-in_err-answer_group-clause-told g c =
    let from = c.from_residual-in_err-answer_group in
    let p = err_from_is_err_and from.result from.ensures.1 in
    λ number why is told.
    let same : IsErrOf c.answer_group.result (Line number why) = cc (c.in_err-answer_group.was) in
    let other = c.answer_group.ensures.lines number why same in
    cc

-- the group has the review, and is judged at the same log as before
pub returns-in_err-answer_group-clause-asked : goal.returns-in_err-answer_group-clause-asked
returns-in_err-answer_group-clause-asked g c =
    let from = c.from_residual-in_err-answer_group in
    let p = err_from_is_err_and from.result from.ensures.1 in
    λ number told.
    let same : IsErrOf c.answer_group.result (Line number Pattern) = cc (c.in_err-answer_group.was) in
    let looked = (c.answer_group.ensures.pattern number Pattern same).one refl in
    subst (λ (rs : List Request). OneMayMatch c.args.self.now.writer.published rs) c.in_ok-wait.ensures.group
    (subst (λ (p : Written). OneMayMatch p.published c.wait.new.self.group.items) c.in_ok-wait.ensures.taken.log looked)

pub returns-in_err-answer_group-clause-no_image :
    goal.returns-in_err-answer_group-clause-no_image
returns-in_err-answer_group-clause-no_image g c =
    let from = c.from_residual-in_err-answer_group in
    let p = err_from_is_err_and from.result from.ensures.1 in
    λ number told.
    let same : IsErrOf c.answer_group.result (Line number Unverified) = cc (c.in_err-answer_group.was) in
    absurd (c.answer_group.ensures.pattern number Unverified same).fault

-- the group, with which the review waits, is reported at its first line
pub returns-in_err-answer_group-clause-pattern : goal.returns-in_err-answer_group-clause-pattern
returns-in_err-answer_group-clause-pattern g c =
    let from = c.from_residual-in_err-answer_group in
    let p = err_from_is_err_and from.result from.ensures.1 in
    λ number told.
    let same : IsErrOf c.answer_group.result (Line number Pattern) = cc (c.in_err-answer_group.was) in (
      told_unwritten c.answer_group.result c.args.out.now c.answer_group.new.out number Pattern same c.answer_group.ensures.stopped,
      (c.answer_group.ensures.pattern number Pattern same).numbered ∙ c.in_ok-wait.ensures.first,
    )

-- a review that was given up where it was read is reported at the first line of the group
pub returns-in_err-answer-clause-told : goal.returns-in_err-answer-clause-told
returns-in_err-answer-clause-told g c =
    let from = c.from_residual in
    let p = err_from_is_err_and from.result from.ensures.1 in
    λ number why is told.
    let same : IsErrOf c.given.result (Line number why) = cc (c.in_err-answer.was) in
    let pattern : is_of_the_lines Pattern ≡ true =
    subst (λ (f : LineFault). is_of_the_lines f ≡ true) (c.given.ensures.told number why same).1 is in
    cc

pub returns-in_err-answer-clause-full : goal.returns-in_err-answer-clause-full
returns-in_err-answer-clause-full g c =
    let from = c.from_residual in
    let p = err_from_is_err_and from.result from.ensures.1 in
    λ number why is told.
    let same : IsErrOf c.given.result (Line number why) = cc (c.in_err-answer.was) in
    let pattern : is_of_the_lines Pattern ≡ true =
    subst (λ (f : LineFault). is_of_the_lines f ≡ true) (c.given.ensures.told number why same).1 is in
    cc

pub returns-in_err-answer-clause-pattern : goal.returns-in_err-answer-clause-pattern
returns-in_err-answer-clause-pattern g c =
    let from = c.from_residual in
    let p = err_from_is_err_and from.result from.ensures.1 in
    λ number told.
    let same : IsErrOf c.given.result (Line number Pattern) = cc (c.in_err-answer.was) in
    (refl, (c.given.ensures.told number Pattern same).0)

pub returns-in_err-answer-clause-asked : goal.returns-in_err-answer-clause-asked
returns-in_err-answer-clause-asked g c =
    let from = c.from_residual in
    let p = err_from_is_err_and from.result from.ensures.1 in
    λ number told.
    let same : IsErrOf c.given.result (Line number Pattern) = cc (c.in_err-answer.was) in
    let log = c.args.self.now.writer.published in
    let judged : IsJudged log c.args.request (Some (Err (Fault PatternOf))) =
    subst (λ said. IsJudged log c.args.request said) (c.given.ensures.pattern number Pattern same) c.requires.judged in
    last_looks c.args.self.now c.args.request (judged.1 refl)

pub returns-in_err-answer-clause-no_image : goal.returns-in_err-answer-clause-no_image
returns-in_err-answer-clause-no_image g c =
    let from = c.from_residual in
    let p = err_from_is_err_and from.result from.ensures.1 in
    λ number told.
    let same : IsErrOf c.given.result (Line number Unverified) = cc (c.in_err-answer.was) in
    let other = (c.given.ensures.told number Unverified same).1 in
    cc
