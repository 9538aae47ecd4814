use Rattle.std.proofs.Common.{◌≡◌, Err, List, ◌++◌, sym, ap, ◌∙◌, subst}
use Rattle.base_containers.specs.declared.failed.Failed.TheVariants.{Fault}
use Rattle.vap_read.specs.declared.event.Event.{Event}
use Rattle.vap_policy_set.specs.Reuse.{IsBefore}
use Rattle.vap_watch.specs.Given.{PolicySet, AreUnverified}
use Rattle.vap_watch.specs.Logs.{objects_after, objects_of, publication}
use Rattle.vap_watch.specs.Places.{IsNext, Position, objects_at}
use Rattle.vap_watch.specs.declared.fault.PublishFault.TheVariants.{Unverified}
use Rattle.vap_watch.specs.declared.log.Logged.{Logged}
use Rattle.vap_watch.proofs.Publication.{set_before, unbuilt_told}
use Rattle.vap_watch.proofs.desk.Desk.next.Goals as goal

-- the published set is that before what is staged
pub advance-requires : goal.advance-requires
advance-requires c =
    let log = c.self.inside.published in
    let events = c.as_slice.result.now in
    record {
      before = subst (λ (set : PolicySet). IsBefore set events c.self.inside.objects) (sym c.set-before.ensures)
          (set_before log events c.self.inside.objects
          (c.self.invariant.0 ∙ ap (objects_after (objects_of log)) (sym c.as_slice.ensures.value)));
    }

pub returns-clause-next : goal.returns-clause-next
returns-clause-next c =
    let log = c.self.inside.published in
    let choice = c.choice.result.now in
    subst (λ (old : Position). IsNext old c.in_ok-new.field-0) c.self.view_is
    (
    record {
      choice = choice;
      grown = c.in_ok-new.ensures ∙ c.in_ok-log.ensures
          ∙ ap (λ (l : List Logged). l ++ publication choice c.as_slice-2.result.now) c.log.ensures
          ∙ ap (λ (es : List Event). log ++ publication choice es) c.as_slice-2.ensures.value;
    }
    )

-- what is not built is not published
pub returns-in-Err-clause-unverified : goal.returns-in-Err-clause-unverified
returns-in-Err-clause-unverified c =
    λ is.
    let told : c.widened.result ≡ Fault Unverified = cc in
    let same = c.self.invariant.0 ∙ ap (λ (p : Position). objects_at p) c.self.view_is in
    subst AreUnverified same
    (unbuilt_told c.self.inside.objects c.in-Err.error c.widened.result c.widened.ensures
    (λ name failed. c.in-Err.ensures.unverified name (ap Err failed)) told)
