use Rattle.std.proofs.Common.{drop}
use Rattle.std.specs.List.{All}
use Rattle.vap_read_objects.specs.Fitted.{entries_of, is_of_params}
use Rattle.vap_read_objects.specs.Reuse.{StandUnless}
use Rattle.vap_read_objects.specs.Seen.{IsSeenAt}
use Rattle.vap_read_objects.proofs.fitting.Fitting.put_events.Given as goal
use Rattle.vap_read_objects.specs.Tables.{entries_in}

-- what is under each key is what is wanted, unless an event that is left touches it
abbrev pub invariant-loop-event : goal.invariant-loop-event
invariant-loop-event l = record {
  stand : StandUnless (is_of_params l.self.kind.now) (entries_of l.self.kind.now l.self.objects.now) (drop l.event-index l.events)
      (entries_in l.params);
  seen : All (IsSeenAt l.self.cel_type.now) l.params;
}
