use Rattle.std.proofs.Common.{arith}
use Rattle.vap_read_objects.specs.Fitted.{entries_of, is_of_params}
use Rattle.vap_read_objects.proofs.Placed.{all_stand, few_of_kind, settle_next}
use Rattle.vap_read_objects.proofs.fitting.Fitting.put_events.Goals as goal
use Rattle.vap_read_objects.specs.Tables.{entries_in}

-- one event more
pub loop-event-preserved : goal.loop-event-preserved
loop-event-preserved c =
    let l = c.loop-event in
    let kind = c.args.self.now.kind.now in
    let objects = c.args.self.now.objects.now in
    record {
      stand = settle_next (is_of_params kind) (entries_of kind objects) (entries_in l.params)
          (entries_in c.put_event.new.params) c.args.events.now l.event-index c.event-item.result c.loop-event-test.true
          c.event-item.is c.in_ok-put_event.ensures.settles l.invariant.stand;
      seen = c.in_ok-put_event.ensures.seen;
    }

pub returns-clause-entries : goal.returns-clause-entries
returns-clause-entries c =
    let l = c.loop-event in
    all_stand c.args.self.now.kind.now c.args.self.now.objects.now l.params c.args.events.now l.event-index
    (omega (arith, c.loop-event-test.false)) c.blocks-blocks.ensures.ordered c.len-count.ensures.ordered l.invariant.stand

pub returns-clause-few : goal.returns-clause-few
returns-clause-few c =
    let l = c.loop-event in
    few_of_kind c.args.self.now.kind.now c.args.self.now.objects.now l.params c.len-count.ensures.within
    (
    all_stand c.args.self.now.kind.now c.args.self.now.objects.now l.params c.args.events.now l.event-index
    (omega (arith, c.loop-event-test.false)) c.blocks-blocks.ensures.ordered c.len-count.ensures.ordered l.invariant.stand
    )
