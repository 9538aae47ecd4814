use Rattle.std.proofs.Common.{◌≡◌, ◌∷◌, ap, sym, ◌∙◌}
use Rattle.std.specs.Vec.Iter.{into_iter_items}
use Rattle.vap_watch.specs.Places.{Written}
use Rattle.vap_audit.specs.Verdicts.{verdict_at}
use Rattle.vap_cli_replay.proofs.Groups.{decided_next, history_next, some_left, verdicts_next}
use Rattle.vap_cli_replay.proofs.session.Session.record_all.Goals as goal

pub next_of-verdict-requires : goal.next_of-verdict-requires
next_of-verdict-requires c =
    some_left c.args.self.now.writer.published (into_iter_items c.loop-request.request-iterator) (into_iter_items c.next.new.self)
    c.in-Some.request (into_iter_items c.loop-request.answers) c.in-Some.ensures.steps.0 c.loop-request.invariant.verdicts

pub record-requires-clause-right : goal.record-requires-clause-right
record-requires-clause-right c =
    let inv = c.loop-request.invariant in
    (verdicts_next c.args.self.now.writer.published (into_iter_items c.loop-request.request-iterator)
    (into_iter_items c.next.new.self) c.in-Some.request (into_iter_items c.loop-request.answers)
    (into_iter_items c.next_of-verdict.new.verdicts) c.next_of-verdict.result c.in-Some.ensures.steps.0 inv.verdicts
    c.next_of-verdict.ensures).0
    ∙ ap (λ (p : Written). verdict_at p.published c.in-Some.request) (sym inv.log)

pub loop-request-preserved : goal.loop-request-preserved
loop-request-preserved c =
    let inv = c.loop-request.invariant in
    let request = c.in-Some.request in
    let left = into_iter_items c.loop-request.request-iterator in
    let rest = into_iter_items c.next.new.self in
    let is : left ≡ request ∷ rest = c.in-Some.ensures.steps.0 in
    let done = c.in_ok-_number.ensures.decided in
    let old = c.loop-request.self in
    let new = c.record.new.self in
    record {
      log = done.log ∙ inv.log;
      lines = done.lines ∙ inv.lines;
      group = c.record.ensures.group ∙ inv.group;
      kept = done.answers ∙ inv.kept;
      entries = decided_next old.writer new.writer old.history new.history request left rest _ done.log done.history is inv.entries;
      room = history_next old.history new.history left rest request _ _ is done.history inv.room;
      verdicts =
          (verdicts_next c.args.self.now.writer.published left rest request (into_iter_items c.loop-request.answers)
          (into_iter_items c.next_of-verdict.new.verdicts) c.next_of-verdict.result is inv.verdicts c.next_of-verdict.ensures).1;
    }
