use Rattle.std.proofs.Common.{◌≡◌, rules}
use Rattle.std.proofs.lemmas.List.Elements.{All-push}
use Rattle.vap_read_objects.specs.Seen.{IsSeenAt}
use Rattle.vap_read_objects.proofs.Placed.{entry_behind, in_order_by}
use Rattle.vap_read_objects.proofs.fitting.params_at.Goals as goal
use Rattle.vap_read_objects.specs.Tables.{entries_in}

pub loop-key-preserved : goal.loop-key-preserved
loop-key-preserved c =
    let l = c.loop-key in
    let p = c.in_ok-param_of.field-0 in
    record {
      can_next = tt;
      is_finite = tt;
      whole = rw c.in_ok-push.ensures.items (
          entry_behind l.params.items p _ _ _ _ _ c.in_ok-param_of.ensures.key c.in_ok-param_of.ensures.object c.in-Some.ensures.steps
          l.invariant.whole
          );
      seen = rw c.in_ok-push.ensures.items (
          All-push (IsSeenAt c.args.cel_type.now) l.params.items p l.invariant.seen c.in_ok-param_of.ensures.seen
          );
      sorted = l.invariant.sorted;
    }

pub returns-clause-ordered : goal.returns-clause-ordered
returns-clause-ordered c =
    let whole : entries_in c.loop-key.params.items ≡ c.args.objects.now = search rules in
    in_order_by c.loop-key.params.items c.args.objects.now whole c.loop-key.invariant.sorted
