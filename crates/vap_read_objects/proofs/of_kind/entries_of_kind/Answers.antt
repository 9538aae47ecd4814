use Rattle.vap_read.proofs.Copied.{put_equal}
use Rattle.vap_read_objects.proofs.of_kind.entries_of_kind.Goals as goal

pub loop-key-preserved : goal.loop-key-preserved
loop-key-preserved c = record {
  can_next = tt;
  is_finite = tt;
  whole =
      put_equal _ _ _ _ _ _ _ _ _ c.in_ok-put_under.ensures.ok c.in_ok-copy.ensures c.in_ok-share.ensures
      c.in-Some.ensures.steps c.loop-key.invariant.whole c.loop-key.invariant.sorted;
  sorted = c.loop-key.invariant.sorted;
}
