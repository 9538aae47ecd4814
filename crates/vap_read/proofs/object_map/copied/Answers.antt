use Rattle.vap_read.proofs.Copied.{put_equal}
use Rattle.vap_read.proofs.object_map.copied.Goals as goal

pub loop-key-preserved-in_ok-insert : goal.loop-key-preserved-in_ok-insert
loop-key-preserved-in_ok-insert c = record {
  can_next = tt;
  is_finite = tt;
  whole =
      put_equal _ _ _ _ _ _ _ _ _ c.in_ok-insert.ensures.entries c.in_ok-copy.ensures c.in_ok-share.ensures
      c.in-Some.ensures.steps c.loop-key.invariant.whole c.loop-key.invariant.sorted;
  sorted = c.loop-key.invariant.sorted;
}

pub loop-key-preserved : goal.loop-key-preserved
loop-key-preserved c = record {
  can_next = tt;
  is_finite = tt;
  whole =
      put_equal _ _ _ _ _ _ _ _ _ c.in_ok-insert.ensures.entries c.in_ok-copy.ensures c.in_ok-share.ensures
      c.in-Some.ensures.steps c.loop-key.invariant.whole c.loop-key.invariant.sorted;
  sorted = c.loop-key.invariant.sorted;
}
