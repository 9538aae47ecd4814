use Rattle.std.proofs.Common.{◌≡◌}
use Rattle.std.specs.Vec.Iter.{into_iter_items}
use Rattle.serde_json.specs.View.{items_view}
use Rattle.base_containers.specs.Failures.{made}
use Rattle.vap_read.specs.Reading.{put_all, read_items, read_all}
use Rattle.vap_read.proofs.watch_events.objects_of.Given as goal

-- the objects so far with those of the items that are left are all
abbrev pub invariant-loop-item : goal.invariant-loop-item
invariant-loop-item l =
    made (put_all l.objects) (read_items (items_view (into_iter_items l.item-iterator))) ≡ read_all (items_view l.fn.items.items)
