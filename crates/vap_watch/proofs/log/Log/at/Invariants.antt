use Rattle.std.proofs.Common.{◌≡◌, ◌<◌, drop, length}
use Rattle.std.specs.Prelude.{slice_get}
use Rattle.vap_read_objects.specs.Blocks.{joined}
use Rattle.vap_watch.proofs.log.Log.at.Given as goal

-- the place is after the blocks so far
abbrev pub invariant-loop-block : goal.invariant-loop-block
invariant-loop-block l =
    (slice_get (joined (drop l.block-index l.block-items)) l.left ≡ slice_get (joined l.block-items) l.place)
    × (l.left < length (joined (drop l.block-index l.block-items)))
