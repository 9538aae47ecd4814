use Rattle.std.proofs.Common.{take}
use Rattle.vap_read_objects.specs.Blocks.{joined}
use Rattle.vap_read_objects.specs.Tables.{StandBelow}
use Rattle.vap_read_objects.proofs.blocks.block_for.Given as goal

-- the blocks so far are below the key
abbrev pub invariant-loop-at : goal.invariant-loop-at
invariant-loop-at g l = StandBelow l.key (joined (take l.at l.blocks))
