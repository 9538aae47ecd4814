use Rattle.std.proofs.Common.{◌≡◌, length, Some}
use Rattle.serde_json.specs.Data.{Items}
use Rattle.serde_json.specs.Find.{as_array}
use Rattle.base_containers.specs.Parts.{data_of}
use Rattle.base_containers.proofs.Gathers.{ItemsLeft}
use Rattle.base_containers.proofs.contents.items_in_tape.Given as goal

abbrev pub invariant-loop-item : goal.invariant-loop-item
invariant-loop-item l = (all : Items) × ItemsLeft l.items l.found.items all × (Some all ≡ as_array (data_of l.element))

abbrev pub decreases-loop-item : goal.decreases-loop-item
decreases-loop-item l = length l.items
