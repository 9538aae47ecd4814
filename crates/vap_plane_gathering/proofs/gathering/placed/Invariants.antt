use Rattle.vap_plane_gathering.specs.Numbered.{AreCame, IsLeastStranger}
use Rattle.vap_plane_gathering.proofs.gathering.placed.Given as goal

abbrev pub invariant-loop-number : goal.invariant-loop-number
invariant-loop-number l = AreCame l.count l.yielded l.slots.items × IsLeastStranger l.count l.yielded l.stranger
