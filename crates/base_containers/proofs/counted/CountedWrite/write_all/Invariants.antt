use Rattle.std.proofs.Common.{◌≡◌, ℕ, List, ◌++◌, length}
use Rattle.std.specs.Io.KnownBytes.{Appends}
use Rattle.base_containers.specs.Counted.{inner_of, failures_of}
use Rattle.base_containers.proofs.counted.CountedWrite.write_all.Given as goal

-- what is gone from the rest was appended, and nothing has failed
abbrev pub invariant-loop-rest : goal.invariant-loop-rest
invariant-loop-rest g l = record {
  written : (done : List ℕ) × (l.initial.rest ≡ done ++ l.rest)
      × Appends (g.W.Write.contents (inner_of l.initial.self)) (g.W.Write.contents (inner_of l.self)) done;
  counts : failures_of l.self ≡ failures_of l.initial.self;
}

abbrev pub decreases-loop-rest : goal.decreases-loop-rest
decreases-loop-rest g l = length l.rest
