use Rattle.std.proofs.Common.{◌≡◌, ◌+◌, ◌-◌, length}
use Rattle.std.specs.Io.KnownBytes.{Consumes}
use Rattle.base_containers.specs.Counted.{inner_of, failures_of}
use Rattle.vap_cli.specs.Documents.{longest}
use Rattle.vap_cli.proofs.document.bytes_of.Given as goal

-- what was read so far was taken from the file, no read has failed, and the chunk has room
abbrev pub invariant-loop-file : goal.invariant-loop-file
invariant-loop-file g l = record {
  taken : Consumes (g.R.Read.remaining (inner_of l.initial.file)) (g.R.Read.remaining (inner_of l.file)) l.bytes.items;
  counts : failures_of l.file ≡ failures_of l.initial.file;
  room : length l.chunk.items ≡ 65536;
}

-- each turn reads at least one byte
abbrev pub decreases-loop-file : goal.decreases-loop-file
decreases-loop-file g l = (longest + 1) - length l.bytes.items
