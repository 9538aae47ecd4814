use Rattle.std.proofs.Common.{◌≡◌, ◌≢◌, ◌≤◌, All, length}
use Rattle.std.specs.Io.KnownBytes.{Consumes}
use Rattle.base_containers.specs.Counted.{failures_of, inner_of}
use Rattle.base_containers.specs.Lines.{AllGive, longest_line, room, unread}
use Rattle.base_containers.proofs.line_reader.LineReader.next.Given as goal

-- all that was taken is in the line, no read has failed, and each gave a byte
abbrev pub invariant-loop-ending : goal.invariant-loop-ending
invariant-loop-ending g l = record {
  taken : Consumes (unread g.R.Read.remaining l.fn.input l.fn.self) (unread g.R.Read.remaining l.input l.self) l.line.items;
  plain : All (λ x. x ≢ 10) l.line.items;
  short : length l.line.items ≤ longest_line;
  no_more : room l.self ≤ room l.fn.self;
  counts : failures_of l.input ≡ failures_of l.fn.input;
  given : AllGive 0 (g.R.Read.remaining (inner_of l.fn.input)) (g.R.Read.remaining (inner_of l.input)) l.fn.self l.self;
}

abbrev pub decreases-loop-ending : goal.decreases-loop-ending
decreases-loop-ending g l = l.self.reads
