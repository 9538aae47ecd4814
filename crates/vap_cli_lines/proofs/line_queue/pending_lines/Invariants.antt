use Rattle.std.proofs.Common.{◌≡◌, ◌≤◌, ◌++◌, length}
use Rattle.vap_cli_lines.specs.LineQueues.{AreWhole, text_of}
use Rattle.vap_cli_lines.proofs.line_queue.pending_lines.Given as goal

-- what was pending is the text of the lines and what is pending still
abbrev pub invariant-loop-lines : goal.invariant-loop-lines
invariant-loop-lines l = record {
  whole : AreWhole l.fn.snapshot l.lines.items;
  text : l.fn.reader.bytes ≡ text_of l.lines.items ++ l.reader.bytes;
  reads : l.reader.reads ≡ l.fn.reader.reads;
  no_more : length l.reader.bytes ≤ length l.fn.reader.bytes;
}

abbrev pub decreases-loop-lines : goal.decreases-loop-lines
decreases-loop-lines l = length l.reader.bytes
