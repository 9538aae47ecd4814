use Rattle.std.proofs.Common.{◌≡◌, ◌≢◌}
use Rattle.base_containers.specs.Counted.{failures_of, inner_of}
use Rattle.base_containers.specs.Lines.{AllGive}
use Rattle.base_containers.specs.declared.lines.Ending.TheVariants.{End}
use Rattle.vap_cli_report.proofs.input.of_stream.Given as goal

-- no read has failed so far, and if the last line was not at the end, each gave a byte
abbrev pub invariant-loop-number : goal.invariant-loop-number
invariant-loop-number g l = record {
  counted : failures_of l.input ≡ failures_of l.fn.input;
  given :
      l.ending ≢ End
      → (l.fn.front.ending ≢ End)
      × AllGive 0 (g.R.Read.remaining (inner_of l.fn.input)) (g.R.Read.remaining (inner_of l.input)) l.fn.reader l.reader;
}
