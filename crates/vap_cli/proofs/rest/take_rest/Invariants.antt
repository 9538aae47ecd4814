use Rattle.std.proofs.Common.{◌≡◌}
use Rattle.base_containers.specs.Counted.{failures_of, inner_of}
use Rattle.base_containers.specs.Lines.{AllGive}
use Rattle.vap_cli.proofs.rest.take_rest.Given as goal

-- no read has failed so far, and each gave a byte
abbrev pub invariant-loop : goal.invariant-loop
invariant-loop g l = record {
  counted : failures_of l.input ≡ failures_of l.fn.input;
  given : AllGive 0 (g.R.Read.remaining (inner_of l.fn.input)) (g.R.Read.remaining (inner_of l.input)) l.fn.reader l.reader;
}
