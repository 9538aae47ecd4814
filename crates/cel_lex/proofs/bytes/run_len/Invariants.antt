use Rattle.std.proofs.Common.{◌≡◌, ◌+◌, drop}
use Rattle.std.specs.List.{prefix_len}
use Rattle.cel_lex.specs.Bytes.{test_of}
use Rattle.cel_lex.proofs.bytes.run_len.Given as goal

abbrev pub invariant-loop-i : goal.invariant-loop-i
invariant-loop-i l = l.i + prefix_len (test_of l.class) (drop l.i l.bytes) ≡ prefix_len (test_of l.class) l.bytes
