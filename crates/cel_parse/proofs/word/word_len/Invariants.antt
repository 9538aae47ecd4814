use Rattle.std.proofs.Common.{◌≡◌, ◌+◌, drop}
use Rattle.std.specs.List.{prefix_len}
use Rattle.cel_lex.specs.Bytes.{is_name}
use Rattle.cel_parse.proofs.word.word_len.Given as goal

abbrev pub invariant-loop-i : goal.invariant-loop-i
invariant-loop-i l = l.i + prefix_len is_name (drop l.i l.bytes) ≡ prefix_len is_name l.bytes
