use Rattle.std.proofs.Common.{◌+◌, List, ℕ, subst}
use Rattle.std.specs.Str.{IsCharBoundary}
use Rattle.cel_parse.proofs.WordCut.{word_cut}
use Rattle.cel_parse.proofs.word.word_at.Goals as goal

pub range-requires-clause-end_boundary : goal.range-requires-clause-end_boundary
range-requires-clause-end_boundary c =
    subst (λ (x : List ℕ). IsCharBoundary x (c.args.place + c.word_len-length.result)) c.as_bytes-bytes.ensures.value
    (word_cut c.as_bytes-bytes.result.now c.args.place c.word_len-length.result c.as_bytes-bytes.ensures.utf8 c.if-place-bytes.false
    c.if-length-eq0.false c.word_len-length.ensures.value)
