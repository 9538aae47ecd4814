use Rattle.std.proofs.Common.{◌≡◌, drop}
use Rattle.std.specs.List.{list_any}
use Rattle.vap_match.specs.Cover.{is_word_or_any}
use Rattle.vap_match.proofs.coverage.names_word.Given as goal

abbrev pub invariant-loop-word : goal.invariant-loop-word
invariant-loop-word l =
    list_any (is_word_or_any l.wanted) (drop l.word-index l.words)
    ≡ list_any (is_word_or_any l.wanted) l.words
