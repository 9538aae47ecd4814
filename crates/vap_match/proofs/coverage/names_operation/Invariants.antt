use Rattle.std.proofs.Common.{◌≡◌, drop}
use Rattle.std.specs.List.{list_any}
use Rattle.vap_match.specs.Cover.{operation_name, is_word_or_any}
use Rattle.vap_match.proofs.coverage.names_operation.Given as goal

abbrev pub invariant-loop-operation : goal.invariant-loop-operation
invariant-loop-operation l = list_any (λ o. is_word_or_any l.word (operation_name o)) (drop l.operation-index l.operations)
    ≡ list_any (λ o. is_word_or_any l.word (operation_name o)) l.operations
