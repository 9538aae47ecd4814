use Rattle.std.proofs.Common.{◌≡◌, false, None, take, drop}
use Rattle.cel_code.specs.Spelling.{each_after, is_field, is_spellable}
use Rattle.cel_code.specs.Reading.{last_of}
use Rattle.cel_code.proofs.spellable.+spellable.Given as goal

abbrev pub invariant-are_spellable-loop-place : goal.invariant-are_spellable-loop-place
invariant-are_spellable-loop-place l =
    each_after (is_field (λ t. is_spellable t l.depth false)) (last_of (take l.place l.fields)) (drop l.place l.fields)
    ≡ each_after (is_field (λ t. is_spellable t l.depth false)) None l.fields
