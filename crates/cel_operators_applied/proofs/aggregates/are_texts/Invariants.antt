use Rattle.std.proofs.Common.{◌≡◌, drop}
use Rattle.cel_operators.specs.Joined.{texts_of}
use Rattle.cel_operators.specs.Wants.{is_there}
use Rattle.cel_operators_applied.proofs.aggregates.are_texts.Given as goal

abbrev pub invariant-loop-item : goal.invariant-loop-item
invariant-loop-item l = is_there (texts_of (drop l.item-index l.items)) ≡ is_there (texts_of l.items)
