use Rattle.std.proofs.Common.{drop}
use Rattle.cel_value.specs.Turns.{by_turns}
use Rattle.cel_expression.proofs.Leaving.{GoesOn}
use Rattle.cel_expression.proofs.compiler.Draft.+emit.Given as goal

-- the expressions that are left end what is written for all
abbrev pub invariant-emit_each-loop-tree : goal.invariant-emit_each-loop-tree
invariant-emit_each-loop-tree l = GoesOn l.initial.self l.self l.trees (drop l.tree-index l.trees)

-- the keys and values that are left end what is written for all
abbrev pub invariant-emit_entries-loop-entry : goal.invariant-emit_entries-loop-entry
invariant-emit_entries-loop-entry l = GoesOn l.initial.self l.self (by_turns l.entries) (by_turns (drop l.entry-index l.entries))
