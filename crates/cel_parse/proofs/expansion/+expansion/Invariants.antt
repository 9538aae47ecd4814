use Rattle.std.proofs.Common.{◌≡◌, drop}
use Rattle.cel_parse.specs.Expansion.{each, each_entry, expansions, entry_expansions}
use Rattle.cel_parse.proofs.Expanded.{with_done}
use Rattle.cel_parse.proofs.expansion.+expansion.Given as goal

-- what is there, and what the trees that are left give
abbrev pub invariant-each-loop-tree : goal.invariant-each-loop-tree
invariant-each-loop-tree l =
    with_done l.items (each (expansions l.source (drop l.tree-index l.trees))) ≡ each (expansions l.source l.trees)

abbrev pub invariant-each_entry-loop-entry : goal.invariant-each_entry-loop-entry
invariant-each_entry-loop-entry l =
    with_done l.items (each_entry (entry_expansions l.source (drop l.entry-index l.entries)))
    ≡ each_entry (entry_expansions l.source l.entries)
