use Rattle.std.proofs.Common.{◌≡◌, map, drop}
use Rattle.cel_parse.specs.Macros.{lesser, mark, least, least_entry, marks}
use Rattle.cel_parse.proofs.macros.+wrong.Given as goal

-- what was found, and what is in the trees that are left
abbrev pub invariant-first_wrong_in-loop-tree : goal.invariant-first_wrong_in-loop-tree
invariant-first_wrong_in-loop-tree l =
    lesser l.found (least (map (mark l.source) (drop l.tree-index l.trees))) ≡ least (map (mark l.source) l.trees)

abbrev pub invariant-first_wrong_entry-loop-entry : goal.invariant-first_wrong_entry-loop-entry
invariant-first_wrong_entry-loop-entry l =
    lesser l.found (least_entry (marks l.source (drop l.entry-index l.entries))) ≡ least_entry (marks l.source l.entries)
