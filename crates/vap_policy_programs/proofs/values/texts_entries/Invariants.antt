use Rattle.std.proofs.Common.{◌≡◌, map, take}
use Rattle.vap_policy_programs.specs.RequestValue.{texts_entry}
use Rattle.vap_policy_programs.proofs.values.texts_entries.Given as goal

abbrev pub invariant-loop-entry : goal.invariant-loop-entry
invariant-loop-entry l = l.entries.items ≡ map texts_entry (take l.entry-index l.extra)
