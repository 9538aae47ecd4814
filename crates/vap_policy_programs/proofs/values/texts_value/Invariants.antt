use Rattle.std.proofs.Common.{◌≡◌, map, take}
use Rattle.cel_value.specs.declared.value.Value as value
use Rattle.vap_policy_programs.proofs.values.texts_value.Given as goal

abbrev pub invariant-loop-text : goal.invariant-loop-text
invariant-loop-text l = l.items.items ≡ map value.Text (take l.text-index l.texts)
