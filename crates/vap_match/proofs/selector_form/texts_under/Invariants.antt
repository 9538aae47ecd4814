use Rattle.std.proofs.Common.{◌≡◌, ◌++◌}
use Rattle.serde_json.specs.View.{members_view}
use Rattle.vap_match.specs.SelectorForm.{texts_under}
use Rattle.vap_match.proofs.selector_form.texts_under.Given as goal

abbrev pub invariant-loop-name : goal.invariant-loop-name
invariant-loop-name l = record {
  can_next : goal.iterator-loop-name.can_next l.name-iterator;
  is_finite : goal.iterator-loop-name.is_finite l.name-iterator;
  exact : l.texts.items ++ texts_under (members_view l.name-iterator) ≡ texts_under (members_view l.members.entries);
}
