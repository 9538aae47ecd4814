use Rattle.std.proofs.Common.{◌≡◌, ◌++◌, take}
use Rattle.cel_value.specs.JsonText.{items_tokens, members_tokens}
use Rattle.cel_value.proofs.json_values.+put.Given as goal

abbrev pub invariant-put_items-loop-item : goal.invariant-put_items-loop-item
invariant-put_items-loop-item l = record {
  tokens : l.out.tokens ≡ l.initial.out.tokens ++ items_tokens (take l.item-index l.items);
  before : l.out.before ≡ l.initial.out.before;
}

abbrev pub invariant-put_members-loop-entry : goal.invariant-put_members-loop-entry
invariant-put_members-loop-entry l = record {
  tokens : l.out.tokens ≡ l.initial.out.tokens ++ members_tokens (take l.entry-index l.entries);
  before : l.out.before ≡ l.initial.out.before;
}
