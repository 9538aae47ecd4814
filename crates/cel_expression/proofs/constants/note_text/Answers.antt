use Rattle.std.proofs.Common.{rules, string_bytes}
use Rattle.std.specs.BTreeMap.{get_by_text}
use Rattle.std.proofs.lemmas.Map.Text.{btree_map_updates_text}
use Rattle.cel_expression.proofs.ConstantTexts.{text_noted}
use Rattle.cel_expression.proofs.constants.note_text.Goals as goal

pub returns-in_ok-insert-clause-ok : goal.returns-in_ok-insert-clause-ok
returns-in_ok-insert-clause-ok c =
    let key = string_bytes c.in_ok-from_str.field-0 in
    let old = c.args.numbers.now in
    let new = c.insert.new.self in
    text_noted (get_by_text old) (get_by_text new) c.args.value.now c.in-Text.text key c.args.number (search rules) (search rules)
    (btree_map_updates_text key old new _ c.in_ok-insert.ensures.updates)
