use Rattle.std.proofs.Common.{rules}
use Rattle.std.specs.BTreeMap.{get_by_text}
use Rattle.cel_expression.proofs.Numbering.{still_numbered, numbered_after}
use Rattle.cel_expression.proofs.ConstantTexts.{texts_still, texts_after}
use Rattle.cel_expression.proofs.constants.Constants.push.Goals as goal

pub invariant_of-self-in_err-note_text : goal.invariant_of-self-in_err-note_text
invariant_of-self-in_err-note_text c = (
  still_numbered c.self.inside.values c.self.inside.numbers c.note.new.numbers c.args.value.now c.len.result c.self.invariant.0
      (search rules) c.in_ok-note.ensures.ok,
  rw c.in_err-note_text.ensures.err c.self.invariant.1,
)

pub invariant_of-self-in_err-copy : goal.invariant_of-self-in_err-copy
invariant_of-self-in_err-copy c = (
  still_numbered c.self.inside.values c.self.inside.numbers c.note.new.numbers c.args.value.now c.len.result c.self.invariant.0
      (search rules) c.in_ok-note.ensures.ok,
  texts_still c.self.inside.values (get_by_text c.self.inside.texts) (get_by_text c.note_text.new.numbers) c.args.value.now _
      c.self.invariant.1 (search rules) c.in_ok-note_text.ensures.ok,
)

pub invariant_of-self-2 : goal.invariant_of-self-2
invariant_of-self-2 c = (
  numbered_after c.push.result c.self.inside.values c.push.new.self c.self.inside.numbers c.note.new.numbers c.args.value.now
      c.in_ok-copy.field-0 c.len.result c.in_ok-copy.ensures c.len.ensures c.self.invariant.0
      (search rules) c.in_ok-note.ensures.ok c.push.ensures.ok c.push.ensures.err,
  texts_after c.push.result c.self.inside.values c.push.new.self (get_by_text c.self.inside.texts) (get_by_text c.note_text.new.numbers)
      c.args.value.now
      c.in_ok-copy.field-0 _ c.in_ok-copy.ensures c.len-2.ensures c.self.invariant.1
      (search rules) c.in_ok-note_text.ensures.ok c.push.ensures.ok c.push.ensures.err,
)
