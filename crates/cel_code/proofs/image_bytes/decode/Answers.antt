use Rattle.std.proofs.Common.{arith, Ok, Err}
use Rattle.cel_code.specs.declared.fault.ImageFault.TheVariants.{TrailingBytes}
use Rattle.cel_code.proofs.Laws.{IsBytes}
use Rattle.cel_code.proofs.Whole.{decodes, tells_more, is_found, answers_only, is_right_for}
use Rattle.cel_code.proofs.image_bytes.decode.Goals as goal

pub returns : goal.returns
returns c =
    let bytes = c.args.bytes.now in
    let r = c.read_whole.result in
    let fits : IsBytes bytes = λ i. omega (arith, c.type_inv.bytes i) in
    let read = c.read_whole.ensures in
    record {
      found = is_found bytes r fits read;
      only = λ image s. answers_only bytes r (Ok image) read (decodes image bytes s);
      trailing = λ image front rest s e h. answers_only bytes r (Err TrailingBytes) read (tells_more image bytes front rest s e h);
      faults = is_right_for bytes r fits read;
      first = read;
    }
