use Rattle.std.proofs.Common.{sym, ◌∙◌}
use Rattle.cel_code.proofs.Whole.{one_image, no_prefix}
use Rattle.cel_code.proofs.image_bytes.one_spelling.Goals as goal

pub returns : goal.returns
returns c = record {
  one = λ image left right s t. s.1 ∙ sym t.1;
  image = one_image;
  prefix = no_prefix;
}
