use Rattle.std.proofs.Common.{refl, rules}
use Rattle.cel_verify.proofs.Measuring.{none_measured}
use Rattle.cel_verify.proofs.measures.Measures.new.Goals as goal

pub returns : goal.returns
returns c = λ image. none_measured _ (search rules) (search rules) refl refl image
