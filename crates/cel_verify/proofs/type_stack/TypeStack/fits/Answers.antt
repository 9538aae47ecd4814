use Rattle.std.proofs.Common.{rules}
use Rattle.cel_verify.proofs.type_stack.TypeStack.fits.Goals as goal

pub returns : goal.returns
returns c = search rules
