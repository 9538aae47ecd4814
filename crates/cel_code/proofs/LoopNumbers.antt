-- The numbers of the kinds of loops.
use Rattle.std.proofs.Common.{◌≡◌, ℕ, ◌<◌, Some, None, refl, arith, slice_get}
use Rattle.std.proofs.lemmas.Option.{slice_get_past}
use Rattle.cel_value.specs.declared.expr.Loop.{Loop}
use Rattle.cel_value.specs.declared.expr.Loop.TheVariants as loop
use Rattle.cel_code.specs.LoopNumbers.{loops, loop_kind, loop_number}

pub no_kind : (number : ℕ) → 4 < number → slice_get loops number ≡ None
no_kind number h = slice_get_past loops number (omega arith)

pub loop_kind-loop_number : (kind : Loop) → loop_kind (loop_number kind) ≡ Some kind
loop_kind-loop_number loop.All = refl
loop_kind-loop_number loop.Exists = refl
loop_kind-loop_number loop.ExistsOne = refl
loop_kind-loop_number loop.Map = refl
loop_kind-loop_number loop.Filter = refl
