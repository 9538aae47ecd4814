use Rattle.std.proofs.Common.{◌+ℤ◌, ◌-ℤ◌, ◌*ℤ◌, rules}
use Rattle.std.specs.Prelude.{FitsSigned}
use Rattle.std.specs.Int.{w64}
use Rattle.std.specs.Option.{SomeIff}
use Rattle.cel_value.specs.declared.value.Value as value
use Rattle.cel_machine.proofs.Ranges.{made_of}
use Rattle.cel_machine.proofs.arithmetic.calculated_of.Goals as goal

pub returns-in-Add : goal.returns-in-Add
unfolding value.out-Value denote.Hole.Carrier.out
returns-in-Add c =
    let made = c.args.m +ℤ c.args.n in
    let is : SomeIff c.checked_add.result (FitsSigned w64 made) made = search rules in
    rw c.in-Add.is (made_of made c.checked_add.result is)

pub returns-in-Subtract : goal.returns-in-Subtract
unfolding value.out-Value denote.Hole.Carrier.out
returns-in-Subtract c =
    let made = c.args.m -ℤ c.args.n in
    let is : SomeIff c.checked_sub.result (FitsSigned w64 made) made = search rules in
    rw c.in-Subtract.is (made_of made c.checked_sub.result is)

pub returns-in-Multiply : goal.returns-in-Multiply
unfolding value.out-Value denote.Hole.Carrier.out
returns-in-Multiply c =
    let made = c.args.m *ℤ c.args.n in
    let is : SomeIff c.checked_mul.result (FitsSigned w64 made) made = search rules in
    rw c.in-Multiply.is (made_of made c.checked_mul.result is)
