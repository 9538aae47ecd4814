use Rattle.std.proofs.Common.{sym, arith}
use Rattle.std.specs.Prelude.{reverse}
use Rattle.std.proofs.lemmas.Grind.{common_steps}
use Rattle.std.proofs.lemmas.List.{length-reverse}
use Rattle.cel_verify.proofs.Mapping.{no_charge, charge_next, charge_short, charge_all}
use Rattle.cel_verify.proofs.map_rule.map_charge.Goals as goal

pub loop-left-init : goal.loop-left-init
loop-left-init c = no_charge c.args.count (reverse c.args.types.now)

pub returns-in_default : goal.returns-in_default
returns-in_default c =
    let l = c.loop-left in
    let short = c.in_default.ensures in
    sym
    (charge_short c.args.count (reverse c.args.types.now) (reverse l.rest.now) l.left l.charge l.invariant c.loop-left-test.true
    (omega (arith, short, length-reverse l.rest.now)))

pub loop-left-preserved : goal.loop-left-preserved
loop-left-preserved c =
    let l = c.loop-left in
    charge_next c.args.count c.args.types.now l.rest.now c.in-Some.below.now l.left l.charge c.greatest_of_key.result
    c.saturating_add-charge.result c.in-Some.key.now _ l.invariant c.loop-left-test.true c.in-Some.ensures c.greatest_of_key.ensures
    (grind (arith, common_steps))

pub returns : goal.returns
returns c =
    let l = c.loop-left in
    charge_all c.args.count (reverse c.args.types.now) (reverse l.rest.now) l.left l.charge l.invariant
    (omega (arith, c.loop-left-test.false))
