use Rattle.std.proofs.Common.{refl, rules, ap}
use Rattle.cel_expression.proofs.Jumped.{targets_are_jumps}
use Rattle.cel_expression.proofs.Unique.{one_image}
use Rattle.cel_expression.proofs.Written.{compiled}
use Rattle.cel_expression.proofs.Runs.{computes}
use Rattle.cel_check.proofs.Preserved.{preserved_outside}
use Rattle.cel_expression.proofs.compiler.compile.Goals as goal

pub returns-in_err-copy_types-clause-preserves : goal.returns-in_err-copy_types-clause-preserves
returns-in_err-copy_types-clause-preserves c = preserved_outside c.args.typed.now

pub returns-in_err-copy-clause-preserves : goal.returns-in_err-copy-clause-preserves
returns-in_err-copy-clause-preserves c = preserved_outside c.args.typed.now

pub returns-in_err-emit-clause-preserves : goal.returns-in_err-emit-clause-preserves
returns-in_err-emit-clause-preserves c = preserved_outside c.args.typed.now

pub returns-in_err-put-clause-preserves : goal.returns-in_err-put-clause-preserves
returns-in_err-put-clause-preserves c = preserved_outside c.args.typed.now

pub returns : goal.returns
returns c =
    let is =
    compiled c.new-draft.result c.emit.new.self c.put.new.self _ _ c.args.typed.now.tree c.args.typed.now.slots c.get.ensures
    c.new-draft.ensures.code c.new-draft.ensures.targets c.new-draft.ensures.below c.in_ok-emit.ensures.stands c.in_ok-emit.ensures.writes
    c.in_ok-put.ensures.code c.in_ok-put.ensures.grows
    (ap (λ cs. record { constants = cs; instrs = c.put.new.self.code }) c.into_items.ensures) refl (search rules) (search rules)
    refl in
    record {
      compiled = is;
      only = λ other other_is. one_image other _ c.args.typed.now.tree c.args.typed.now.slots other_is is;
      jumps = targets_are_jumps _ c.args.typed.now.tree c.args.typed.now.slots is;
      computes = computes _ c.args.typed.now.tree _ is.stands is.ends;
      slots = is.slots;
      outcome = is.result;
      preserves = preserved_outside c.args.typed.now;
    }
