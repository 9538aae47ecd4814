use Rattle.std.proofs.Common.{List, Some, length, sym, ap, ◌∙◌, arith}
use Rattle.cel_operators.specs.Outcomes.{Outcome}
use Rattle.cel_operators.specs.Wants.{taken}
use Rattle.cel_operators.specs.declared.operands.Want.TheVariants.{Characters}
use Rattle.cel_operators_applied.specs.Lent.{lent}
use Rattle.cel_operators_applied.specs.Pairs.{entry_of, turned}
use Rattle.cel_machine.proofs.Gathering.{keyless, one_more_off}
use Rattle.cel_machine.proofs.maps.entries_off.Goals as goal

pub returns-in_default-2-clause-taken : goal.returns-in_default-2-clause-taken
returns-in_default-2-clause-taken c =
    let l = c.loop-left in
    sym l.invariant.0
    ∙ keyless l.left (turned l.entries) c.in-Some.value c.in-Some-pop.key l.stack.items
    c.pop.new.self.items c.pop-in-loop-left.new.self.items c.loop-left-test.true c.in-Some.ensures.items c.in-Some-pop.ensures.items
    (ap (λ q. entry_of (taken Characters (Some q)) c.in-Some.value) (sym c.read.ensures)
    ∙ sym c.in_ok-entry.ensures ∙ c.in_default-2.is)

pub loop-left-preserved-in_ok-entries : goal.loop-left-preserved-in_ok-entries
loop-left-preserved-in_ok-entries c =
    let l = c.loop-left in
    let popped = ap (λ (xs : List Outcome). length xs) c.in-Some.ensures.items in
    let popped_key = ap (λ (xs : List Outcome). length xs) c.in-Some-pop.ensures.items in (
      one_more_off l.left c.args.count l.entries c.in_ok-entries.entries c.in-Some.value c.in-Some-pop.key (lent c.read.result)
          c.args.stack.now.items
          l.stack.items c.pop.new.self.items c.pop-in-loop-left.new.self.items c.in_ok-entry.field-0 c.in-Some-2.entry c.loop-left-test.true
          c.in-Some.ensures.items c.in-Some-pop.ensures.items c.read.ensures c.in_ok-entry.ensures
          c.in-Some-2.is c.in_ok-entries.ensures l.invariant.0,
      c.in-Some-pop.ensures.room ∙ c.in-Some.ensures.room ∙ l.invariant.1,
      omega (arith, l.invariant.2, popped, popped_key),
    )

pub loop-left-preserved-in_ok-entries-2 : goal.loop-left-preserved-in_ok-entries-2
loop-left-preserved-in_ok-entries-2 c =
    let l = c.loop-left in
    let popped = ap (λ (xs : List Outcome). length xs) c.in-Some.ensures.items in
    let popped_key = ap (λ (xs : List Outcome). length xs) c.in-Some-pop.ensures.items in (
      one_more_off l.left c.args.count l.entries c.in_ok-entries.entries c.in-Some.value c.in-Some-pop.key (lent c.read.result)
          c.args.stack.now.items
          l.stack.items c.pop.new.self.items c.pop-in-loop-left.new.self.items c.in_ok-entry.field-0 c.in-Some-2.entry c.loop-left-test.true
          c.in-Some.ensures.items c.in-Some-pop.ensures.items c.read.ensures c.in_ok-entry.ensures
          c.in-Some-2.is c.in_ok-entries.ensures l.invariant.0,
      c.in-Some-pop.ensures.room ∙ c.in-Some.ensures.room ∙ l.invariant.1,
      omega (arith, l.invariant.2, popped, popped_key),
    )

pub loop-left-preserved-in_ok-entries-5 : goal.loop-left-preserved-in_ok-entries-5
loop-left-preserved-in_ok-entries-5 c =
    let l = c.loop-left in
    let popped = ap (λ (xs : List Outcome). length xs) c.in-Some.ensures.items in
    let popped_key = ap (λ (xs : List Outcome). length xs) c.in-Some-pop.ensures.items in (
      one_more_off l.left c.args.count l.entries c.in_ok-entries.entries c.in-Some.value c.in-Some-pop.key (lent c.read.result)
          c.args.stack.now.items
          l.stack.items c.pop.new.self.items c.pop-in-loop-left.new.self.items c.in_ok-entry.field-0 c.in-Some-2.entry c.loop-left-test.true
          c.in-Some.ensures.items c.in-Some-pop.ensures.items c.read.ensures c.in_ok-entry.ensures
          c.in-Some-2.is c.in_ok-entries.ensures l.invariant.0,
      c.in-Some-pop.ensures.room ∙ c.in-Some.ensures.room ∙ l.invariant.1,
      omega (arith, l.invariant.2, popped, popped_key),
    )

pub loop-left-preserved-in_ok-entries-6 : goal.loop-left-preserved-in_ok-entries-6
loop-left-preserved-in_ok-entries-6 c =
    let l = c.loop-left in
    let popped = ap (λ (xs : List Outcome). length xs) c.in-Some.ensures.items in
    let popped_key = ap (λ (xs : List Outcome). length xs) c.in-Some-pop.ensures.items in (
      one_more_off l.left c.args.count l.entries c.in_ok-entries.entries c.in-Some.value c.in-Some-pop.key (lent c.read.result)
          c.args.stack.now.items
          l.stack.items c.pop.new.self.items c.pop-in-loop-left.new.self.items c.in_ok-entry.field-0 c.in-Some-2.entry c.loop-left-test.true
          c.in-Some.ensures.items c.in-Some-pop.ensures.items c.read.ensures c.in_ok-entry.ensures
          c.in-Some-2.is c.in_ok-entries.ensures l.invariant.0,
      c.in-Some-pop.ensures.room ∙ c.in-Some.ensures.room ∙ l.invariant.1,
      omega (arith, l.invariant.2, popped, popped_key),
    )

pub loop-left-preserved-in_ok-entries-7 : goal.loop-left-preserved-in_ok-entries-7
loop-left-preserved-in_ok-entries-7 c =
    let l = c.loop-left in
    let popped = ap (λ (xs : List Outcome). length xs) c.in-Some.ensures.items in
    let popped_key = ap (λ (xs : List Outcome). length xs) c.in-Some-pop.ensures.items in (
      one_more_off l.left c.args.count l.entries c.in_ok-entries.entries c.in-Some.value c.in-Some-pop.key (lent c.read.result)
          c.args.stack.now.items
          l.stack.items c.pop.new.self.items c.pop-in-loop-left.new.self.items c.in_ok-entry.field-0 c.in-Some-2.entry c.loop-left-test.true
          c.in-Some.ensures.items c.in-Some-pop.ensures.items c.read.ensures c.in_ok-entry.ensures
          c.in-Some-2.is c.in_ok-entries.ensures l.invariant.0,
      c.in-Some-pop.ensures.room ∙ c.in-Some.ensures.room ∙ l.invariant.1,
      omega (arith, l.invariant.2, popped, popped_key),
    )

pub loop-left-preserved : goal.loop-left-preserved
loop-left-preserved c =
    let l = c.loop-left in
    let popped = ap (λ (xs : List Outcome). length xs) c.in-Some.ensures.items in
    let popped_key = ap (λ (xs : List Outcome). length xs) c.in-Some-pop.ensures.items in (
      one_more_off l.left c.args.count l.entries c.in_ok-entries.entries c.in-Some.value c.in-Some-pop.key (lent c.read.result)
          c.args.stack.now.items
          l.stack.items c.pop.new.self.items c.pop-in-loop-left.new.self.items c.in_ok-entry.field-0 c.in-Some-2.entry c.loop-left-test.true
          c.in-Some.ensures.items c.in-Some-pop.ensures.items c.read.ensures c.in_ok-entry.ensures
          c.in-Some-2.is c.in_ok-entries.ensures l.invariant.0,
      c.in-Some-pop.ensures.room ∙ c.in-Some.ensures.room ∙ l.invariant.1,
      omega (arith, l.invariant.2, popped, popped_key),
    )
