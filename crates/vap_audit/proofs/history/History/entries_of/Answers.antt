use Rattle.std.proofs.Common.{◌≡◌, ◌∙◌, ◌++◌, ◌∷◌, [], List, ℕ, true, false, rules, ap, sym}
use Rattle.std.specs.Prelude.{◌==◌}
use Rattle.vap_audit.proofs.Numbers.{next_mine, next_other}
use Rattle.vap_audit.proofs.history.History.entries_of.Goals as goal
use Rattle.vap_audit.proofs.history.History.entries_of.Goals.{then-at-worker+in_ok-push, else-at-worker}

pub loop-number-preserved : goal.loop-number-preserved
loop-number-preserved c =
    let next = next_mine c.args.self.now c.loop-number.number c.args.worker c.at.result.now c.at.ensures in
    let other = next_other c.args.self.now c.loop-number.number c.args.worker c.at.result.now c.at.ensures in
    elim c.if-at-worker.branch [
      | then-at-worker+in_ok-push w ↦
          (let t : (c.at.result.now.worker == c.args.worker) ≡ true = search rules in
          let n = next t in
          ap (λ v. v.items) w.numbers-is
          ∙ (w.in_ok-push.ensures.items ∙ (ap (λ (l : List ℕ). l ++ c.loop-number.number ∷ []) c.loop-number.invariant ∙ sym n)))
      | else-at-worker w ↦
          (let t : (c.at.result.now.worker == c.args.worker) ≡ false = search rules in
          let n = other t in
          let i = c.loop-number.invariant in
          let s = ap (λ v. v.items) w.numbers-is in
          cc)
    ]
