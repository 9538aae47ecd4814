use Rattle.std.proofs.Common.{◌≡◌, ◌+◌, ◌-◌, ◌^◌, min, ap, ◌∙◌, arith}
use Rattle.cel_estimate.specs.Estimate.{estimate_of}
use Rattle.cel_estimate.proofs.Estimates.{estimate_of_list, estimate_of_map, estimate_of_loop, estimate_of_map_where}
use Rattle.cel_estimate.proofs.measure.+estimating.Goals as goal

pub most-returns-in-ListOf : goal.most-returns-in-ListOf
most-returns-in-ListOf t c = grind (arith, estimate_of_list c.args.tree.now c.in-ListOf.items (record { is = c.in-ListOf.is }))

pub most-returns-in-MapOf : goal.most-returns-in-MapOf
most-returns-in-MapOf t c = grind (arith, estimate_of_map c.args.tree.now c.in-MapOf.entries (record { is = c.in-MapOf.is }))

pub most-returns-in-Loop : goal.most-returns-in-Loop
most-returns-in-Loop t c =
    let body = c.most-in-Loop.ensures ∙ ap (λ b. min (estimate_of b) (2 ^ 64 - 1)) c.get-in-Loop-2.ensures in
    grind (
      arith,
      c.rounds-items.ensures (estimate_of c.in-Loop.body) body,
      estimate_of_loop c.args.tree.now c.in-Loop.field-0 c.in-Loop.range c.in-Loop.body (record { is = c.in-Loop.is }),
    )

pub most-returns-in-MapWhere : goal.most-returns-in-MapWhere
most-returns-in-MapWhere t c =
    let predicate = c.in-MapWhere.predicate in
    let transform = c.in-MapWhere.transform in
    let at_predicate = c.most-in-MapWhere.ensures ∙ ap (λ p. min (estimate_of p) (2 ^ 64 - 1)) c.get-in-MapWhere.ensures in
    let at_transform = c.most-in-MapWhere-2.ensures ∙ ap (λ b. min (estimate_of b) (2 ^ 64 - 1)) c.get-in-MapWhere-2.ensures in
    let bodies : c.saturating_add-bodies.result ≡ min (estimate_of predicate + estimate_of transform) (2 ^ 64 - 1) =
    omega (arith, c.saturating_add-bodies.ensures, at_predicate, at_transform) in
    grind (
      arith,
      c.rounds-items-in-MapWhere.ensures (estimate_of predicate + estimate_of transform) bodies,
      estimate_of_map_where c.args.tree.now c.in-MapWhere.range predicate transform (record { is = c.in-MapWhere.is }),
    )
