use Rattle.std.proofs.Common.{◌≡◌, ◌∙◌, ◌++◌, ◌∷◌, [], ap, sym, refl, rules, arith, subst, List}
use Rattle.vap_plane_gathering.specs.Numbered.{AreCame, came}
use Rattle.vap_plane_gathering.specs.declared.gathering.Came.{Came}
use Rattle.vap_plane_gathering.proofs.Numbered.{none_placed, one_placed, stranger_kept, stranger_more}
use Rattle.vap_plane_gathering.proofs.gathering.placed.Goals as goal

pub loop-number-preserved-then-number-count : goal.loop-number-preserved-then-number-count
loop-number-preserved-then-number-count c =
    let n = c.in-Some.number in
    let v = c.in-Some.verdict in
    let ys = c.loop-number.yielded in
    let are = c.loop-number.invariant.0 in
    let is = c.put.ensures (came n ys) (are.each n c.if-number-count.true) in (
      subst (λ (l : List Came). AreCame c.args.count (ys ++ (n, v) ∷ []) l) (sym is) (one_placed c.args.count ys
          c.loop-number.slots.items n v c.if-number-count.true are),
      stranger_kept c.args.count ys c.loop-number.stranger n v c.if-number-count.true c.loop-number.invariant.1,
    )

pub loop-number-preserved : goal.loop-number-preserved
loop-number-preserved c =
    let n = c.in-Some.number in
    let v = c.in-Some.verdict in
    let ys = c.loop-number.yielded in (
      none_placed c.args.count ys c.loop-number.slots.items n v (search rules) c.loop-number.invariant.0,
      stranger_more c.args.count ys c.loop-number.stranger n c.least.result v (search rules) c.loop-number.invariant.1 c.least.ensures,
    )
