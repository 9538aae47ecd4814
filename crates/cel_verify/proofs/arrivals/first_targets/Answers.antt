use Rattle.std.proofs.Common.{◌≡◌, ◌+◌, ◌-◌, ◌<◌, drop, length, sym, subst, arith}
use Rattle.std.specs.Prelude.{slice_index_or}
use Rattle.std.proofs.lemmas.Option.{slice_get-get_or}
use Rattle.cel_verify.specs.Arrivals.{AreFirsts}
use Rattle.cel_verify.proofs.Firsts.{none_yet, one_earlier}
use Rattle.cel_verify.proofs.arrivals.first_targets.Goals as goal

pub loop-number-init : goal.loop-number-init
loop-number-init c =
    let targets = c.args.targets.now in (
      omega arith,
      subst (AreFirsts targets (drop (length targets) targets) c.args.count)
          (sym (c.in_ok-firsts.ensures.items_if_clones_equal (λ y same. same)))
          (none_yet targets c.args.count),
    )

pub loop-number-preserved-then-at-count : goal.loop-number-preserved-then-at-count
loop-number-preserved-then-at-count c =
    let e : c.loop-number.number - 1 + 1 ≡ c.loop-number.number = omega (arith, c.loop-number-test.true) in
    let inside : c.loop-number.number - 1 < length c.args.targets.now = omega (arith, c.loop-number-test.true, c.loop-number.invariant.0) in
    let l = c.loop-number in
    let targets = c.args.targets.now in
    let t = slice_index_or targets (l.number - 1) c.index-targets-number.result in (
      omega (arith, inside),
      one_earlier targets c.args.count (l.number - 1) l.firsts.items t
          (slice_get-get_or targets (l.number - 1) c.index-targets-number.result inside)
          (subst (λ n. AreFirsts targets (drop n targets) c.args.count l.firsts.items) (sym e) l.invariant.1),
    )
