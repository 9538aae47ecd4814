use Rattle.std.proofs.Common.{◌≡◌, ◌<◌, sym, ◌∙◌, ap, refl, arith, Some}
use Rattle.std.proofs.lemmas.Bool.Decides.{nat_tests}
use Rattle.std.specs.Arc.{arc_value}
use Rattle.vap_watch.proofs.Pools.{sits_down, claimed}
use Rattle.vap_watch.proofs.pool.Pool.take.Goals as goal

pub load_new_seat-requires : goal.load_new_seat-requires
load_new_seat-requires c =
    let table = c.deref.result.now in
    let same : table ≡ arc_value c.self.inside.table = c.deref.ensures ∙ c.in_ok-table.ensures in
    let wide : 0 < (arc_value c.self.inside.table).shared.table_id.words = rw c.self.invariant.0 c.self.invariant.1 in
    (rw same wide, sits_down table.shared.key table.shared.table_id.slots 0)

pub compare_exchange-requires : goal.compare_exchange-requires
compare_exchange-requires c =
    let at = c.deref-in-loop-index in
    let table = at.result.now in
    let seat = c.loop-index.seat in
    let all = c.slot_count-index-end.ensures ∙ ap (λ a. a.shared.table_id.slots) (c.deref-2.ensures ∙ c.in_ok-table.ensures) in
    let wide = ap (λ a. a.shared.table_id.words) (at.ensures ∙ c.in_ok-table.ensures) in
    let sizes = c.self.invariant.0 in (
      c.loop-index.invariant.0 ∙ ap (λ a. a.shared.table_id) (sym at.ensures),
      grind (arith, nat_tests, c.loop-index-test.true, all, wide, sizes),
      claimed table.shared.key table.shared.table_id.slots c.loop-index.index seat.id seat.me,
    )

pub exchange-entrance-requires : goal.exchange-entrance-requires
exchange-entrance-requires c =
    let found = c.compare_exchange in
    let one : found.result ≡ 1 = grind (arith, nat_tests, c.if-compare_exchange-eq1.true) in
    let got = found.ensures.2.0 one in
    let table = c.deref-then-compare_exchange-eq1.ensures in (
      found.ensures.0 ∙ (c.loop-index.invariant.0 ∙ ap (λ a. a.shared.table_id) (sym table)),
      (Some got.0, rw got.2 refl),
    )
