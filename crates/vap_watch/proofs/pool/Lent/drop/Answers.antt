use Rattle.std.proofs.Common.{◌≡◌, ◌<◌, sym, ◌∙◌, ap, subst, [], ◌∷◌}
use Rattle.std.specs.Arc.{arc_value}
use Rattle.atomic_table.specs.Table.{rest}
use Rattle.atomic_table.specs.Seated.{TableId}
use Rattle.vap_watch.proofs.Pools.{freed_at}
use Rattle.vap_watch.proofs.pool.Lent.drop.Goals as goal

-- the place is at home again
pub store-requires : goal.store-requires
store-requires c =
    let s = c.self.inside in
    let is = c.self.invariant in
    let table = arc_value s.table in
    let key = table.shared.key in
    let put = c.exchange.ensures in
    let seat = c.exchange.new.seat in
    let me : seat.me ≡ (key, (s.index, s.entrance) ∷ []) = put.3 ∙ ap (λ m. (m.0, (s.index, s.entrance) ∷ rest m.1)) is.3 in
    let id : s.seat.table_id ≡ c.deref-2.result.now.shared.table_id = is.0 ∙ ap (λ a. a.shared.table_id) (sym c.deref-2.ensures) in
    let inside : s.index < table.shared.table_id.slots = subst (λ (z : TableId). s.index < z.slots) is.0 is.2 in (
      put.0 ∙ id,
      subst (λ (z : TableId). s.index < z.words) id is.1,
      rw (c.deref-2.ensures, me) (freed_at key table.shared.table_id.slots s.index seat.id key s.entrance inside is.4 is.5),
    )
