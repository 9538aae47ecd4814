use Rattle.std.proofs.Common.{◌≡◌, ◌-◌, ◌+◌, None, Ok, ap, sym, subst, ◌∙◌}
use Rattle.std.proofs.lemmas.Result.{err_from_is_err_and}
use Rattle.base_containers.specs.Failures.{Fails}
use Rattle.std.specs.Int.{w32}
use Rattle.cel_code.specs.Reading.{number_at, last_of, items_at}
use Rattle.cel_code.proofs.Loops.{still, counted, goes_on, ends, is_done}
use Rattle.cel_code.proofs.spelt.list_of.Goals as goal

pub returns-in_err-item : goal.returns-in_err-item
returns-in_err-item g c =
    let read = g.T.Spelt.reader in
    let p = err_from_is_err_and c.from_residual-in_err-item.result c.from_residual-in_err-item.ensures.1 in
    let whole = counted read (number_at w32 c.args.bytes.now) c.in_ok-count.count c.in_ok-count.start.now c.in_ok-count.ensures in
    let e = c.in_err-item.field-0.0 in
    let failed = subst (λ xs. Fails e (read (last_of xs) c.loop.rest.now)) c.as_slice.ensures.value c.in_err-item.ensures in
    rw (p.1, p.2) (subst (λ r. Fails e r) (sym whole)
    (ends read e c.loop.items.items c.in_ok-count.count c.loop.counter c.loop.rest.now
    (items_at read None c.in_ok-count.count c.in_ok-count.start.now) c.loop-test.true failed c.loop.invariant))

pub loop-preserved : goal.loop-preserved
loop-preserved g c =
    let read = g.T.Spelt.reader in
    let xs = c.loop.items.items in
    let one : read (last_of xs) c.loop.rest.now ≡ Ok (c.in_ok-item.item, c.in_ok-item.after.now) =
    ap (λ ys. read (last_of ys) c.loop.rest.now) (sym c.as_slice.ensures.value) ∙ c.in_ok-item.ensures in
    ap (λ ys. still read ys (c.in_ok-count.count - (c.loop.counter + 1)) c.in_ok-item.after.now) c.in_ok-push.ensures.items
    ∙ goes_on read xs c.in_ok-count.count c.loop.counter c.loop.rest.now c.in_ok-item.item c.in_ok-item.after.now
    (items_at read None c.in_ok-count.count c.in_ok-count.start.now) c.loop-test.true one c.loop.invariant

pub returns : goal.returns
returns g c =
    let read = g.T.Spelt.reader in
    counted read (number_at w32 c.args.bytes.now) c.in_ok-count.count c.in_ok-count.start.now c.in_ok-count.ensures
    ∙ is_done read c.loop.items.items c.in_ok-count.count c.loop.counter c.loop.rest.now
    (items_at read None c.in_ok-count.count c.in_ok-count.start.now) c.loop-test.false c.loop.invariant
    ∙ ap (λ xs. Ok (xs, c.loop.rest.now)) (sym c.from_vec.ensures)
