use Rattle.std.proofs.Common.{◌≡◌, ◌-◌, ◌+◌, ℕ, List, None, Result, Ok, false, ap, sym, subst, ◌∙◌}
use Rattle.std.proofs.lemmas.Result.{err_from_is_err_and}
use Rattle.base_containers.specs.declared.text.Keyed.{Keyed}
use Rattle.base_containers.specs.Keys.{IsInKeyOrder}
use Rattle.cel_value.specs.declared.cel_type.Field.{Field}
use Rattle.cel_value.specs.declared.cel_type.CelType.{CelType}
use Rattle.base_containers.specs.Failures.{Fails}
use Rattle.cel_code.specs.declared.fault.ReadFault.{ReadFault}
use Rattle.std.specs.Int.{w32}
use Rattle.cel_code.specs.Reading.{number_at, last_of, items_at, field_at, type_at}
use Rattle.cel_code.proofs.Loops.{still, counted, begins, goes_on, ends, is_done}
use Rattle.cel_code.proofs.FieldOrder.{in_order_nil, in_order_push, field_behind}
use Rattle.cel_code.proofs.types.+reading.Goals as goal

abbrev Fields : Type 0
Fields = List (Keyed (Field CelType))

pub fields_of-loop-init : goal.fields_of-loop-init
fields_of-loop-init t c = record {
  ordered = in_order_nil c.new-fields.result.items c.new-fields.ensures.items;
  read =
      let read = field_at (type_at c.args.depth false) in
      ap (λ (fs : Fields). still read fs (c.in_ok-count.count - 0) c.in_ok-count.start.now) c.new-fields.ensures.items
      ∙ begins read c.in_ok-count.count c.in_ok-count.start.now;
}

pub fields_of-returns-in_err-field : goal.fields_of-returns-in_err-field
fields_of-returns-in_err-field t c =
    let read = field_at (type_at c.args.depth false) in
    let p = err_from_is_err_and c.from_residual-in_err-field.result c.from_residual-in_err-field.ensures.1 in
    let whole = counted read (number_at w32 c.args.bytes.now) c.in_ok-count.count c.in_ok-count.start.now c.in_ok-count.ensures in
    let e = c.in_err-field.field-0.0 in
    let failed = subst (λ (fs : Fields). Fails e (read (last_of fs) c.loop.rest.now)) c.as_slice.ensures.value c.in_err-field.ensures in
    rw (p.1, p.2) (subst (λ (r : Result (Fields × List ℕ) ReadFault). Fails e r) (sym whole)
    (ends read e c.loop.fields.items c.in_ok-count.count c.loop.counter c.loop.rest.now
    (items_at read None c.in_ok-count.count c.in_ok-count.start.now) c.loop-test.true failed c.loop.invariant.read))

pub fields_of-loop-preserved : goal.fields_of-loop-preserved
fields_of-loop-preserved t c =
    let read = field_at (type_at c.args.depth false) in
    let fs = c.loop.fields.items in
    let f = c.in_ok-field.field in
    let one : read (last_of fs) c.loop.rest.now ≡ Ok (f, c.in_ok-field.after.now) =
    ap (λ (gs : Fields). read (last_of gs) c.loop.rest.now) (sym c.as_slice.ensures.value) ∙ c.in_ok-field.ensures in
    record {
      ordered = subst (λ (gs : Fields). IsInKeyOrder gs) (sym c.in_ok-push.ensures.items)
          (in_order_push fs f c.loop.invariant.ordered (field_behind (type_at c.args.depth false)
          (last_of fs) c.loop.rest.now f c.in_ok-field.after.now one));
      read = ap (λ (gs : Fields). still read gs (c.in_ok-count.count -
          (c.loop.counter + 1)) c.in_ok-field.after.now) c.in_ok-push.ensures.items
          ∙ goes_on read fs c.in_ok-count.count c.loop.counter c.loop.rest.now f c.in_ok-field.after.now
          (items_at read None c.in_ok-count.count c.in_ok-count.start.now) c.loop-test.true one c.loop.invariant.read;
    }

pub fields_of-returns : goal.fields_of-returns
fields_of-returns t c =
    let read = field_at (type_at c.args.depth false) in
    counted read (number_at w32 c.args.bytes.now) c.in_ok-count.count c.in_ok-count.start.now c.in_ok-count.ensures
    ∙ is_done read c.loop.fields.items c.in_ok-count.count c.loop.counter c.loop.rest.now
    (items_at read None c.in_ok-count.count c.in_ok-count.start.now) c.loop-test.false c.loop.invariant.read
    ∙ ap (λ (fs : Fields). Ok (fs, c.loop.rest.now)) (sym c.from_vec.ensures)
