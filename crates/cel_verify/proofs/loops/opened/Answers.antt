use Rattle.std.proofs.Common.{sym, ap}
use Rattle.std.proofs.lemmas.Result.{err_from_is_err_and}
use Rattle.cel_verify.specs.Sound.{entry_in, kind_rule}
use Rattle.cel_verify.proofs.Openings.{begun, not_begun, of_kind}
use Rattle.cel_verify.proofs.loops.opened.Goals as goal

pub returns-in_default : goal.returns-in_default
returns-in_default c = sym (ap (λ k. kind_rule k (entry_in c.args.image.now.targets c.args.exit) c.args.types) c.in_default.ensures)

pub returns-in_err-span : goal.returns-in_err-span
returns-in_err-span c =
    let entry = entry_in c.args.image.now.targets c.args.exit in
    let p = err_from_is_err_and c.from_residual.result c.from_residual.ensures.1 in
    rw (p.1, p.2)
    (of_kind c.args.number c.in-Some.mode entry c.args.types c.in_err-span.field-0.0 c.in-Some.ensures
    (c.in_err-span.ensures c.in-Some.mode entry))

pub returns-in_err-after : goal.returns-in_err-after
returns-in_err-after c =
    let image = c.args.image.now in
    let entry = entry_in image.targets c.args.exit in
    let mode = c.in-Some.mode in
    let r = c.in_err-after.field-0.0 in
    let p = err_from_is_err_and c.from_residual-in_err-after.result c.from_residual-in_err-after.ensures.1 in
    let below = c.range_taken.new.types in
    rw (p.1, p.2)
    (of_kind c.args.number mode entry c.args.types r c.in-Some.ensures
    (not_begun image mode c.args.exit c.args.types below c.in_ok-span.span r c.in_ok-span.ensures c.in_err-after.ensures))

pub returns : goal.returns
returns c =
    begun c.args.image.now c.args.at c.args.number c.in-Some.mode c.args.exit c.args.types c.range_taken.new.types
    c.in_ok-after.after c.in_ok-span.span c.in-Some.ensures c.in_ok-span.ensures c.in_ok-after.ensures
