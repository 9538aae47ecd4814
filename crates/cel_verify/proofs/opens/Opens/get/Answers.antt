use Rattle.std.proofs.Common.{◌≡◌, ◌-◌, ◌<◌, length, sym, ap, ◌∙◌, arith}
use Rattle.std.specs.Prelude.{reverse, slice_get}
use Rattle.std.proofs.lemmas.List.{length-reverse}
use Rattle.std.proofs.lemmas.Option.{slice_get_past}
use Rattle.cel_verify.proofs.Openings.{item_is, get_reversed}
use Rattle.cel_verify.proofs.opens.Opens.get.Goals as goal

pub returns-then-within-count : goal.returns-then-within-count
returns-then-within-count c =
    let items = c.self.inside.items.items in
    sym (slice_get_past (reverse items) c.args.within (omega (arith, length-reverse items)))
    ∙ ap (λ os. slice_get os c.args.within) c.self.view_is

pub returns : goal.returns
returns c =
    let items = c.self.inside.items.items in
    let inside : c.args.within < length items = omega arith in
    let same : c.len-count.result - 1 - c.args.within ≡ length items - 1 - c.args.within = omega arith in
    item_is c.as_slice.result.now (c.len-count.result - 1 - c.args.within) c.get.result c.get.ensures.lookup
    ∙ ap (λ xs. slice_get xs (c.len-count.result - 1 - c.args.within)) c.as_slice.ensures.value
    ∙ ap (slice_get items) same
    ∙ sym (get_reversed items c.args.within inside)
    ∙ ap (λ os. slice_get os c.args.within) c.self.view_is
