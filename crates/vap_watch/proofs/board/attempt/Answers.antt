use Rattle.std.proofs.Common.{sym, ◌∙◌, ap}
use Rattle.vap_watch.proofs.Steps.{attempts}
use Rattle.vap_watch.proofs.board.attempt.Goals as goal

pub compare_exchange-found-requires : goal.compare_exchange-found-requires
compare_exchange-found-requires g c =
    let head = c.requires.head in
    let offer = c.plain-offer.ensures in
    let pen = c.no_pen-pen.ensures in
    let even = c.requires.count.2 in (
      ap (λ w. w.tracked) head,
      sym (ap (λ w. w.book) head),
      pen.0 ∙ sym (ap (λ w. w.book) head),
      offer.0,
      rw (ap (λ w. w.key) head, pen.1, offer.1, offer.3)
          (attempts c.args.seen.now.log _ c.args.count even.0 c.requires.count.0 even.1 c.requires.under),
    )
