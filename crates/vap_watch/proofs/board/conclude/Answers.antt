use Rattle.std.proofs.Common.{sym, ◌∙◌, ap}
use Rattle.vap_watch.proofs.Steps.{concludes}
use Rattle.vap_watch.proofs.board.conclude.Goals as goal

pub compare_exchange-requires : goal.compare_exchange-requires
compare_exchange-requires g c =
    let head = c.requires.head in
    let seen = c.args.seen.now.log in
    let offer = c.plain-offer.ensures in (
      ap (λ w. w.tracked) head,
      sym (ap (λ w. w.book) head),
      c.requires.pen.0 ∙ sym (ap (λ w. w.book) head),
      offer.0,
      rw (ap (λ w. w.key) head, offer.1, offer.3)
          (concludes seen _ c.args.count c.args.pen.nib c.requires.count.0 c.requires.pen.1 c.requires.pen.2 c.requires.under),
    )
