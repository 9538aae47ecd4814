use Rattle.std.proofs.Common.{◌≡◌, ◌∙◌, sym, ap, drop}
use Rattle.vap_watch.proofs.Grows.{grows, fold_last, follows_same}
use Rattle.vap_watch.proofs.publisher.Publisher.of.Goals as goal

-- the opening snapshot is published once more
pub publish_as-inner-requires : goal.publish_as-inner-requires
publish_as-inner-requires g c next is =
    let op = c.in_ok-third.third in
    let inner = c.in_ok-inner.inner in
    let shown = c.append.new.self.desk.shown.value in
    let last : next ≡ op = (rw c.in-Ok.ensures.pending at is) ∙ fold_last shown (drop inner.behind inner.log.items) op in
    let before : shown ≡ c.args.opening.now =
    ap (λ d. d.shown.value) c.append.ensures.desk ∙ (c.in_ok-inner.ensures.0 ∙ c.in_ok-share.ensures) in
    grows _ _ _ next (follows_same _ _ (last ∙ (c.in_ok-third.ensures ∙ sym before)))
