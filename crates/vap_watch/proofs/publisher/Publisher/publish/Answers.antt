use Rattle.std.proofs.Common.{◌≡◌, ◌∙◌, ap, refl, drop}
use Rattle.vap_watch.specs.Shown.{shows}
use Rattle.vap_watch.specs.Seen.{Follows}
use Rattle.vap_watch.proofs.Grows.{grows, fold_last}
use Rattle.vap_watch.proofs.publisher.Publisher.publish.Goals as goal

-- what is published next follows what is published
pub publish_as-inner-requires : goal.publish_as-inner-requires
publish_as-inner-requires g c next is =
    let s = c.self.inside in
    let shown = c.append.new.self.desk.shown.value in
    let op = c.new.result in
    let last : next ≡ op = (rw c.in-Ok-append.ensures.pending at is) ∙ fold_last shown (drop s.inner.behind s.inner.log.items) op in
    let drafted : op ≡ shows s.board.board c.args.next =
    c.new.ensures ∙ (c.note.ensures ∙ ap (λ d. shows d.board d.next) c.in-Ok.ensures) in
    let before : shown ≡ s.board = ap (λ d. d.shown.value) c.append.ensures.desk ∙ c.self.invariant.0 in
    let more : Follows next shown = rw (last, drafted, before) (record { board = refl; more = rw c.self.view_is c.requires }) in
    grows _ _ _ next more
