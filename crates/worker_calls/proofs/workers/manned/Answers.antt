use Rattle.std.proofs.Common.{◌≡◌, ◌∙◌, ◌∷◌, [], sym, ap, subst, arith, length-append}
use Rattle.std.proofs.lemmas.List.Elements.{All-append}
use Rattle.std.specs.List.{All}
use Rattle.vap_watch.specs.Seen.{Known}
use Rattle.vap_watch.specs.declared.log.Logged.{Logged}
use Rattle.vap_plane.specs.declared.worker.Worker.{Worker}
use Rattle.vap_plane.proofs.Replies.{all_one}
use Rattle.worker_calls.proofs.workers.manned.Goals as goal

pub loop-pass-preserved : goal.loop-pass-preserved
loop-pass-preserved g c =
    let of_source = λ (w : Worker g.row.L.Denot). w.reader.board ≡ c.args.source.now in
    let board : c.new.result.reader.board ≡ c.args.source.now =
    ap (λ (k : Known Logged). k.board) (c.new.ensures.reader ∙ c.in-Ok.ensures) in (
      omega (arith, length-append c.loop-pass.yielded (c.in-Some.pass ∷ []), c.loop-pass.invariant.0, c.in_ok-push.ensures.len),
      subst (All of_source) (sym c.in_ok-push.ensures.items)
          (All-append of_source c.loop-pass.workers.items (c.new.result ∷ []) c.loop-pass.invariant.1
          (all_one of_source c.new.result board)),
    )
