use Rattle.std.proofs.Common.{◌≡◌, ◌∙◌, ◌∷◌, [], ap, arith, length-append}
use Rattle.vap_watch.specs.Seen.{Known}
use Rattle.vap_watch.specs.declared.log.Logged.{Logged}
use Rattle.vap_plane.specs.declared.worker.Worker.{Worker}
use Rattle.vap_cli_replay.proofs.Crews.{all_last}
use Rattle.vap_cli_replay.proofs.crew.manned.Goals as goal

pub loop-pass-preserved : goal.loop-pass-preserved
loop-pass-preserved g c =
    let board : c.new-worker.result.reader.board ≡ c.args.source.now =
    ap (λ (k : Known Logged). k.board) (c.new-worker.ensures.reader ∙ c.in-Ok.ensures) in (
      omega (arith, length-append c.loop-pass.yielded (c.in-Some.pass ∷ []), c.loop-pass.invariant.0, c.in_ok-push.ensures.len),
      all_last (λ (w : Worker g.row.L.Denot). w.reader.board ≡ c.args.source.now) c.loop-pass.workers.items c.push.new.self.items
          c.new-worker.result c.loop-pass.invariant.1 board c.in_ok-push.ensures.items,
    )
