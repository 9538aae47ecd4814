use Rattle.std.proofs.Common.{◌≡◌, ap, sym, ◌∙◌}
use Rattle.std.specs.Prelude.{Err}
use Rattle.vap_cli_lines.specs.declared.fault.LineFault.TheVariants.{Unverified}
use Rattle.vap_cli_replay.specs.declared.fault.ReplayError.TheVariants.{Line}
use Rattle.vap_cli_replay.proofs.Taking.{one_staged, unverified_only}
use Rattle.vap_cli_replay.proofs.session.Session.take_event.Goals as goal

-- the event is the only one that is staged
pub returns-in-Err-publish-clause-unverified : goal.returns-in-Err-publish-clause-unverified
returns-in-Err-publish-clause-unverified g c =
    λ number told.
    let line : c.unpublished.result ≡ Line number Unverified = cc in
    let both = unverified_only _ _ number (sym c.unpublished.ensures ∙ line) in (
      both.0,
      one_staged c.args.self.now.writer _ c.args.event c.in_default.ensures.last c.requires.published
          (c.in-Err-publish.ensures.unverified (ap Err both.1)),
    )
