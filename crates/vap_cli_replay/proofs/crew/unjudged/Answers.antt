use Rattle.std.proofs.Common.{◌≡◌, refl, ap}
use Rattle.std.specs.Prelude.{Err}
use Rattle.std.proofs.lemmas.Option.{slice_get_read}
use Rattle.vap_cli_lines.specs.declared.fault.LineFault.TheVariants.{Pattern}
use Rattle.vap_cli_replay.specs.declared.fault.ReplayError.TheVariants.{Line}
use Rattle.vap_cli_replay.proofs.Tellings.{tells_pattern}
use Rattle.vap_cli_replay.proofs.crew.unjudged.Goals as goal

-- the request that is given up is one of these
pub returns-in-Err-clause-told : goal.returns-in-Err-clause-told
returns-in-Err-clause-told c =
    let found = c.in-Some.ensures.lookup in
    let requests = c.args.requests.now in
    let request = c.in-Some.request.now in
    λ number why told.
    let line : c.given_up.result ≡ Line number why = cc in
    let is = c.given_up.ensures.pattern number why line in
    let same : Line c.args.line Pattern ≡ Line number why = cc (is.0, is.1) in
    tells_pattern c.args.line number c.args.snapshot.now requests c.args.place request why same
    (slice_get_read requests _ c.args.place request refl found.3.0 found.1)
    (c.in-Err.ensures.pattern (ap Err (c.given_up.ensures.told number why line))) c.requires
