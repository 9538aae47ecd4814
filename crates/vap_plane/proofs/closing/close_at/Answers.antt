use Rattle.vap_plane.proofs.closing.close_at.Goals as goal

pub returns-in-Ok-clause-closed : goal.returns-in-Ok-clause-closed
returns-in-Ok-clause-closed g c =
    record { history = c.into_inner.result.history; kept = c.in-Ok.ensures.kept; closed = c.in-Ok.ensures.settled }
