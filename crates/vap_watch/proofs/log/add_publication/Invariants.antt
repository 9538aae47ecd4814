use Rattle.std.proofs.Common.{◌≡◌, ◌++◌, drop}
use Rattle.vap_watch.specs.Logs.{publication}
use Rattle.vap_watch.proofs.log.add_publication.Given as goal

-- what is there, with the rest of the publication, is the whole
abbrev pub invariant-loop-place : goal.invariant-loop-place
invariant-loop-place l =
    l.events.items ++ publication l.choice (drop l.place l.staged) ≡ l.initial.events.items ++ publication l.choice l.staged
