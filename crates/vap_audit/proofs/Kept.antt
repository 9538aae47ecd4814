-- What is kept of an entry.
use Rattle.std.proofs.Common.{◌≡◌, List, subst}
use Rattle.vap_watch.specs.Logs.{IsPublished}
use Rattle.vap_watch.specs.declared.log.Logged.{Logged}
use Rattle.vap_audit.specs.Entries.{IsKept, IsRight}
use Rattle.vap_audit.specs.declared.entry.Entry.{Entry}

-- a right entry is kept, if its log is as it was published
pub kept_of : (e : Entry) (log : List Logged) → IsRight e → log ≡ e.log → IsPublished log → IsKept e
kept_of e log right same published = record { right = right; published = subst IsPublished same published }
