-- What closing a history answers.
use Rattle.std.specs.Prelude.{◌≡◌, ⊤, List, length, Result, Ok, Err}
use Rattle.std.specs.List.{All}
use Rattle.vap_watch.specs.declared.log.Logged.{Logged}
use Rattle.vap_audit.specs.declared.entry.Entry.{Entry}
use Rattle.vap_audit.specs.declared.history.Stray.{Stray}
use Rattle.vap_audit.specs.Entries.{AreRightIn, IsKept, IsStray}
use Rattle.vap_plane.specs.declared.closing.CloseError.{CloseError}
use Rattle.vap_plane.specs.declared.closing.CloseError.TheVariants as why
use Rattle.vap_plane.specs.declared.closing.Report.{Report}

-- each entry is right in the final log, and the report has the log's length and the number of entries; or an entry strays
abbrev pub Settles : List Entry → List Logged → Result Report Stray → Type 0
Settles history log (Ok report) = AreRightIn log history × (report.revision ≡ length log) × (report.entries ≡ length history)
Settles history log (Err stray) = IsStray history log stray.entry stray.at

-- what is answered if no worker is missing, or that a worker is missing
abbrev pub Closes : List Entry → List Logged → Result Report CloseError → Type 0
Closes history log (Ok report) = Settles history log (Ok report)
Closes history log (Err (why.Stray stray)) = Settles history log (Err stray)
Closes history log (Err why.Missing) = ⊤

-- there is a history for which this is answered, whose entries are kept as each was appended
pub record ClosesSome (log : List Logged) (result : Result Report CloseError) : Type 0 where
  pub history : List Entry
  pub kept : All IsKept history
  pub closed : Closes history log result
