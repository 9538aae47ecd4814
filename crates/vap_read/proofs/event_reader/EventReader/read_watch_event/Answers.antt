use Rattle.serde_json.specs.View.{view}
use Rattle.vap_read.specs.declared.line.LineKind.TheVariants.{WatchEvent}
use Rattle.vap_read.proofs.LeastEventFault.{told_of_kind}
use Rattle.vap_read.proofs.event_reader.EventReader.read_watch_event.Goals as goal

pub returns-clause-told : goal.returns-clause-told
returns-clause-told c = told_of_kind WatchEvent (view c.args.line) c.watched.result c.watched.ensures
