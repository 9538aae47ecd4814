use Rattle.serde_json.specs.View.{view}
use Rattle.vap_read.specs.Reading.{read_content}
use Rattle.vap_read.proofs.Keyed.{key_read, object_read}
use Rattle.vap_read.proofs.watch_events.object_of.Goals as goal

pub returns : goal.returns
returns c =
    let keyed = key_read (view c.args.json) c.in_ok-key.key c.in_ok-key.ensures in
    object_read (view c.args.json) c.object_with.result keyed.0
    (c.object_with.ensures keyed.1 (read_content (view c.args.json)) c.content_of.ensures)
