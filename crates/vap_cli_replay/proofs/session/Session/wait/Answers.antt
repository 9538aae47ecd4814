use Rattle.std.proofs.Common.{◌≡◌, ◌<◌, length, refl, rules}
use Rattle.vap_audit.specs.Entries.{most_entries}
use Rattle.vap_cli_replay.specs.Sessions.{sofar_of}
use Rattle.vap_cli_replay.proofs.Arms.{entries_length, waits_last, waits_room}
use Rattle.vap_cli_replay.proofs.session.Session.wait.Goals as goal

pub returns-clause-taken : goal.returns-clause-taken
returns-clause-taken c =
    let room : length (sofar_of c.args.self.now).entries < most_entries = rw (entries_length c.args.self.now) c.requires.room in
    waits_last c.args.request c.args.self.now _ room refl refl refl c.in_ok-push.ensures.items

pub returns-clause-room : goal.returns-clause-room
returns-clause-room c =
    let count : c.len.result ≡ length c.args.self.now.group.items = search rules in
    waits_room c.args.self.now _ c.args.request c.args.answer c.len.result c.requires.step c.requires.room refl refl count
    c.in_ok-push.ensures.items c.requires.right c.in_ok-keep.ensures
