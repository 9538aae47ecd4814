use Rattle.std.proofs.Common.{◌≡◌, ◌≢◌, ◌<◌, ◌≤◌, ◌+◌, length, refl}
use Rattle.base_containers.specs.declared.lines.Ending.TheVariants.{End, TooLong as TooLongOf}
use Rattle.vap_cli_replay.specs.Moves.{Advances}
use Rattle.vap_cli_lines.specs.declared.fault.LineFault.TheVariants.{TooLong}
use Rattle.vap_cli_replay.proofs.Next.{never_taken, one_counted, one_each, one_refused}
use Rattle.vap_cli_replay.specs.Moves.{IsReadAs}
use Rattle.vap_cli_lines.specs.declared.line.Line.{Line}
use Rattle.vap_cli_lines.specs.declared.line.Line.TheVariants.{Happens, Asks, Refused}
use Rattle.vap_cli_replay.proofs.Taking.{one_line}
use Rattle.vap_cli_replay.proofs.Unjudged.{plain_read, read_as, unjudged_as, unpublished_as}
use Rattle.vap_cli_replay.proofs.stream.take_bytes.Goals as goal

pub returns-in-TooLong-clause-taken : goal.returns-in-TooLong-clause-taken
returns-in-TooLong-clause-taken g c =
    never_taken c.take.result TooLong c.args.session.now c.take.new.self
    (Advances c.args.line.ending c.args.buffer.now c.args.session.now c.take.new.self) c.take.ensures.taken

pub returns-in-TooLong-clause-ended : goal.returns-in-TooLong-clause-ended
returns-in-TooLong-clause-ended g c =
    never_taken c.take.result TooLong c.args.session.now c.take.new.self (c.args.line.ending ≢ TooLongOf) c.take.ensures.taken

pub returns-in-TooLong-clause-lines : goal.returns-in-TooLong-clause-lines
returns-in-TooLong-clause-lines g c =
    never_taken c.take.result TooLong c.args.session.now c.take.new.self (c.take.new.self.lines ≤ c.args.session.now.lines + 1)
    c.take.ensures.taken

pub returns-in-TooLong-clause-refused : goal.returns-in-TooLong-clause-refused
returns-in-TooLong-clause-refused g c =
    λ number why is told.
    rw c.in-TooLong.is (record { one = refl; line = Refused TooLong; read = refl; refused = c.take.ensures.refused number why is told })

pub returns-in_ok-read-in-Feed-clause-taken :
    goal.returns-in_ok-read-in-Feed-clause-taken
returns-in_ok-read-in-Feed-clause-taken g c =
    let bytes = c.args.buffer.now in
    let some : c.args.line.ending ≡ End → 0 < length bytes = λ e. cc in
    let short : c.args.line.ending ≢ TooLongOf = λ e. cc in
    one_each c.take-in-Feed.result c.args.line.ending bytes c.in_ok-read-in-Feed.read.line c.args.session.now
    c.take-in-Feed.new.self some short c.in_ok-read-in-Feed.ensures.line c.take-in-Feed.ensures.taken
    c.take-in-Feed.ensures.waiting

pub returns-in_ok-read-in-Feed-clause-lines :
    goal.returns-in_ok-read-in-Feed-clause-lines
returns-in_ok-read-in-Feed-clause-lines g c =
    one_counted c.take-in-Feed.result c.in_ok-read-in-Feed.read.line c.args.session.now c.take-in-Feed.new.self
    c.take-in-Feed.ensures.taken

pub returns-in_ok-read-in-Feed-clause-refused :
    goal.returns-in_ok-read-in-Feed-clause-refused
returns-in_ok-read-in-Feed-clause-refused g c =
    let bytes = c.args.buffer.now in
    let some : c.args.line.ending ≡ End → 0 < length bytes = λ e. cc in
    let short : c.args.line.ending ≢ TooLongOf = λ e. cc in
    λ number why is told.
    one_refused g.W.Write.contents c.args.line.ending bytes c.in_ok-read-in-Feed.read.line c.args.session.now
    c.args.output.now c.take-in-Feed.new.out number why some short c.in_ok-read-in-Feed.ensures.line
    (c.take-in-Feed.ensures.refused number why is told)

pub returns-in-End-clause-refused : goal.returns-in-End-clause-refused
returns-in-End-clause-refused g c = λ number why is told. rw c.in-End.is (c.take_last.ensures.refused number why is told)

pub returns-in-TooLong-clause-pattern : goal.returns-in-TooLong-clause-pattern
returns-in-TooLong-clause-pattern g c =
    λ number told.
    unjudged_as (λ (l : Line). Refused TooLong ≡ l) (IsReadAs c.args.line.ending c.args.buffer.now) c.args.session.now
    c.args.output.now c.take.new.out number (λ request is. cc) (c.take.ensures.pattern number told refl)

pub returns-in-TooLong-clause-unverified : goal.returns-in-TooLong-clause-unverified
returns-in-TooLong-clause-unverified g c =
    λ number told.
    unpublished_as g.W.Write.contents (λ (l : Line). Refused TooLong ≡ l) (IsReadAs c.args.line.ending c.args.buffer.now)
    c.args.session.now c.args.output.now c.take.new.out number (λ event is. cc) (c.take.ensures.unverified number told refl)

pub returns-in_ok-read-in-Feed-clause-pattern : goal.returns-in_ok-read-in-Feed-clause-pattern
returns-in_ok-read-in-Feed-clause-pattern g c =
    let bytes = c.args.buffer.now in
    let some : c.args.line.ending ≡ End → 0 < length bytes = λ e. cc in
    let short : c.args.line.ending ≢ TooLongOf = λ e. cc in
    let line = c.in_ok-read-in-Feed.read.line in
    let read = c.in_ok-read-in-Feed.ensures.line in
    λ number told.
    unjudged_as (λ (l : Line). line ≡ l) (IsReadAs c.args.line.ending bytes) c.args.session.now c.args.output.now
    c.take-in-Feed.new.out number
    (λ request is.
    read_as c.args.line.ending bytes line (Asks request) (one_line c.args.line.ending bytes some) short read is)
    (c.take-in-Feed.ensures.pattern number told (plain_read bytes line read))

pub returns-in_ok-read-in-Feed-clause-unverified : goal.returns-in_ok-read-in-Feed-clause-unverified
returns-in_ok-read-in-Feed-clause-unverified g c =
    let bytes = c.args.buffer.now in
    let some : c.args.line.ending ≡ End → 0 < length bytes = λ e. cc in
    let short : c.args.line.ending ≢ TooLongOf = λ e. cc in
    let line = c.in_ok-read-in-Feed.read.line in
    let read = c.in_ok-read-in-Feed.ensures.line in
    λ number told.
    unpublished_as g.W.Write.contents (λ (l : Line). line ≡ l) (IsReadAs c.args.line.ending bytes) c.args.session.now
    c.args.output.now c.take-in-Feed.new.out number
    (λ event is.
    read_as c.args.line.ending bytes line (Happens event) (one_line c.args.line.ending bytes some) short read is)
    (c.take-in-Feed.ensures.unverified number told (plain_read bytes line read))

pub returns-in-End-clause-pattern : goal.returns-in-End-clause-pattern
returns-in-End-clause-pattern g c = λ number told. rw c.in-End.is (c.take_last.ensures.pattern number told)

pub returns-in-End-clause-unverified : goal.returns-in-End-clause-unverified
returns-in-End-clause-unverified g c = λ number told. rw c.in-End.is (c.take_last.ensures.unverified number told)
