use Rattle.std.proofs.Common.{◌≡◌, ◌≢◌, ◌<◌, length, arith, refl}
use Rattle.std.proofs.lemmas.Grind.{common_steps}
use Rattle.base_containers.specs.declared.lines.Ending.TheVariants.{End, TooLong}
use Rattle.vap_cli_replay.proofs.Next.{one_counted, one_each, one_refused}
use Rattle.vap_cli_replay.specs.Moves.{IsReadAs}
use Rattle.vap_cli_lines.specs.declared.line.Line.{Line}
use Rattle.vap_cli_lines.specs.declared.line.Line.TheVariants.{Happens, Asks}
use Rattle.vap_cli_replay.proofs.Taking.{none_taken, one_line}
use Rattle.vap_cli_replay.proofs.Unjudged.{plain_read, read_as, unjudged_as, unpublished_as}
use Rattle.vap_cli_replay.proofs.stream.take_last.Goals as goal

pub returns-clause-taken : goal.returns-clause-taken
returns-clause-taken g c =
    let bytes = c.args.buffer.now in
    let some : 0 < length bytes = grind (arith, common_steps) in
    let short : End ≢ TooLong = λ e. cc in
    one_each c.take.result End bytes c.in_ok-read.read.line c.args.session.now c.take.new.self (λ e. some) short
    c.in_ok-read.ensures.line c.take.ensures.taken c.take.ensures.waiting

pub returns-clause-lines : goal.returns-clause-lines
returns-clause-lines g c =
    one_counted c.take.result c.in_ok-read.read.line c.args.session.now c.take.new.self c.take.ensures.taken

pub returns-clause-refused : goal.returns-clause-refused
returns-clause-refused g c =
    let bytes = c.args.buffer.now in
    let some : 0 < length bytes = grind (arith, common_steps) in
    let short : End ≢ TooLong = λ e. cc in
    λ number why is told.
    one_refused g.W.Write.contents End bytes c.in_ok-read.read.line c.args.session.now c.args.output.now
    c.take.new.out number why (λ e. some) short c.in_ok-read.ensures.line (c.take.ensures.refused number why is told)

pub returns-clause-pattern : goal.returns-clause-pattern
returns-clause-pattern g c =
    let bytes = c.args.buffer.now in
    let some : 0 < length bytes = grind (arith, common_steps) in
    let short : End ≢ TooLong = λ e. cc in
    let line = c.in_ok-read.read.line in
    λ number told.
    unjudged_as (λ (l : Line). line ≡ l) (IsReadAs End bytes) c.args.session.now c.args.output.now c.take.new.out number
    (λ request is.
    read_as End bytes line (Asks request) (one_line End bytes (λ e. some)) short c.in_ok-read.ensures.line is)
    (c.take.ensures.pattern number told (plain_read bytes line c.in_ok-read.ensures.line))

pub returns-clause-unverified : goal.returns-clause-unverified
returns-clause-unverified g c =
    let bytes = c.args.buffer.now in
    let some : 0 < length bytes = grind (arith, common_steps) in
    let short : End ≢ TooLong = λ e. cc in
    let line = c.in_ok-read.read.line in
    λ number told.
    unpublished_as g.W.Write.contents (λ (l : Line). line ≡ l) (IsReadAs End bytes) c.args.session.now c.args.output.now
    c.take.new.out number
    (λ event is.
    read_as End bytes line (Happens event) (one_line End bytes (λ e. some)) short c.in_ok-read.ensures.line is)
    (c.take.ensures.unverified number told (plain_read bytes line c.in_ok-read.ensures.line))

pub returns-then-is_empty-clause-taken : goal.returns-then-is_empty-clause-taken
returns-then-is_empty-clause-taken g c =
    let bytes = c.args.buffer.now in
    let none : length bytes ≡ 0 = grind (arith, common_steps) in
    none_taken bytes c.args.session.now c.args.session.now none refl
