use Rattle.std.proofs.Common.{◌≡◌, List, ℕ, [], ◌∷◌, ◌++◌, ◌∙◌, sym, ap, subst, arith}
use Rattle.std.specs.Io.KnownBytes.{Consumes, prepend_known}
use Rattle.std.specs.Vec.Iter.{into_iter_items}
use Rattle.base_containers.proofs.Splits.{is_first}
use Rattle.base_containers.specs.Counted.{inner_of}
use Rattle.base_containers.specs.Lines.{IsFirst, IsLine, unread}
use Rattle.base_containers.specs.declared.lines.Ending.TheVariants.{Feed}
use Rattle.vap_watch.specs.Begins.{StartsWith}
use Rattle.vap_watch.specs.declared.log.Logged.{Logged}
use Rattle.vap_cli_lines.specs.LineQueues.{Ahead, Queued, text_of}
use Rattle.vap_cli_lines.proofs.LineQueues.{first_consumed, first_whole, none_left, rest_whole}
use Rattle.vap_cli_lines.proofs.line_queue.LineQueue.next.Goals as goal

pub invariant_of-self : goal.invariant_of-self
invariant_of-self g c =
    rest_whole c.self.inside.log c.in-Some.line (into_iter_items c.next.new.self) (into_iter_items c.self.inside.lines)
    (rw c.in-Some.is at c.next.ensures.items) c.self.invariant

pub put-read-requires : goal.put-read-requires
put-read-requires g c =
    let line = c.in-Some.line in
    let items : into_iter_items c.self.inside.lines ≡ line ∷ into_iter_items c.next.new.self = rw c.in-Some.is at c.next.ensures.items in
    let one = first_whole c.self.inside.log line (into_iter_items c.next.new.self) (into_iter_items c.self.inside.lines) items
    c.self.invariant in
    let here : line.log ≡ c.args.self.now.log = one.there ∙ ap (λ (q : Ahead). q.log) c.self.view_is in
    subst (λ (log : List Logged). StartsWith c.args.readers.now.snapshot.now log) (sym here) c.requires.log

pub returns-in-Some-clause-first : goal.returns-in-Some-clause-first
returns-in-Some-clause-first g c =
    let line = c.in-Some.line in
    let rest = into_iter_items c.next.new.self in
    let items : into_iter_items c.self.inside.lines ≡ line ∷ rest = rw c.in-Some.is at c.next.ensures.items in
    let pending = c.self.inside.reader.bytes in
    let known = g.R.Read.remaining (inner_of c.args.input.now) in
    let left = prepend_known (text_of rest ++ pending) known in
    let whole =
    subst (λ (lines : List Queued). Consumes (prepend_known (text_of lines ++ pending) known) left (line.bytes ++ 10 ∷ [])) (sym items)
    (first_consumed line.bytes (text_of rest) pending known) in
    let one = first_whole c.self.inside.log line rest (into_iter_items c.self.inside.lines) items c.self.invariant in
    subst (λ (bytes : List ℕ). IsFirst (unread g.R.Read.remaining c.args.input.now c.args.self.now.pending) left bytes Feed)
    (sym c.put-read.ensures.bytes)
    (
    subst (λ (q : Ahead). IsFirst (unread g.R.Read.remaining c.args.input.now q.pending) left line.bytes Feed) c.self.view_is
    (is_first Feed (prepend_known (text_of (into_iter_items c.self.inside.lines) ++ pending) known) left line.bytes one.plain whole)
    )

pub returns-clause-whole : goal.returns-clause-whole
returns-clause-whole g c =
    let steps = rw c.in_default.is at c.next.ensures.cases in
    let none : into_iter_items c.self.inside.lines ≡ [] =
    none_left (into_iter_items c.self.inside.lines) (omega (arith, steps.0, c.self.inside.lines.rest.ok.0)) in
    let known = g.R.Read.remaining (inner_of c.next-2.new.input) in
    let line = c.next-2.new.self in
    let ending = c.in_ok-ending.ending in
    let ahead : c.next-2.new.reader.bytes ≡ text_of (into_iter_items c.into_iter.result) ++ c.read_ahead-read.new.reader.bytes =
    c.in-Ok.ensures.lines.1
    ∙ ap (λ (lines : List Queued). text_of lines ++ c.read_ahead-read.new.reader.bytes) (sym c.into_iter.ensures.rest) in
    subst (λ (q : Ahead). IsLine (unread g.R.Read.remaining c.args.input.now q.pending)
    (prepend_known (text_of (into_iter_items c.into_iter.result) ++ c.read_ahead-read.new.reader.bytes) known) line ending) c.self.view_is
    (
    subst (λ (lines : List Queued). IsLine
    (prepend_known (text_of lines ++ c.self.inside.reader.bytes) (g.R.Read.remaining (inner_of c.args.input.now)))
    (prepend_known (text_of (into_iter_items c.into_iter.result) ++ c.read_ahead-read.new.reader.bytes) known) line ending) (sym none)
    (
    subst (λ (bytes : List ℕ).
    IsLine (unread g.R.Read.remaining c.args.input.now c.self.inside.reader) (prepend_known bytes known) line ending)
    ahead c.in_ok-ending.ensures.whole
    )
    )

-- no line waits, and none is read before its turn
pub returns-then-ne-clause-whole : goal.returns-then-ne-clause-whole
returns-then-ne-clause-whole g c =
    let steps = rw c.in_default.is at c.next.ensures.cases in
    let none : into_iter_items c.self.inside.lines ≡ [] =
    none_left (into_iter_items c.self.inside.lines) (omega (arith, steps.0, c.self.inside.lines.rest.ok.0)) in
    let same : into_iter_items c.self.inside.lines ≡ into_iter_items c.next.new.self = rw c.in_default.is at c.next.ensures.items in
    let before = g.R.Read.remaining (inner_of c.args.input.now) in
    let known = g.R.Read.remaining (inner_of c.next-2.new.input) in
    let line = c.next-2.new.self in
    let ending = c.in_ok-ending.ending in
    let left = c.next-2.new.reader.bytes in
    subst (λ (q : Ahead). IsLine (unread g.R.Read.remaining c.args.input.now q.pending)
    (prepend_known (text_of (into_iter_items c.next.new.self) ++ left) known) line ending) c.self.view_is
    (
    subst (λ (lines : List Queued). IsLine (prepend_known (text_of lines ++ c.self.inside.reader.bytes) before)
    (prepend_known (text_of (into_iter_items c.next.new.self) ++ left) known) line ending) (sym none)
    (
    subst (λ (lines : List Queued). IsLine (prepend_known c.self.inside.reader.bytes before)
    (prepend_known (text_of lines ++ left) known) line ending) (sym none ∙ same) c.in_ok-ending.ensures.whole
    )
    )
