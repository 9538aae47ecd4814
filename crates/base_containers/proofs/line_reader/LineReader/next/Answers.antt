use Rattle.std.proofs.Common.{Some, rules}
use Rattle.base_containers.proofs.Splits.{is_first}
use Rattle.base_containers.proofs.Taken.{handed, handed_plain}
use Rattle.base_containers.specs.declared.lines.Ending.TheVariants.{End}
use Rattle.base_containers.proofs.line_reader.LineReader.next.Goals as goal

pub returns-in-Some-clause-whole : goal.returns-in-Some-clause-whole
returns-in-Some-clause-whole g c =
    let hands = rw c.in-Some.is at c.in_ok-ending.ensures.hands in
    handed (Some c.in-Some.ending) _ _ _ _ _ _ c.loop-ending.invariant.taken hands

pub returns-in-Some-clause-first : goal.returns-in-Some-clause-first
returns-in-Some-clause-first g c =
    let hands = rw c.in-Some.is at c.in_ok-ending.ensures.hands in
    is_first c.in-Some.ending _ _ _ (handed_plain (Some c.in-Some.ending) _ _ _ _ c.loop-ending.invariant.plain hands)
    (handed (Some c.in-Some.ending) _ _ _ _ _ _ c.loop-ending.invariant.taken hands)

pub returns-then-count-eq0-clause-first : goal.returns-then-count-eq0-clause-first
returns-then-count-eq0-clause-first g c =
    is_first End _ _ _ (handed_plain c.in_ok-ending.field-0 _ _ _ _ c.loop-ending.invariant.plain c.in_ok-ending.ensures.hands)
    (search rules)

pub returns-then-count-eq0-clause-no_failure : goal.returns-then-count-eq0-clause-no_failure
returns-then-count-eq0-clause-no_failure g c = search rules

pub returns-then-count-eq0-clause-whole : goal.returns-then-count-eq0-clause-whole
returns-then-count-eq0-clause-whole g c = search rules

pub returns-then-self-eq0-clause-whole : goal.returns-then-self-eq0-clause-whole
returns-then-self-eq0-clause-whole g c = search rules

pub returns-then-self-eq0-clause-first : goal.returns-then-self-eq0-clause-first
returns-then-self-eq0-clause-first g c = search rules
