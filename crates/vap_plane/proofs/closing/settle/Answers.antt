use Rattle.std.proofs.Common.{List, length, ap, subst, ◌∙◌}
use Rattle.std.specs.List.{All}
use Rattle.vap_audit.specs.Entries.{BeginWith, IsKept}
use Rattle.vap_audit.specs.declared.entry.Entry.{Entry}
use Rattle.vap_plane.proofs.Closed.{right_in}
use Rattle.vap_plane.proofs.closing.settle.Goals as goal

pub returns-clause-settled : goal.returns-clause-settled
returns-clause-settled g c =
    let same = c.parts-history.ensures.0 in
    let kept = subst (λ (l : List Entry). All IsKept l) same c.len-entries.ensures.kept in
    let begins = subst (λ (l : List Entry). BeginWith (length l) l c.args.snapshot.now) same c.in_ok-check.ensures in
    (right_in c.args.kept.history c.args.snapshot.now kept begins, c.revision_of.ensures, c.len-entries.ensures.length ∙ ap length same)
