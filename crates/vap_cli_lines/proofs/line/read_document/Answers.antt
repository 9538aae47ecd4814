use Rattle.std.proofs.Common.{◌≡◌, IfOk, sym, ◌∙◌, subst}
use Rattle.vap_read.specs.declared.line.LineKind.{LineKind}
use Rattle.vap_cli_lines.specs.Lines.{line_by}
use Rattle.vap_cli_lines.proofs.line.read_document.Goals as goal

pub returns-in-WatchEvent : goal.returns-in-WatchEvent
returns-in-WatchEvent c =
    subst (λ (k : LineKind). IfOk c.event_line.result (λ line. line ≡ line_by k c.args.document.now))
    (sym c.in-WatchEvent.is ∙ c.line_kind.ensures)
    (c.event_line.ensures _ (c.watch_event.ensures c.args.document.now c.requires))

pub returns-in-ObjectList : goal.returns-in-ObjectList
returns-in-ObjectList c =
    subst (λ (k : LineKind). IfOk c.event_line-in-ObjectList.result (λ line. line ≡ line_by k c.args.document.now))
    (sym c.in-ObjectList.is ∙ c.line_kind.ensures)
    (c.event_line-in-ObjectList.ensures _ (c.list_event.ensures c.args.document.now c.requires))
