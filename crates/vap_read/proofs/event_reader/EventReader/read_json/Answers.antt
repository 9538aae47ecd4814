use Rattle.std.proofs.Common.{◌≡◌, ◌∙◌, ap, sym, subst}
use Rattle.std.specs.Prelude.{IfErr}
use Rattle.serde_json.specs.View.{view}
use Rattle.base_containers.specs.Failures.{IfFault}
use Rattle.vap_read.specs.Lines.{line_kind}
use Rattle.vap_read.specs.Told.{IsOfLine}
use Rattle.vap_read.specs.declared.line.LineKind.TheVariants.{WatchEvent, ObjectList}
use Rattle.vap_read.proofs.event_reader.EventReader.read_json.Goals as goal

pub returns-in-WatchEvent-clause-told : goal.returns-in-WatchEvent-clause-told
returns-in-WatchEvent-clause-told c =
    let told = c.line_kind-kind.ensures ∙ ap line_kind c.of_tree.ensures in
    let kind : line_kind (view c.args.line) ≡ WatchEvent = sym told ∙ c.in-WatchEvent.is in
    subst (λ k. IfErr c.read_watch_event.result (IfFault (λ fault. IsOfLine k (view c.args.line) fault))) (sym kind)
    c.read_watch_event.ensures.told

pub returns-in-ObjectList-clause-told : goal.returns-in-ObjectList-clause-told
returns-in-ObjectList-clause-told c =
    let told = c.line_kind-kind.ensures ∙ ap line_kind c.of_tree.ensures in
    let kind : line_kind (view c.args.line) ≡ ObjectList = sym told ∙ c.in-ObjectList.is in
    subst (λ k. IfErr c.read_list.result (IfFault (λ fault. IsOfLine k (view c.args.line) fault))) (sym kind) c.read_list.ensures.told
