use Rattle.std.proofs.Common.{sym, ap, subst, ◌∙◌}
use Rattle.serde_json.specs.View.{view, items_view}
use Rattle.serde_json.proofs.Views.{view-Array}
use Rattle.base_containers.specs.Failures.{Answers}
use Rattle.vap_read.specs.Reading.{read_list, read_all}
use Rattle.vap_read.proofs.watch_events.listed.Goals as goal

pub returns-in-Array : goal.returns-in-Array
returns-in-Array c =
    let seen = ap view c.in-Array.is ∙ view-Array c.in-Array.items in
    subst (λ d. Answers (read_list d) c.replaced.result) (sym seen)
    (c.replaced.ensures (read_all (items_view c.in-Array.items.items)) c.objects_of.ensures)
