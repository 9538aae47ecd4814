use Rattle.std.proofs.Common.{sym, ◌∙◌, subst}
use Rattle.json.proofs.Found.{Some_inj}
use Rattle.serde_json.specs.Data.{Data}
use Rattle.serde_json.specs.View.{view}
use Rattle.base_containers.specs.Failures.{Answers}
use Rattle.vap_read.specs.Reading.{read_line}
use Rattle.vap_read.specs.declared.line.LineKind.TheVariants as kind
use Rattle.vap_cli_lines.proofs.line.list_event.Goals as goal

pub returns : goal.returns
returns c = λ d is.
    subst (λ (x : Data). Answers (read_line kind.ObjectList x) c.read_list.result)
    (Some_inj (view c.in_ok-json.json) d (sym c.in_ok-json.ensures ∙ is)) c.read_list.ensures.exact
