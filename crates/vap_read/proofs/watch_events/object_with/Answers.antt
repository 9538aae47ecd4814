use Rattle.std.proofs.Common.{subst}
use Rattle.serde_json.specs.View.{view}
use Rattle.base_containers.specs.Failures.{Answers}
use Rattle.vap_read.proofs.Keyed.{content_fails}
use Rattle.vap_read.proofs.watch_events.object_with.Goals as goal

pub returns-in-Err : goal.returns-in-Err
returns-in-Err c = λ key want answers.
    content_fails (view c.args.json) want c.in-Err.error c.widened.result c.widened.ensures (subst (Answers want) c.in-Err.is answers)
