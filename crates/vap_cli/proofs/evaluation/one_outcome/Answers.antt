use Rattle.vap_cli.specs.Evaluation.{source_of}
use Rattle.vap_cli.proofs.Outcomes.{one_value, never_refused}
use Rattle.vap_cli.proofs.evaluation.one_outcome.Goals as goal

pub returns : goal.returns
returns c = record {
  outcomes = λ choice text x y. one_value (source_of choice text) x y;
  refused = λ choice text x why. never_refused (source_of choice text) x why;
}
