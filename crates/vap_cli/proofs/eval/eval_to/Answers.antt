use Rattle.std.proofs.Common.{rules}
use Rattle.vap_cli.proofs.eval.eval_to.Goals as goal

pub returns-clause-told : goal.returns-clause-told
returns-clause-told g c = record {
  answer = c.in_ok-line.ensures.answer;
  answers = c.in_ok-line.ensures.answers;
  written = search rules;
  ended = c.in_ok-line.ensures.ended;
}

pub returns-clause-all_written : goal.returns-clause-all_written
returns-clause-all_written g c = search rules
