use Rattle.vap_cli_replay.proofs.Tellings.{not_of_lines}
use Rattle.vap_cli_replay.proofs.session.Session.decide_group.Goals as goal

-- no fault of a group is one of the lines
pub returns-else-is_judged-clause-lines : goal.returns-else-is_judged-clause-lines
returns-else-is_judged-clause-lines g c =
    λ number why told. not_of_lines why (c.judge_group.ensures.pattern number why told).fault
