use Rattle.vap_policy_verdict.proofs.decision_failures.put_index.Goals as goal

pub returns-in-Some-clause-ok : goal.returns-in-Some-clause-ok
returns-in-Some-clause-ok c = rw c.in-Some.is c.put_number.ensures.ok
