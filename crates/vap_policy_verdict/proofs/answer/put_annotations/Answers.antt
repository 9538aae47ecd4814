use Rattle.vap_policy_verdict.specs.AnswerText.{annotation_members}
use Rattle.vap_policy_verdict.proofs.answer.put_annotations.Goals as goal

pub returns-clause-ok : goal.returns-clause-ok
unfolding annotation_members
returns-clause-ok c = c.put_annotation_member.ensures.ok
