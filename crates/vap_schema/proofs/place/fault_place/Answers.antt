use Rattle.std.proofs.Common.{Some, None, rules}
use Rattle.serde_json.specs.View.{view}
use Rattle.vap_schema.proofs.Same.{document_fault}
use Rattle.vap_schema.proofs.place.fault_place.Goals as goal

pub returns-in-Some-clause-fault : goal.returns-in-Some-clause-fault
returns-in-Some-clause-fault c = document_fault (view c.args.schema.now) (Some c.turned.result) (search rules)

pub returns-in-None-clause-fault : goal.returns-in-None-clause-fault
returns-in-None-clause-fault c = document_fault (view c.args.schema.now) None (search rules)
