use Rattle.std.proofs.Common.{subst}
use Rattle.base_containers.specs.Failures.{Answers}
use Rattle.cel_verify.proofs.Mapping.{entries_typed}
use Rattle.cel_verify.proofs.map_rule.entries_type.Goals as goal

pub returns : goal.returns
returns c =
    subst (λ want. Answers want c.map_type.result)
    (entries_typed c.args.entries.now c.key_limit.result c.in_ok-joined.joined c.key_limit.ensures c.in_ok-joined.ensures)
    c.map_type.ensures
