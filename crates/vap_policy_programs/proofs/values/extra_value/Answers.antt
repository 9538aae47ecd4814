use Rattle.std.proofs.Common.{sym, subst}
use Rattle.base_containers.specs.Keys.{IsInKeyOrder}
use Rattle.vap_policy_programs.proofs.EntryOrder.{stay_ordered}
use Rattle.vap_policy_programs.proofs.values.extra_value.Goals as goal

pub from_vec-requires : goal.from_vec-requires
from_vec-requires c =
    let ordered = subst (λ es. IsInKeyOrder es) (sym c.as_slice.ensures.entries) c.as_slice.ensures.ordered in
    subst (λ es. IsInKeyOrder es) (sym c.in_ok-entries.ensures) (stay_ordered _ ordered)
