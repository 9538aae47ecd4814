-- The order of a report.
use Rattle.std.specs.Cmp.{IsTotalOrder, IsStrictWeakOrder}
use Rattle.std.specs.Ordering.{is_lt}
use Rattle.std.proofs.lemmas.Cmp.{nat_list_cmp_total, on_total, then_total}
use Rattle.std.proofs.lemmas.List.MinMax.{ranks_by}
use Rattle.vap_policy_set.specs.Sets.{report_cmp}
use Rattle.vap_policy_set.specs.declared.report.Misconfigured.{Misconfigured}

report_total : IsTotalOrder report_cmp
report_total =
    then_total (on_total (λ m. m.policy) nat_list_cmp_total)
    (then_total (on_total (λ m. m.group) nat_list_cmp_total)
    (then_total (on_total (λ m. m.version) nat_list_cmp_total) (on_total (λ m. m.kind) nat_list_cmp_total)))

-- any two items compare, and in one way
pub report_ranks : IsStrictWeakOrder (λ (x y : Misconfigured). is_lt (report_cmp x y))
report_ranks = ranks_by report_total (λ (m : Misconfigured). m)
