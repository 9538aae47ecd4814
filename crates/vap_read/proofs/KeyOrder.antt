-- The order of keys.
use Rattle.std.specs.Cmp.{IsTotalOrder}
use Rattle.std.proofs.lemmas.Cmp.{nat_list_cmp_total, on_total, then_total}
use Rattle.vap_read.specs.Keys.{key_cmp}

-- any two keys compare, and in one way
pub key_total : IsTotalOrder key_cmp
key_total =
    then_total (on_total (λ k. k.api_version) nat_list_cmp_total)
    (then_total (on_total (λ k. k.kind) nat_list_cmp_total)
    (then_total (on_total (λ k. k.namespace) nat_list_cmp_total) (on_total (λ k. k.name) nat_list_cmp_total)))
