use Rattle.std.proofs.Common.{Some, ap, sym, ◌∙◌}
use Rattle.std.proofs.lemmas.Result.{err_from_is_err_and}
use Rattle.vap_read.specs.declared.policy.PolicySpec.{PolicySpec}
use Rattle.vap_policy_set.specs.Sets.{is_looked_at}
use Rattle.vap_policy_set.proofs.compiling.Compiling.pairs_of.Goals as goal

-- at the kind where the loop is
pub returns-in_err-kind_pair-clause-unverified : goal.returns-in_err-kind_pair-clause-unverified
returns-in_err-kind_pair-clause-unverified c = λ at is.
    let p = err_from_is_err_and c.from_residual.result c.from_residual.ensures.1 in
    let q = p.1 in
    let r = p.2 in
    record {
      kind = Some c.kind-item.result;
      looked_at = (
        (c.loop-kind.kind-index, c.loop-kind-test.true, sym c.kind-item.is),
        ap (λ (p : PolicySpec). is_looked_at p c.kind-item.result) (sym c.get.ensures) ∙ sym c.is_looked_at.ensures
            ∙ c.if-is_looked_at.true,
      );
      at = at;
      is = c.in_err-kind_pair.ensures.unverified at (cc);
    }
