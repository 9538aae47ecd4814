use Rattle.std.proofs.Common.{ap, sym, ◌∙◌}
use Rattle.vap_read_objects.specs.ByName.{by_name}
use Rattle.vap_read_objects.specs.Listed.{policy_by, policy_read}
use Rattle.vap_read_objects.proofs.Alone.{policies_alone}
use Rattle.vap_read_objects.proofs.Gathering.{all_read, reads_next}
use Rattle.vap_read_objects.proofs.lists.policies_in.Goals as goal

pub loop-key-preserved : goal.loop-key-preserved
loop-key-preserved c = record {
  can_next = tt;
  is_finite = tt;
  gathered =
      reads_next policy_read _ _ _ _ _ _ _ c.in_ok-add_policy.ensures
      (ap (λ o. policy_by c.in-Some.key.now.name o.content) c.get.ensures) c.in-Some.ensures.steps c.loop-key.invariant.gathered;
}

pub returns : goal.returns
returns c =
    c.from_vec.ensures
    ∙ all_read policy_read _ _ _ c.in-None.ensures.steps.0 c.loop-key.invariant.gathered
    ∙ ap by_name (sym (policies_alone c.args.objects.now))
