use Rattle.std.proofs.Common.{[], ◌∷◌, ap, ap₂, sym, ◌∙◌}
use Rattle.vap_read_objects.specs.ByName.{by_name}
use Rattle.vap_read_objects.specs.Listed.{object_named}
use Rattle.vap_read_objects.proofs.Alone.{definitions_alone}
use Rattle.vap_read_objects.proofs.Gathering.{all_read, reads_next}
use Rattle.vap_read_objects.proofs.lists.definitions_in.Goals as goal

pub loop-key-preserved : goal.loop-key-preserved
loop-key-preserved c = record {
  can_next = tt;
  is_finite = tt;
  gathered =
      reads_next object_named _ _ _ _ _ _ _ c.in_ok-put_named.ensures
      (ap₂ (λ name o. record { key = name; value = o } ∷ []) c.in_ok-copy.ensures
      c.in_ok-share.ensures) c.in-Some.ensures.steps c.loop-key.invariant.gathered;
}

pub returns : goal.returns
returns c =
    c.from_vec.ensures
    ∙ all_read object_named _ _ _ c.in-None.ensures.steps.0 c.loop-key.invariant.gathered
    ∙ ap by_name (sym (definitions_alone c.args.objects.now))
