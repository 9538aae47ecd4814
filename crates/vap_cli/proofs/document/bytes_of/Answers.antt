use Rattle.std.proofs.Common.{◌++◌, take, ap, ◌∙◌, rules}
use Rattle.vap_cli.proofs.Taken.{taken_none, taken_more, taken_no_more, whole_buffer}
use Rattle.vap_cli.proofs.document.bytes_of.Goals as goal

pub loop-file-init : goal.loop-file-init
loop-file-init g c = record { taken = taken_none _ _ (search rules); counts = search rules; room = search rules }

pub loop-file-preserved : goal.loop-file-preserved
loop-file-preserved g c = record {
  taken = taken_more _ _ _ _ _ _ c.loop-file.invariant.taken c.in-Ok.ensures.bytes.0
      (c.in_ok-extend_from_slice-in-Ok.ensures.items
      ∙ ap (λ l. c.loop-file.bytes.items ++ take c.in-Ok.count l) (c.deref.ensures.value ∙ whole_buffer _ _ _ (search rules)));
  counts = search rules;
  room = search rules;
}

pub returns-in-Ok-eq0-clause-taken : goal.returns-in-Ok-eq0-clause-taken
returns-in-Ok-eq0-clause-taken g c =
    taken_no_more _ _ _ _ c.loop-file.invariant.taken (rw c.in-Ok-eq0.field-0-test at c.in-Ok-eq0.ensures.bytes.0)
