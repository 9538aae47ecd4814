use Rattle.std.proofs.Common.{◌++◌, append-nil, ap, sym, ◌∙◌}
use Rattle.std.specs.Map.{values_of}
use Rattle.vap_read_objects.proofs.Staying.{of_kind_entries}
use Rattle.vap_read_objects.proofs.of_kind.objects_of_kind.Goals as goal

pub returns : goal.returns
returns c =
    c.from_vec.ensures
    ∙ sym (append-nil c.loop-object.found.items)
    ∙ ap (λ es. c.loop-object.found.items ++ values_of es) (sym c.in-None.ensures.steps.0)
    ∙ c.loop-object.invariant.all
    ∙ sym (of_kind_entries c.args.api_version.now c.args.kind.now c.args.objects.now)
