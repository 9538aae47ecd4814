use Rattle.std.proofs.Common.{sym, ◌∙◌}
use Rattle.cel_value.proofs.Bounds.{weight_of-le}
use Rattle.cel_value.proofs.Lengths.{length_of-le}
use Rattle.cel_value.proofs.Objects.{decides_objects}
use Rattle.cel_value.proofs.membership.fits.Goals as goal

pub returns-clause-bounded : goal.returns-clause-bounded
returns-clause-bounded c = λ h. (weight_of-le c.args.cel_type.now).1 c.args.value.now (sym c.admits.ensures ∙ h)

pub returns-clause-objects : goal.returns-clause-objects
returns-clause-objects c =
    decides_objects c.args.value.now c.args.cel_type.now _ c.has_entries_in_order.ensures c.has_fields_in_order.ensures c.admits.ensures

pub returns-clause-no_longer : goal.returns-clause-no_longer
returns-clause-no_longer c = λ h. length_of-le c.args.cel_type.now c.args.value.now (sym c.admits.ensures ∙ h)
