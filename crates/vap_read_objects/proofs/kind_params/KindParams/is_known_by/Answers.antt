use Rattle.std.proofs.Common.{sym, ap, ◌∙◌}
use Rattle.std.specs.Option.{option_copied}
use Rattle.vap_read_objects.specs.Fitted.{Fitted}
use Rattle.vap_read_objects.specs.Naming.{kind_of_params}
use Rattle.vap_read_objects.proofs.ParamTable.{known_by}
use Rattle.vap_read_objects.proofs.kind_params.KindParams.is_known_by.Goals as goal

pub returns-in-Some : goal.returns-in-Some
returns-in-Some c = λ yes.
    known_by c.args.kinds.now c.args.self.now c.in-Some.known.now
    (
    ap (λ (q : Fitted). kind_of_params c.args.kinds.now q.kind) (sym c.self.view_is)
    ∙ sym c.kind_of_params.ensures
    ∙ ap option_copied c.in-Some.is
    )
    (c.is_fitted_to.ensures yes)
