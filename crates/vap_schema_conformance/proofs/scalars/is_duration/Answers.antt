use Rattle.std.proofs.Common.{sym, ap, ◌∙◌, is_some}
use Rattle.vap_schema_conformance.proofs.Simple.{duration_is_value}
use Rattle.vap_schema_conformance.proofs.scalars.is_duration.Goals as goal

pub returns-in-Some : goal.returns-in-Some
returns-in-Some c = λ spelled.
    duration_is_value c.args.document.now c.in-Some.text.now (sym c.in-Some.ensures)
    (ap is_some (sym c.read_duration.ensures) ∙ sym c.is_some.ensures ∙ spelled)
