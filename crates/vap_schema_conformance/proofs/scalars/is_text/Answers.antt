use Rattle.std.proofs.Common.{sym}
use Rattle.vap_schema_conformance.proofs.Simple.{text_is_value}
use Rattle.vap_schema_conformance.proofs.scalars.is_text.Goals as goal

pub returns-in-Some : goal.returns-in-Some
returns-in-Some c = λ short.
    text_is_value c.args.max c.args.document.now c.in-Some.text.now (sym c.in-Some.ensures) (c.has_at_most.ensures short)
