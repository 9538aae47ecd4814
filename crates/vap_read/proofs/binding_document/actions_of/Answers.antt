use Rattle.std.proofs.Common.{◌≡◌, ◌∙◌, ap, refl}
use Rattle.std.specs.Prelude.{codes}
use Rattle.serde_json.specs.View.{view}
use Rattle.vap_read.specs.BindingForm.{names, actions_in}
use Rattle.vap_read.proofs.binding_document.actions_of.Goals as goal

pub returns : goal.returns
returns c =
    let actions = c.items_in-actions.ensures in
    let deny : c.names.result ≡ names (codes "Deny") (actions_in (view c.args.json.now)) =
    c.names.ensures ∙ ap (λ ds. names (codes "Deny") ds) actions in
    let warn : c.names-2.result ≡ names (codes "Warn") (actions_in (view c.args.json.now)) =
    c.names-2.ensures ∙ ap (λ ds. names (codes "Warn") ds) actions in
    let audit : c.names-3.result ≡ names (codes "Audit") (actions_in (view c.args.json.now)) =
    c.names-3.ensures ∙ ap (λ ds. names (codes "Audit") ds) actions in
    rw (deny, warn, audit) refl
