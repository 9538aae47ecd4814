use Rattle.std.proofs.Common.{◌≡◌, IfOk, sym, ap, ◌∙◌, subst}
use Rattle.vap_read_objects.specs.Fitted.{Fitted}
use Rattle.vap_read_objects.specs.Reuse.{is_untouched}
use Rattle.vap_read_objects.proofs.Reused.{same_again}
use Rattle.vap_read_objects.proofs.after.kind_params_after.Goals as goal

pub returns-then-is_missed : goal.returns-then-is_missed
returns-then-is_missed c =
    let events = c.args.events.now in
    let old = c.args.old.now in
    let missed = ap (is_untouched events) (sym c.get.ensures) ∙ sym c.is_missed.ensures ∙ c.if-is_missed.true in
    subst (λ (q : Fitted). IfOk c.share.result (λ params. params ≡ q)) (same_again c.args.objects.now events old c.requires missed)
    c.share.ensures
