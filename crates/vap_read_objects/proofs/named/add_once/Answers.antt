use Rattle.std.proofs.Common.{List, [], ◌∷◌, ◌++◌, ap, sym, subst, ◌∙◌}
use Rattle.std.specs.List.{list_any}
use Rattle.vap_read.specs.declared.policy.ParamKind.{ParamKind}
use Rattle.vap_read_objects.specs.Fitted.{Adds, is_same_kind}
use Rattle.vap_read_objects.proofs.Once.{one_more, there_already}
use Rattle.vap_read_objects.proofs.named.add_once.Goals as goal

pub returns-then-is_among : goal.returns-then-is_among
returns-then-is_among c =
    let k = c.args.kind.now in
    there_already c.args.kinds.now.items k
    (ap (list_any (is_same_kind k)) (sym c.as_slice.ensures.value) ∙ sym c.is_among.ensures ∙ c.if-is_among.true)

pub returns : goal.returns
returns c =
    let k = c.args.kind.now in
    let old = c.args.kinds.now.items in
    subst (λ (ks : List ParamKind). Adds (k ∷ []) old ks)
    (sym (c.in_ok-push.ensures.items ∙ ap (λ (x : ParamKind). old ++ x ∷ []) c.in_ok-copied.ensures))
    (
    one_more old k
    (ap (list_any (is_same_kind k)) (sym c.as_slice.ensures.value) ∙ sym c.is_among.ensures ∙ c.if-is_among.false)
    )
