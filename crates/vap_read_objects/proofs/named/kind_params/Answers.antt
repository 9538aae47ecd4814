use Rattle.std.proofs.Common.{Some, ap, sym, subst, ◌∙◌}
use Rattle.std.specs.Option.{option_copied}
use Rattle.std.proofs.lemmas.List.Elements.{recursion_from_All}
use Rattle.vap_read_objects.specs.Fitted.{Fitted}
use Rattle.vap_read_objects.specs.Reuse.{AreRefitted, IsKnownBy}
use Rattle.vap_read_objects.proofs.ParamTable.{found_kept, kept_theirs}
use Rattle.vap_read_objects.proofs.named.kind_params.Goals as goal

pub returns-in_ok-share-in-Some : goal.returns-in_ok-share-in-Some
returns-in_ok-share-in-Some c =
    let kinds = c.args.kinds.now in
    let objects = c.args.objects.now in
    let kept = c.args.kept.now in
    let q = c.in-Some.params.now in
    let found = sym c.find_params.ensures ∙ ap option_copied c.in-Some.is in
    let known = subst (IsKnownBy kinds) c.get.ensures (c.is_known_by.ensures c.if-is_known_by.true) in
    ap (λ (q : Fitted). Some q) c.in_ok-share-in-Some.ensures
    ∙ kept_theirs kinds objects c.args.kind.now q
    (found_kept objects c.args.kind.now kept (recursion_from_All (AreRefitted objects) kept c.requires) q found) known
