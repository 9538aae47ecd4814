use Rattle.std.proofs.Common.{[], ◌∷◌, ◌≡◌, List, codes, nat_cmp, refl, subst, sym}
use Rattle.std.specs.Cmp.Lexicographic.{slice_cmp}
use Rattle.std.specs.List.Sorted.{IsStrictlySortedBy}
use Rattle.std.proofs.lemmas.Result.{on_ok_weaker}
use Rattle.base_containers.specs.Keys.{IsInKeyOrder}
use Rattle.base_containers.specs.declared.text.Keyed.{Keyed}
use Rattle.base_containers.proofs.Order.{rises_from-decides}
use Rattle.cel_value.specs.declared.value.Value as V
use Rattle.cel_value.specs.declared.value.Value.{Value}
use Rattle.vap_policy_programs.specs.RequestValue.{request_value}
use Rattle.vap_policy_programs.proofs.values.put_fields.Goals as goal

-- the names are in their order
ordered : IsStrictlySortedBy (slice_cmp nat_cmp) (
    codes "dryRun" ∷ codes "kind" ∷ codes "name" ∷ codes "namespace"
    ∷ codes "operation" ∷ codes "resource" ∷ codes "subResource" ∷ codes "userInfo" ∷ []
    )
ordered =
    (rises_from-decides (record { key = codes "dryRun"; value = V.Null }) (
    record { key = codes "kind"; value = V.Null }
    ∷ record { key = codes "name"; value = V.Null }
    ∷ record { key = codes "namespace"; value = V.Null }
    ∷ record { key = codes "operation"; value = V.Null }
    ∷ record { key = codes "resource"; value = V.Null }
    ∷ record { key = codes "subResource"; value = V.Null }
    ∷ record { key = codes "userInfo"; value = V.Null }
    ∷ []
    )).0 refl

pub returns-clause-ordered : goal.returns-clause-ordered
returns-clause-ordered c =
    on_ok_weaker c.put-4.result (λ is.
    subst (λ (fields : List (Keyed Value)). IsInKeyOrder fields) (sym is) (rw (
      c.in_ok-put_text-4.ensures,
      c.in_ok-put-3.ensures,
      c.in_ok-put_text-3.ensures,
      c.in_ok-put_text-2.ensures,
      c.in_ok-put_text.ensures,
      c.in_ok-put-2.ensures,
      c.in_ok-put.ensures,
      c.requires.none,
    ) ordered)
    ) c.put-4.ensures

pub returns-clause-is : goal.returns-clause-is
returns-clause-is c =
    on_ok_weaker c.put-4.result (λ is.
    subst (λ (fields : List (Keyed Value)). V.Object fields ≡ request_value c.args.request.now) (sym is) (rw (
      c.in_ok-put_text-4.ensures,
      c.in_ok-put-3.ensures,
      c.in_ok-put_text-3.ensures,
      c.in_ok-put_text-2.ensures,
      c.in_ok-put_text.ensures,
      c.in_ok-put-2.ensures,
      c.in_ok-put.ensures,
      c.requires.none,
      c.in_ok-kind_value.ensures,
      c.in_ok-resource_value.ensures,
      c.in_ok-user_value.ensures,
    ) refl)
    ) c.put-4.ensures
