use Rattle.std.proofs.Common.{arith, rules}
use Rattle.std.proofs.lemmas.Grind.{common_steps}
use Rattle.cel_value.specs.declared.cel_type.CelType.{the_lemmas}
use Rattle.cel_value.proofs.Joins.{join-Never, join-Nullable-Null, join-bare-Null, join-bare-bare, join_same_kind-Object}
use Rattle.cel_value.proofs.common_types.+join_types.Goals as goal

pub join_types-returns-in_ok-copy-in-Never-right-2 : goal.join_types-returns-in_ok-copy-in-Never-right-2
join_types-returns-in_ok-copy-in-Never-right-2 t c = grind (arith, join-Never c.args.left.now)

pub join_types-returns-in_ok-copy-in-Null-right-2 : goal.join_types-returns-in_ok-copy-in-Null-right-2
join_types-returns-in_ok-copy-in-Null-right-2 t c = grind (arith, join-Nullable-Null c.in-Nullable.inner)

pub join_bare-returns-in_ok-own-in-Never : goal.join_bare-returns-in_ok-own-in-Never
join_bare-returns-in_ok-own-in-Never t c =
    let inside = c.innermost-inside.ensures.inside c.args.left.now c.requires in
    grind (arith, inside, join-Never c.args.left.now)

pub join_bare-returns-in_ok-joined-in-Null : goal.join_bare-returns-in_ok-joined-in-Null
join_bare-returns-in_ok-joined-in-Null t c =
    let inside = c.innermost-inside.ensures.inside c.args.left.now c.requires in
    grind (arith, inside, join-bare-Null c.args.left.now c.requires)

pub join_bare-returns-in_ok-joined-in_default : goal.join_bare-returns-in_ok-joined-in_default
join_bare-returns-in_ok-joined-in_default t c =
    let inside = c.innermost-inside.ensures.inside c.args.left.now c.requires in
    grind (
      arith,
      inside,
      join-bare-bare c.args.left.now c.innermost-inside.result.now c.requires
          (c.in_default.not-Never, c.in_default.not-Null, c.innermost-inside.ensures.bare),
    )

pub join_kinds-returns-in-Object-right : goal.join_kinds-returns-in-Object-right
join_kinds-returns-in-Object-right t c = grind (arith, join_same_kind-Object c.in-Object.fields c.in-Object-right.others)

pub join_kinds-returns-in-Text-right : goal.join_kinds-returns-in-Text-right
join_kinds-returns-in-Text-right t c = search (rules, the_lemmas)

pub join_fields-loop-field-preserved : goal.join_fields-loop-field-preserved
join_fields-loop-field-preserved t c = grind (arith, common_steps)

pub join_list-returns-after-plain : goal.join_list-returns-after-plain
join_list-returns-after-plain t c = search (rules, the_lemmas)
