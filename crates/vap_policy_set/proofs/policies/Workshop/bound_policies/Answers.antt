use Rattle.std.proofs.Common.{arith, get_or, length, map, ap, subst, sym, ◌∙◌}
use Rattle.std.specs.Option.{option_copied}
use Rattle.std.proofs.lemmas.List.{get_or-map, length-map}
use Rattle.vap_policy_set.specs.Still.{AreAt, AreBound}
use Rattle.vap_policy_set.specs.declared.choice.Choice.{Choice}
use Rattle.vap_policy_set.proofs.Olds.{old_length, old_stands, old_stands_at}
use Rattle.vap_policy_set.proofs.policies.Workshop.bound_policies.Goals as goal

pub index-requires : goal.index-requires
index-requires c =
    omega (
      arith,
      old_length c.args.self.now.kept.now.policies.now c.args.read.now.policies (map option_copied c.args.read.now.old.items)
          c.requires.old,
      length-map c.args.read.now.old.items option_copied,
      c.loop-at-test.true,
      ap length c.as_slice-policies.ensures,
    )

pub shared_of-requires : goal.shared_of-requires
shared_of-requires c =
    let all = c.args.self.now.kept.now.policies.now in
    let ps = c.args.read.now.policies in
    let os = c.args.read.now.old.items in
    let old = option_copied c.index.result.now in
    let kinds = c.args.self.now.kinds.now in
    let few = ap length c.as_slice-policies.ensures in
    let is = c.index-policies-at.is ∙ ap (λ qs. get_or qs c.loop-at.at c.index-policies-at.result) c.as_slice-policies.ensures in
    let there =
    ap option_copied c.index.ensures
    ∙ sym
    (get_or-map option_copied os c.loop-at.at c.index.result.now old
    (omega (arith, old_length all ps (map option_copied os) c.requires.old, length-map os option_copied, c.loop-at-test.true, few))) in
    record {
      stands = λ holds.
          let still = c.is_still_by-stands.ensures holds in
          old_stands all ps (map option_copied os) c.loop-at.at c.index-policies-at.result old c.args.choice.now kinds
          c.args.bindings.now c.requires.old (omega (arith, c.loop-at-test.true, few)) is there
          (subst (λ (d : Choice). AreBound d kinds c.args.bindings.now all) still.1 (c.requires.still still.0));
      at_kinds = λ holds.
          let still = c.is_still_at_kinds_by-stands_at_kinds.ensures holds in
          old_stands_at all ps (map option_copied os) c.loop-at.at c.index-policies-at.result old c.args.choice.now kinds
          c.args.bindings.now c.requires.old (omega (arith, c.loop-at-test.true, few)) is there
          (subst (λ (d : Choice). AreAt d kinds all) still.1 (c.requires.at_kinds still.0));
    }
