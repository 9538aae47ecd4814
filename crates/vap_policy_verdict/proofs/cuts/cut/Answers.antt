use Rattle.std.proofs.Common.{rules, subst, sym, ◌∙◌}
use Rattle.vap_policy_verdict.specs.Cut.{IsLongestCut}
use Rattle.vap_policy_verdict.proofs.Floors.{cut_is, longest_at}
use Rattle.vap_policy_verdict.proofs.cuts.cut.Goals as goal

pub returns-clause-exact : goal.returns-clause-exact
returns-clause-exact c =
    let f = c.floor_char_boundary-end in
    c.split_at.ensures.front
    ∙ cut_is c.args.most f.result c.args.text.now f.ensures.bound f.ensures.boundary f.ensures.nearest

pub returns-clause-longest : goal.returns-clause-longest
returns-clause-longest c =
    let f = c.floor_char_boundary-end in
    subst (IsLongestCut c.args.most c.args.text.now) (sym c.split_at.ensures.front)
    (longest_at c.args.most f.result c.args.text.now f.ensures.bound f.ensures.boundary f.ensures.nearest)

pub split_at-requires : goal.split_at-requires
split_at-requires c = search rules
