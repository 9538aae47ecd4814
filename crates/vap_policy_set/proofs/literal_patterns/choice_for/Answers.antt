use Rattle.std.proofs.Common.{ap, ◌∙◌}
use Rattle.vap_policy_set.specs.Parts.{refused_among}
use Rattle.vap_policy_set.specs.Patterns.{of_policies}
use Rattle.vap_policy_set.proofs.Asked.{chosen}
use Rattle.vap_policy_set.proofs.literal_patterns.choice_for.Goals as goal

pub returns : goal.returns
returns c =
    let texts = of_policies c.args.policies.now in
    chosen texts _ c.args.patterns.now c.requires.answered c.choice_of.ensures.honest
    (c.in_ok-new.ensures ∙ c.in_ok-own.ensures
    ∙ ap (refused_among texts) (c.as_slice.ensures ∙ c.get.ensures ∙ c.in_ok-all.ensures.refused))
