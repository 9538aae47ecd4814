-- Which rules may cover requests on a resource of a group.
use Rattle.std.specs.Prelude.{ℕ, Bool, true, ◌&&◌, ◌||◌, codes, List, [], ◌∷◌}
use Rattle.std.specs.List.{list_any}
use Rattle.vap_match.specs.Cover.{before_slash, is_word_or_any}
use Rattle.vap_match.specs.declared.rules.Rule.{Rule}
use Rattle.vap_read.specs.declared.policy.Policy.{Policy}

-- the rules of a policy
abbrev pub rules_of : Policy → List Rule
rules_of p = p.spec.match_constraints.resource_rules

-- a rule has this group and this resource, or the word for all in their place
unfoldable pub rule_may_cover : List ℕ → List ℕ → Rule → Bool
rule_may_cover group resource rule =
    list_any (is_word_or_any group) rule.api_groups
    && list_any (λ pattern. is_word_or_any resource (before_slash pattern)) rule.resources

-- one of these rules has; without any, all are covered
abbrev pub rules_may_cover : List ℕ → List ℕ → List Rule → Bool
rules_may_cover group resource [] = true
rules_may_cover group resource (rule ∷ rules) = list_any (rule_may_cover group resource) (rule ∷ rules)

-- a rule has the word for all among its groups, or before a slash among its resources
unfoldable pub rule_is_wide : Rule → Bool
rule_is_wide rule =
    list_any (is_word_or_any (codes "*")) rule.api_groups
    || list_any (λ pattern. is_word_or_any (codes "*") (before_slash pattern)) rule.resources

-- one of these rules has; without any, all are covered
abbrev pub rules_are_wide : List Rule → Bool
rules_are_wide [] = true
rules_are_wide (rule ∷ rules) = list_any rule_is_wide (rule ∷ rules)
