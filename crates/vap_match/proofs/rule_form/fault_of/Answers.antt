use Rattle.std.proofs.Common.{rules}
use Rattle.vap_match.proofs.rule_form.fault_of.Goals as goal

pub returns-then-not-has_rules-clause-exact : goal.returns-then-not-has_rules-clause-exact
returns-then-not-has_rules-clause-exact c = search rules

pub returns-then-not-has_rules-clause-least : goal.returns-then-not-has_rules-clause-least
returns-then-not-has_rules-clause-least c = search rules
