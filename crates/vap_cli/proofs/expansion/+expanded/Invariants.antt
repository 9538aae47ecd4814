use Rattle.std.proofs.Common.{◌+◌, ◌*◌}
use Rattle.vap_cli.proofs.expansion.+expanded.Given as goal

-- of two calls at one level, the one that is called is nearer to the schema inside
abbrev pub decreases-expanded : goal.decreases-expanded
decreases-expanded l = 4 * l.levels

abbrev pub decreases-expanded_form : goal.decreases-expanded_form
decreases-expanded_form l = 4 * l.levels + 2

abbrev pub decreases-expanded_properties : goal.decreases-expanded_properties
decreases-expanded_properties l = 4 * l.levels + 1

abbrev pub decreases-referred : goal.decreases-referred
decreases-referred l = 4 * l.levels + 1
