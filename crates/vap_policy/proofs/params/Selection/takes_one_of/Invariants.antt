use Rattle.std.proofs.Common.{◌≡◌, drop, map}
use Rattle.std.specs.List.{list_any}
use Rattle.vap_policy.specs.Params.{is_param}
use Rattle.vap_policy.specs.Shown.{lent_place}
use Rattle.vap_policy.proofs.params.Selection.takes_one_of.Given as goal

abbrev pub invariant-loop-param : goal.invariant-loop-param
invariant-loop-param l =
    list_any (is_param (lent_place l.self.place) l.self.reference.now) (map (λ p. p.object) (drop l.param-index l.params))
    ≡ list_any (is_param (lent_place l.self.place) l.self.reference.now) (map (λ p. p.object) l.params)
