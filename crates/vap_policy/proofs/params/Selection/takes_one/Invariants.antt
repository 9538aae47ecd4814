use Rattle.std.proofs.Common.{◌≡◌, drop, map}
use Rattle.std.specs.List.{list_any}
use Rattle.vap_read_objects.specs.Blocks as blocks
use Rattle.vap_policy.specs.Params.{is_param}
use Rattle.vap_policy.specs.Shown.{lent_place}
use Rattle.vap_policy.proofs.params.Selection.takes_one.Given as goal

-- one of those in the blocks that are left is a param exactly if one of all is
abbrev pub invariant-loop-block : goal.invariant-loop-block
invariant-loop-block l =
    list_any (is_param (lent_place l.self.place) l.self.reference.now)
    (map (λ p. p.object) (blocks.joined (drop l.block-index l.block-items)))
    ≡ list_any (is_param (lent_place l.self.place) l.self.reference.now) l.self.params.now.objects
