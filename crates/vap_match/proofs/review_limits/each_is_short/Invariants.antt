use Rattle.std.proofs.Common.{◌≡◌, drop}
use Rattle.base_containers.specs.Gathered.{items_of}
use Rattle.vap_match.specs.Forms.{all_items}
use Rattle.vap_match.specs.Parts.{text_of}
use Rattle.vap_match.specs.TextLimits.{is_short}
use Rattle.vap_match.proofs.review_limits.each_is_short.Given as goal

abbrev pub invariant-loop-item : goal.invariant-loop-item
invariant-loop-item l =
    all_items (λ d. is_short 1024 (text_of d)) (items_of (drop l.item-index l.items))
    ≡ all_items (λ d. is_short 1024 (text_of d)) (items_of l.items)
