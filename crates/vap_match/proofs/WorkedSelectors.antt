-- Rows of selectors, worked by computing.
use Rattle.std.proofs.Common.{◌≡◌, true, false, [], ◌∷◌, Some, None, refl}
use Rattle.std.specs.Prelude.{codes}
use Rattle.serde_json.specs.Data.{null, object, no_members, member}
use Rattle.vap_match.specs.Select.{holds_by, label}
use Rattle.vap_match.specs.declared.selector.Operator.TheVariants.{In, NotIn, Exists}

-- NotIn holds if the key is absent, In does not, and Exists looks at the key alone
absent_not_in : holds_by NotIn (codes "a" ∷ []) None ≡ true
absent_not_in = refl

absent_in : holds_by In (codes "a" ∷ []) None ≡ false
absent_in = refl

there : holds_by Exists [] (Some (codes "a")) ≡ true
there = refl

-- a label that is no text does not count
not_text : label (Some (object (member (codes "a") null no_members))) (codes "a") ≡ None
not_text = refl
