-- A document that is no selector has one fault.
use Rattle.std.proofs.Common.{◌≡◌, true, false, not, refl, ap, sym, true≢false}
use Rattle.serde_json.specs.Data.{Data}
use Rattle.vap_match.specs.SelectorForm.{is_selector, has_fault, IsOnly}
use Rattle.vap_match.specs.declared.match_fault.MatchFault.{MatchFault}
use Rattle.vap_match.specs.declared.match_fault.MatchFault.TheVariants.{BadOperator, BadScope, EmptyRule}

pub only : (d : Data) (g : MatchFault) → has_fault d g ≡ true → g ≡ BadOperator
only d BadOperator has = refl
only d BadScope has = absurd (true≢false (sym has))
only d EmptyRule has = absurd (true≢false (sym has))

pub only_fault : (d : Data) → is_selector d ≡ false → IsOnly d BadOperator
only_fault d is = (ap not is, only d)
