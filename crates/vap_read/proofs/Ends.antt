-- When nothing is left of a list of documents.
use Rattle.std.proofs.Common.{◌≡◌, ◌↔◌, ◌≤◌, ◌==◌, ℕ, zero, suc, List, [], ◌∷◌, Bool, length, drop, IsTrue, refl, sym, ◌∙◌, eqb-true, arith}
use Rattle.serde_json.specs.Data.{Items, no_items}
use Rattle.serde_json.specs.View.{items_view}
use Rattle.serde_json.specs.declared.value.Value.{Value}

-- past the end of a list there is none
pub past_end : (vs : List Value) (place : ℕ) → length vs ≤ place → items_view (drop place vs) ≡ no_items
past_end [] zero all = refl
past_end [] (suc place) all = refl
past_end (v ∷ vs) zero all = absurd (omega arith)
past_end (v ∷ vs) (suc place) all = past_end vs place (omega arith)

-- a list has no items exactly if its length is 0
pub none_left : (none : Bool) (vs : List Value) → none ≡ (length vs == 0) → IsTrue none ↔ (no_items ≡ items_view vs)
none_left none [] e = (λ h. refl, λ h. e)
none_left none (v ∷ vs) e = (λ h. let some = eqb-true (length (v ∷ vs)) 0 (sym e ∙ h) in absurd (omega arith), λ h. cc)
