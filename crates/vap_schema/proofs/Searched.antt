-- A name is found among texts in order exactly if it is one of them.
use Rattle.std.proofs.Common.{◌≡◌, ℕ, List, [], length, get_or, Result, Ok, Err, Bor, ap, sym, ◌∙◌, inl, inr, arith}
use Rattle.std.specs.Prelude.{is_ok}
use Rattle.std.specs.List.Sorted.{IsPermutation, IsBinarySearchResult, IsSearchInRange}
use Rattle.std.specs.Ordering.{nat_cmp, is_eq}
use Rattle.std.specs.Cmp.Lexicographic.{slice_cmp}
use Rattle.std.specs.Str.{bytes_eq}
use Rattle.std.proofs.lemmas.Bool.{cases_lt}
use Rattle.std.proofs.lemmas.Cmp.{nat_list_cmp_total}
use Rattle.std.proofs.lemmas.List.Folds.{list_any_at, list_any_none}
use Rattle.std.proofs.lemmas.List.Sorted.{list_any-IsPermutation, searchable_from_sorted}
use Rattle.std.proofs.lemmas.Map.Text.{is_eq-slice_cmp}
use Rattle.serde_json.specs.Data.{Items}
use Rattle.vap_schema.specs.Schemas.{is_named, IsInTextOrder, AreTexts}

pub same_texts : (xs ys : List (Bor (List ℕ))) (names : Items) → IsPermutation xs ys → AreTexts xs names → AreTexts ys names
same_texts xs ys names moved same k = sym (list_any-IsPermutation (λ t. bytes_eq t.now k) xs ys moved) ∙ same k

-- a place in no list
abbrev nowhere : Bor (List ℕ)
nowhere = record { ref_ptr = (0, 0); now = [] }

pub searched : (xs : List (Bor (List ℕ))) (k : List ℕ) (r : Result ℕ ℕ) → IsInTextOrder xs → IsSearchInRange r (length xs)
    → IsBinarySearchResult (λ t. slice_cmp nat_cmp t.now k) xs r → is_ok r ≡ is_named k xs
searched xs k (Ok i) ordered within found =
    sym
    (list_any_at (λ t. bytes_eq t.now k) xs i nowhere within
    (sym (is_eq-slice_cmp (get_or xs i nowhere).now k) ∙ ap is_eq (found nowhere)))
searched xs k (Err i) ordered within found =
    let parted = found (searchable_from_sorted nat_list_cmp_total (λ t. t.now) xs k ordered) in
    sym (list_any_none (λ t. bytes_eq t.now k) xs (λ j d lt. elim (cases_lt j i) [
      | inl before ↦ sym (is_eq-slice_cmp (get_or xs j d).now k) ∙ ap is_eq (parted.0 j d (omega arith) before)
      | inr behind ↦ sym (is_eq-slice_cmp (get_or xs j d).now k) ∙ ap is_eq (parted.1 j d behind lt)
    ]))
