-- Required fields are looked for in step with the entries.
use Rattle.std.proofs.Common.{◌≡◌, ℕ, Bool, true, false, not, ◌&&◌, cond, List, [], ◌∷◌, length}
use Rattle.std.proofs.Common.{drop, get_or, ◌+◌, ◌<◌, is_some, Result, Err, refl, ap, sym, subst, ◌∙◌}
use Rattle.std.proofs.lemmas.List.{drop_more}
use Rattle.std.specs.List.{AllByRecursion}
use Rattle.std.specs.List.Sorted.{IsStrictlySortedBy}
use Rattle.base_containers.specs.declared.text.Keyed.{Keyed}
use Rattle.base_containers.specs.Keys.{IsInKeyOrder, keys_in, value_under}
use Rattle.base_containers.proofs.Order.{Below}
use Rattle.cel_value.specs.declared.value.Value.{Value}
use Rattle.cel_value.specs.declared.cel_type.Field.{Field}
use Rattle.cel_value.specs.declared.cel_type.CelType.{CelType}
use Rattle.vap_schema.specs.InStep.{first_under, count_before}
use Rattle.vap_schema.specs.Paths.{at_field}
use Rattle.vap_schema.specs.Seen.{all_there, readers_of, fault}
use Rattle.vap_schema.specs.declared.fit_fault.FitFault.{FitFault}
use Rattle.vap_schema.specs.declared.fit_fault.FitFaultKind.TheVariants.{Missing}
use Rattle.vap_schema.proofs.InStep.{rest_from, found_first, found_behind, order_behind, moved}

abbrev Fields : Type 0
Fields = List (Keyed (Field CelType))

abbrev Entries : Type 0
Entries = List (Keyed Value)

-- greater fields are found in the rest
behind_all : (k path : List ℕ) (fields : Fields) (es : Entries) → AllByRecursion (Below k) (keys_in fields)
    → all_there (readers_of fields) path (rest_from k es) ≡ all_there (readers_of fields) path es
behind_all k path [] es h = refl
behind_all k path (f ∷ fields) es h =
    let missing : Result (Unit {0}) FitFault = Err (fault Missing (at_field path f.key)) in
    ap (λ o. cond (f.value.required && not (is_some o)) missing (all_there (readers_of fields) path (rest_from k es)))
    (found_behind k f.key es h.0)
    ∙ ap (λ r. cond (f.value.required && not (is_some (value_under f.key es))) missing r) (behind_all k path fields es h.1)

module _ (f : Keyed (Field CelType)) (fields : Fields) (path : List ℕ) (es : Entries) (sorted : IsInKeyOrder (f ∷ fields))
    (ordered : IsInKeyOrder es) where
  -- whether the field is missing, by the first entry that is not before it
  abbrev pub is_missing : Bool
  is_missing = f.value.required && not (is_some (first_under f.key (rest_from f.key es)))

  decided : all_there (readers_of (f ∷ fields)) path es
      ≡ cond is_missing (Err (fault Missing (at_field path f.key))) (all_there (readers_of fields) path es)
  decided =
      ap
      (λ o. cond (f.value.required && not (is_some o)) (Err (fault Missing (at_field path f.key))) (all_there (readers_of fields) path es))
      (found_first f.key es ordered)

  pub missing_here : is_missing ≡ true → all_there (readers_of (f ∷ fields)) path es ≡ Err (fault Missing (at_field path f.key))
  missing_here h = decided ∙ ap (λ b. cond b (Err (fault Missing (at_field path f.key))) (all_there (readers_of fields) path es)) h

  pub not_missing : is_missing ≡ false
      → all_there (readers_of fields) path (rest_from f.key es) ≡ all_there (readers_of (f ∷ fields)) path es
  unfolding IsStrictlySortedBy
  not_missing h =
      behind_all f.key path fields es sorted.0
      ∙ sym (decided ∙ ap (λ b. cond b (Err (fault Missing (at_field path f.key))) (all_there (readers_of fields) path es)) h)

-- one turn of the walk over the fields
module _ (fields : Fields) (i : ℕ) (f : Keyed (Field CelType)) (path name : List ℕ) (es : Entries) (from place : ℕ)
    (named : name ≡ f.key) (lt : i < length fields) (is : f ≡ get_or fields i f) (sorted : IsInKeyOrder fields)
    (ordered : IsInKeyOrder es) (at : place ≡ from + count_before name (drop from es)) where
  here : drop i fields ≡ f ∷ drop (i + 1) fields
  here = drop_more fields i f lt ∙ ap (λ x. x ∷ drop (i + 1) fields) (sym is)

  rest_here : drop place es ≡ rest_from f.key (drop from es)
  rest_here = moved f.key es from place (at ∙ ap (λ k. from + count_before k (drop from es)) named)

  fields_here : IsInKeyOrder (f ∷ drop (i + 1) fields)
  fields_here = subst IsInKeyOrder here (order_behind i fields sorted)

  missing_is : (f.value.required && not (is_some (first_under name (drop place es))))
      ≡ is_missing f (drop (i + 1) fields) path (drop from es) fields_here (order_behind from es ordered)
  missing_is =
      ap (λ k. f.value.required && not (is_some (first_under k (drop place es)))) named
      ∙ ap (λ (l : Entries). f.value.required && not (is_some (first_under f.key l))) rest_here

  pub stops_there : f.value.required ≡ true → is_some (first_under name (drop place es)) ≡ false
      → all_there (readers_of (drop i fields)) path (drop from es) ≡ Err (fault Missing (at_field path name))
  stops_there needed absent =
      let h = ap (λ b. b && not (is_some (first_under name (drop place es)))) needed ∙ ap not absent in
      ap (λ (l : Fields). all_there (readers_of l) path (drop from es)) here
      ∙ missing_here f (drop (i + 1) fields) path (drop from es) fields_here (order_behind from es ordered) (sym missing_is ∙ h)
      ∙ ap (λ k. Err (fault Missing (at_field path k))) (sym named)

  pub goes_on_there : (f.value.required && not (is_some (first_under name (drop place es)))) ≡ false
      → all_there (readers_of (drop (i + 1) fields)) path (drop place es) ≡ all_there (readers_of (drop i fields)) path (drop from es)
  goes_on_there h =
      ap (all_there (readers_of (drop (i + 1) fields)) path) rest_here
      ∙ not_missing f (drop (i + 1) fields) path (drop from es) fields_here (order_behind from es ordered) (sym missing_is ∙ h)
      ∙ sym (ap (λ (l : Fields). all_there (readers_of l) path (drop from es)) here)

pub never_missing : (required known : Bool) → known ≡ true → (required && not known) ≡ false
never_missing true known h = rw h refl
never_missing false known h = refl
