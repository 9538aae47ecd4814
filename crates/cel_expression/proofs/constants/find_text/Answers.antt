use Rattle.std.proofs.Common.{◌≡◌, ℕ, List, Some, None, refl, sym, ap, ◌∙◌, rules, true≢false}
use Rattle.std.specs.Prelude.{slice_get, Contains, Option}
use Rattle.std.proofs.lemmas.Option.{none-some, same_Some, slice_get_read, slice_get_past}
use Rattle.std.specs.BTreeMap.{get_by_text}
use Rattle.cel_value.specs.declared.value.Value as value
use Rattle.cel_value.specs.declared.value.Value.{Value}
use Rattle.cel_expression.specs.Numbered.{Values, AreTextsNumbered}
use Rattle.cel_expression.proofs.constants.find_text.Goals as goal

-- if a text is a constant, it is under its number
numbered : (constants : Values) (number_of : List ℕ → Option ℕ) (v : Value) (text : List ℕ) → AreTextsNumbered constants number_of
    → v ≡ value.Text text → Contains constants v → (n : ℕ) × (number_of text ≡ Some n) × (slice_get constants n ≡ Some v)
numbered constants number_of v text is named has =
    let (k, within, here) = has in
    let (n, got, there) = is.each k text (slice_get_read constants _ k v refl within (sym here) ∙ ap Some named) in
    (n, got, there ∙ ap Some (sym named))

pub returns-in_err-number : goal.returns-in_err-number
returns-in_err-number c =
    let none : get_by_text c.args.numbers.now c.args.text.now ≡ None = search rules in
    rw c.from_residual.ensures
    (λ has.
    let (n, got, there) = numbered _ _ _ _ c.requires.numbered c.requires.text has in
    none-some _ (sym none ∙ got))

pub returns-in_err-get : goal.returns-in_err-get
returns-in_err-get c =
    let number = c.in_ok-number.field-0.now in
    let noted : get_by_text c.args.numbers.now c.args.text.now ≡ Some number = search rules in
    let none = slice_get_past c.args.constants.now number c.in_err-get.ensures.lookup.3 in
    rw c.from_residual-in_err-get.ensures
    (λ has.
    let (n, got, there) = numbered _ _ _ _ c.requires.numbered c.requires.text has in
    none-some _ (sym none ∙ ap (slice_get c.args.constants.now) (same_Some number n (sym noted ∙ got)) ∙ there))

pub returns-then-equal : goal.returns-then-equal
returns-then-equal c =
    let found = c.in_ok-get.ensures.lookup in
    slice_get_read c.args.constants.now _ c.in_ok-number.field-0.now c.in_ok-get.field-0.now refl found.3.0 found.1
    ∙ ap Some (c.equal.ensures.content.0 c.if-equal.true)

pub returns : goal.returns
returns c =
    let number = c.in_ok-number.field-0.now in
    let noted : get_by_text c.args.numbers.now c.args.text.now ≡ Some number = search rules in
    let found = c.in_ok-get.ensures.lookup in
    let here = slice_get_read c.args.constants.now _ number c.in_ok-get.field-0.now refl found.3.0 found.1 in
    λ has.
    let (n, got, there) = numbered _ _ _ _ c.requires.numbered c.requires.text has in
    let same : c.in_ok-get.field-0.now ≡ c.args.value.now =
    same_Some _ _ (sym here ∙ ap (slice_get c.args.constants.now) (same_Some number n (sym noted ∙ got)) ∙ there) in
    true≢false (sym (c.equal.ensures.content.1 same) ∙ c.if-equal.false)
