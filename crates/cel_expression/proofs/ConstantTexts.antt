-- Texts among constants, and the numbers under which they are.
use Rattle.std.proofs.Common.{◌≡◌, ◌≢◌, ℕ, List, [], ◌∷◌, ◌++◌, length, true, cond}
use Rattle.std.proofs.Common.{Option, Some, refl, sym, ap, ◌∙◌, subst, inl, inr, ⊎_elim}
use Rattle.std.specs.Prelude.{Contains, Result, Ok, Err, OnOk, OnErr}
use Rattle.std.specs.Str.{bytes_eq}
use Rattle.std.proofs.lemmas.Slice.Eq.{bytes_eq-Decides}
use Rattle.std.proofs.lemmas.Bool.{cases_Bool}
use Rattle.cel_value.specs.declared.value.Value as value
use Rattle.cel_value.specs.declared.value.Value.{Value, out-Value, the_lemmas}
use Rattle.cel_value.specs.declared.value.Value.TheOpen.{Value-F}
use Rattle.cel_operators.proofs.Opened.{out-Text}
use Rattle.cel_expression.specs.Numbered.{Values, AreTextsNumbered, NotesText}
use Rattle.cel_expression.proofs.Numbering.{last_or_before}
use Rattle.cel_expression.proofs.Place.{contains_at, get_kept, get_last}

-- texts that are one value are one text
bytes_of : Value-F Value → List ℕ
bytes_of (Value-F.Text bytes) = bytes
bytes_of _ = []

pub one_text : (s t : List ℕ) → value.Text s ≡ value.Text t → s ≡ t
unfolding bytes_of
one_text s t e = ap bytes_of (sym (out-Text s) ∙ ap out-Value e ∙ out-Text t)

same_bytes : (s t : List ℕ) → bytes_eq s t ≡ true → s ≡ t
same_bytes s t h = (bytes_eq-Decides s t).0 h

-- what a map of texts has with one more
abbrev With : (List ℕ → Option ℕ) → (List ℕ → Option ℕ) → List ℕ → ℕ → Type 0
With old new text number = (other : List ℕ) → new other ≡ cond (bytes_eq text other) (Some number) (old other)

pub text_noted : (old new : List ℕ → Option ℕ) (v : Value) (text key : List ℕ) (number : ℕ) → v ≡ value.Text text → key ≡ text
    → With old new key number → NotesText old new v number
text_noted old new v text key number is named with =
    record {
      own = λ other e.
          let same : text ≡ other = one_text text other (sym is ∙ e) in
          with other ∙ ap (λ b. cond b (Some number) (old other)) ((bytes_eq-Decides key other).1 (named ∙ same));
      others = λ other ne. elim (cases_Bool (bytes_eq key other)) [
        | inl y ↦ absurd (ne (is ∙ ap value.Text (sym named ∙ same_bytes key other y)))
        | inr n ↦ with other ∙ ap (λ b. cond b (Some number) (old other)) n
      ];
    }

-- another value than a text notes nothing
pub none_noted : (f : List ℕ → Option ℕ) (v : Value) (number : ℕ) → ((text : List ℕ) → v ≢ value.Text text) → NotesText f f v number
none_noted f v number other = record { own = λ text e. absurd (other text e); others = λ text ne. refl }

-- a number is noted for a value that is no constant yet
pub texts_still : (constants : Values) (old new : List ℕ → Option ℕ) (v : Value) (number : ℕ) → AreTextsNumbered constants old
    → ¬ Contains constants v → NotesText old new v number → AreTextsNumbered constants new
texts_still constants old new v number is fresh notes =
    record {
      each = λ k text here.
          let (n, got, there) = is.each k text here in (
            n,
            notes.others text (λ own. fresh (contains_at constants k v (here ∙ ap Some (sym own)))) ∙ got,
            there,
          );
    }

-- and then it is one
texts_next : (constants : Values) (old new : List ℕ → Option ℕ) (v : Value) → AreTextsNumbered constants old
    → ¬ Contains constants v → NotesText old new v (length constants) → AreTextsNumbered (constants ++ v ∷ []) new
texts_next constants old new v is fresh notes =
    let before = texts_still constants old new v (length constants) is fresh notes in
    record {
      each = λ k text here.
          ⊎_elim
          (λ h. let (n, got, there) = before.each k text h in (n, got, get_kept constants v n (value.Text text) there))
          (λ same. (length constants, notes.own text (sym same), get_last constants v ∙ ap Some (sym same)))
          (last_or_before constants v (value.Text text) k here);
    }

-- whichever way the list of constants ends
pub texts_after : {A B : Type 0} (r : Result A B) (constants new : Values) (old numbers : List ℕ → Option ℕ) (v w : Value)
    (number : ℕ) → w ≡ v → number ≡ length constants → AreTextsNumbered constants old → ¬ Contains constants v
    → NotesText old numbers v number → OnOk r (new ≡ constants ++ w ∷ []) → OnErr r (new ≡ constants) → AreTextsNumbered new numbers
texts_after (Ok a) constants new old numbers v w number same last is fresh notes ok err =
    subst (λ cs. AreTextsNumbered cs numbers) (sym (ok ∙ ap (λ x. constants ++ x ∷ []) same))
    (texts_next constants old numbers v is fresh (subst (NotesText old numbers v) last notes))
texts_after (Err b) constants new old numbers v w number same last is fresh notes ok err =
    subst (λ cs. AreTextsNumbered cs numbers) (sym err) (texts_still constants old numbers v number is fresh notes)
