-- Answers, as more come.
use Rattle.std.proofs.Common.{◌≡◌, ℕ, List, [], ◌∷◌, ◌++◌, map, Bool, true, false, cond, not, ◌||◌, Option, None, Some, IfSome, IsSome}
use Rattle.std.proofs.Common.{refl, sym, ap, subst, ◌∙◌, rules}
use Rattle.std.specs.Prelude.{String, string_bytes, string_cmp}
use Rattle.std.specs.BTreeMap.{BTreeMap, is_at, get_by_text, UpdatesBy}
use Rattle.std.specs.Map.{lookup}
use Rattle.std.specs.Ordering.{nat_cmp}
use Rattle.std.specs.Cmp.Lexicographic.{slice_cmp}
use Rattle.std.specs.Str.{bytes_eq}
use Rattle.std.proofs.lemmas.List.Folds.{list_any-append}
use Rattle.std.proofs.lemmas.Map.Text.{is_eq-slice_cmp, btree_map_updates_text}
use Rattle.std.proofs.lemmas.Option.{none-some}
use Rattle.std.proofs.lemmas.Slice.Eq.{bytes_eq-Decides}
use Rattle.cel_operators.specs.PatternAnswers.{Asked, answer_in, choice_in, told_by, Grows, Honours, IsHonest}
use Rattle.cel_operators.specs.PatternChoice.{refuses, says_no, then_answered}
use Rattle.cel_operators.specs.PatternMeaning.{tree_of}
use Rattle.cel_operators.proofs.Places.{same_bytes}

under : {Y : Type 0} (entries : List (String Y × Bool)) (text : List ℕ) →
    lookup (bytes_eq text) (map (λ entry. (string_bytes entry.0, entry.1)) entries)
    ≡ lookup (is_at (λ k. slice_cmp nat_cmp text (string_bytes k))) entries
under [] text = refl
under (e ∷ es) text = rw (is_eq-slice_cmp text (string_bytes e.0), under es text) refl

-- the answer for a text is the one under it
pub answer_is : {Y : Type 0} (answers : BTreeMap (String Y) Bool) (refused : List (String Y)) (text : List ℕ)
    → answer_in (told_by answers refused) text ≡ get_by_text answers text
answer_is answers refused text = under answers.entries text

-- one more answer, and all others as before
pub record Adds (old new : Asked) (text : List ℕ) (built : Bool) : Type 0 where
  pub each : (other : List ℕ) → answer_in new other ≡ cond (bytes_eq text other) (Some built) (answer_in old other)

pub adds : {Y : Type 0} (old new : BTreeMap (String Y) Bool) (before after : List (String Y)) (key text : List ℕ) (built : Bool)
    → key ≡ text
    → UpdatesBy string_cmp (λ k. slice_cmp nat_cmp key (string_bytes k)) old new (Some built)
    → Adds (told_by old before) (told_by new after) text built
adds old new before after key text built same updates = record {
  each = λ other. answer_is new after other ∙ btree_map_updates_text key old new _ updates other
      ∙ ap (λ k. cond (bytes_eq k other) (Some built) (get_by_text old other)) same
      ∙ ap (cond (bytes_eq text other) (Some built)) (sym (answer_is old before other));
}

-- if the first text was not asked for, neither was another that is the same
unasked : (asked : Asked) (text other : List ℕ) → answer_in asked text ≡ None → bytes_eq text other ≡ true → answer_in asked other ≡ None
unasked asked text other none same = rw (sym (same_bytes text other same)) none

-- a new answer leaves the others
stays : (o new : Option Bool) (b built : Bool) → new ≡ cond b (Some built) o → (b ≡ true → o ≡ None) → IfSome o (λ v. new ≡ Some v)
stays None new b built e none = tt
stays (Some v) new true built e none = absurd (none-some v (sym (none refl)))
stays (Some v) new false built e none = e

grows_by : (old new : Asked) (text : List ℕ) (built : Bool) → Adds old new text built → answer_in old text ≡ None → Grows old new
grows_by old new text built more none other =
    stays (answer_in old other) (answer_in new other) (bytes_eq text other) built (more.each other) (unasked old text other none)

pub grows_seen : (seen old new : Asked) (text : List ℕ) (built : Bool) → old ≡ seen → Adds old new text built → answer_in seen text ≡ None
    → Grows seen new
grows_seen seen old new text built same more none =
    subst (λ asked. Grows asked new) same (grows_by old new text built more (ap (λ asked. answer_in asked text) same ∙ none))

is_itself : (text : List ℕ) → bytes_eq text text ≡ true
is_itself text = search (rules, bytes_eq-Decides)

pub answered_by : (old new : Asked) (text : List ℕ) (built : Bool) → Adds old new text built → answer_in new text ≡ Some built
answered_by old new text built more = more.each text ∙ ap (λ b. cond b (Some built) (answer_in old text)) (is_itself text)

-- a text that is built leaves the choice as it was
chosen_yes : (r : Bool) (o new : Option Bool) (b : Bool) → new ≡ cond b (Some true) o → (b ≡ true → o ≡ None) → r ≡ says_no o
    → r ≡ says_no new
chosen_yes r o new true e none h = h ∙ ap says_no (none refl) ∙ sym (ap says_no e)
chosen_yes r o new false e none h = h ∙ sym (ap says_no e)

one_refused : (r : Bool) (o : Option Bool) (b : Bool) → r ≡ says_no o → (r || (b || false)) ≡ says_no (cond b (Some false) o)
one_refused true o true h = refl
one_refused false o true h = refl
one_refused true o false h = h
one_refused false o false h = h

-- a text that is refused joins it
chosen_no : (choice : List (List ℕ)) (text other : List ℕ) (o new : Option Bool) → new ≡ cond (bytes_eq text other) (Some false) o
    → refuses choice other ≡ says_no o → refuses (choice ++ text ∷ []) other ≡ says_no new
chosen_no choice text other o new e h =
    list_any-append (λ t. bytes_eq t other) choice (text ∷ []) ∙ one_refused (refuses choice other) o (bytes_eq text other) h
    ∙ sym (ap says_no e)

-- what is said of each text that was built, with one more, and with one that was refused
one_more : {P : Type 0} (o new : Option Bool) (b : Bool) → new ≡ cond b (Some true) o → (b ≡ true → P) → (o ≡ Some true → P)
    → new ≡ Some true → P
one_more o new true e here was h = here refl
one_more o new false e here was h = was (sym e ∙ h)

no_more : {P : Type 0} (o new : Option Bool) (b : Bool) → new ≡ cond b (Some false) o → (o ≡ Some true → P) → new ≡ Some true → P
no_more o new true e was h = search rules
no_more o new false e was h = was (sym e ∙ h)

pub honest_built : (old new : Asked) (text : List ℕ) → Adds old new text true → answer_in old text ≡ None → IsSome (tree_of text)
    → choice_in new ≡ choice_in old → IsHonest old → IsHonest new
honest_built old new text more none is same honest = record {
  chosen = λ other. ap (λ choice. refuses choice other) same
      ∙ chosen_yes _ (answer_in old other) (answer_in new other) (bytes_eq text other) (more.each other) (unasked old text other none)
      (honest.chosen other);
  are_patterns = λ other. one_more (answer_in old other) (answer_in new other) (bytes_eq text other) (more.each other)
      (λ here. rw (sym (same_bytes text other here)) is) (honest.are_patterns other);
}

pub honest_refused : (old new : Asked) (text : List ℕ) → Adds old new text false → choice_in new ≡ choice_in old ++ text ∷ []
    → IsHonest old → IsHonest new
honest_refused old new text more last honest = record {
  chosen = λ other. ap (λ choice. refuses choice other) last
      ∙ chosen_no (choice_in old) text other (answer_in old other) (answer_in new other) (more.each other) (honest.chosen other);
  are_patterns = λ other. no_more (answer_in old other) (answer_in new other) (bytes_eq text other) (more.each other)
      (honest.are_patterns other);
}

-- what is answered once more leaves the choice
again : (choice : List (List ℕ)) (text : List ℕ) (r built : Bool) → refuses choice text ≡ r → r ≡ not built
    → choice ≡ then_answered choice text built
again choice text r true e h = refl
again choice text r false e h = rw (e ∙ h) refl

pub settled : (asked : Asked) (text : List ℕ) (built : Bool) → IsHonest asked → answer_in asked text ≡ Some built
    → choice_in asked ≡ then_answered (choice_in asked) text built
settled asked text built honest e = again (choice_in asked) text _ built (honest.chosen text) (ap says_no e)

pub joined : (asked : Asked) (text : List ℕ) → IsHonest asked → answer_in asked text ≡ None
    → choice_in asked ++ text ∷ [] ≡ then_answered (choice_in asked) text false
joined asked text honest none = rw (honest.chosen text ∙ ap says_no none) refl

honours : (o : Option Bool) (r : Bool) → r ≡ says_no o → IfSome o (λ v. r ≡ not v)
honours None r h = tt
honours (Some v) r h = h

-- the choice says no if the answer is no
pub honours_own : (asked seen : Asked) → asked ≡ seen → IsHonest asked → Honours seen (choice_in seen)
honours_own asked seen same honest = subst (λ a. Honours a (choice_in a)) same
    (λ text. honours (answer_in asked text) (refuses (choice_in asked) text) (honest.chosen text))
