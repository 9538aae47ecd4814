-- Texts that are asked for, one after the other, and the choice that is for them.
use Rattle.std.proofs.Common.{◌≡◌, ℕ, zero, suc, ◌+◌, ◌<◌, ◌≤◌, Bool, true, false, cond, ◌||◌, List, [], ◌∷◌, ◌++◌}
use Rattle.std.proofs.Common.{length, drop, get_or, Option, Some, None, IsSome, Contains, refl, sym, ap, subst, ◌∙◌}
use Rattle.std.proofs.Common.{arith}
use Rattle.std.specs.Prelude.{is_some}
use Rattle.std.specs.List.{AllByRecursion, flat_map}
use Rattle.std.specs.Str.{bytes_eq}
use Rattle.std.proofs.lemmas.Bool.{false≢true, true≢false}
use Rattle.std.proofs.lemmas.List.Folds.{list_any-append}
use Rattle.std.proofs.lemmas.List.Elements.{All-contains_itself, All-from_recursion, All-weaker}
use Rattle.std.proofs.lemmas.Slice.Eq.{bytes_eq-Decides}
use Rattle.cel_check.proofs.Asked.{answered_then}
use Rattle.cel_check.specs.PatternTexts.{AreAnswered}
use Rattle.base_containers.specs.declared.text.Keyed.{Keyed}
use Rattle.vap_read.specs.declared.policy.Policy.{Policy}
use Rattle.cel_operators.proofs.Choices.{grows_same, grows_twice}
use Rattle.cel_operators.proofs.Only.{asks_both, asks_none}
use Rattle.cel_operators.specs.PatternAnswers.{Asked, answer_in, choice_in, AsksOnly, Grows, IsHonest}
use Rattle.cel_operators.specs.PatternChoice.{refuses, says_no}
use Rattle.cel_operators.specs.PatternMeaning.{tree_of}
use Rattle.vap_policy_programs.proofs.Each.{next_is}
use Rattle.vap_policy_set.specs.Parts.{refused_among}
use Rattle.vap_policy_set.specs.Patterns.{AreAsked, IsChoiceFor, of_policies, of_policy}

pub none_asked : (p : Asked) → AreAsked [] p p
none_asked p = record { each = tt; only = asks_none p []; grows = grows_same p }

pub both_asked : (xs ys : List (List ℕ)) (old mid new : Asked) → AreAsked xs old mid → AreAsked ys mid new → AreAsked (xs ++ ys) old new
both_asked xs ys old mid new first last = record {
  each = answered_then mid new xs ys last.grows first.each last.each;
  only = asks_both old mid new xs ys first.only last.only;
  grows = grows_twice old mid new first.grows last.grows;
}

-- ---- in a loop

-- once what is left is asked for, all is
pub record Leaves (all left : List (List ℕ)) (old now : Asked) : Type 0 where
  pub then : (later : Asked) → AreAsked left now later → AreAsked all old later

pub leaves_all : (all left : List (List ℕ)) (now : Asked) → left ≡ all → Leaves all left now now
leaves_all all left now same = record { then = λ later h. subst (λ texts. AreAsked texts now later) same h }

pub leaves_less : {X : Type 0} (f : X → List (List ℕ)) (xs : List X) (i : ℕ) (x : X) (all : List (List ℕ)) (old now next : Asked)
    → i < length xs → x ≡ get_or xs i x → AreAsked (f x) now next → Leaves all (flat_map f (drop i xs)) old now
    → Leaves all (flat_map f (drop (i + 1) xs)) old next
leaves_less f xs i x all old now next lt is asked so_far = record {
  then = λ later h.
      so_far.then later
      (subst (λ texts. AreAsked texts now later) (sym split) (both_asked (f x) (flat_map f (drop (i + 1) xs)) now next later asked h));
}
  where
    split : flat_map f (drop i xs) ≡ f x ++ flat_map f (drop (i + 1) xs)
    split =
        ap (flat_map f) (next_is xs i x lt is)

none_left : {X : Type 0} (xs : List X) (i : ℕ) → length xs ≤ i → drop i xs ≡ []
none_left [] zero h = refl
none_left [] (suc i) h = refl
none_left (x ∷ xs) zero h = absurd (omega (arith, h))
none_left (x ∷ xs) (suc i) h = none_left xs i (omega (arith, h))

pub leaves_none : {X : Type 0} (f : X → List (List ℕ)) (xs : List X) (i : ℕ) (all : List (List ℕ)) (old now : Asked) → length xs ≤ i
    → Leaves all (flat_map f (drop i xs)) old now → AreAsked all old now
leaves_none f xs i all old now ends so_far =
    so_far.then now (subst (λ texts. AreAsked texts now now) (sym (ap (flat_map f) (none_left xs i ends))) (none_asked now))

-- a text that was answered
pub is_answered : (answer : Option Bool) (built : Bool) → answer ≡ Some built → IsSome answer
is_answered answer built is = ap (λ o. is_some o) is

pub leaves_text : (texts : List (List ℕ)) (i : ℕ) (t given : List ℕ) (all : List (List ℕ)) (old now next : Asked) → i < length texts
    → t ≡ get_or texts i t → given ≡ t → IsSome (answer_in next given) → AsksOnly now next (given ∷ []) → Grows now next
    → Leaves all (drop i texts) old now → Leaves all (drop (i + 1) texts) old next
leaves_text texts i t given all old now next lt is same answered only grows so_far = record {
  then = λ later h.
      so_far.then later
      (subst (λ xs. AreAsked xs now later) (sym (next_is texts i t lt is))
      (both_asked (t ∷ []) (drop (i + 1) texts) now next later one h));
}
  where
    one : AreAsked (t ∷ []) now next
    one = subst (λ x. AreAsked (x ∷ []) now next) same (record { each = (answered, tt); only = only; grows = grows })

pub leaves_end : (texts : List (List ℕ)) (i : ℕ) (all : List (List ℕ)) (old now : Asked) → length texts ≤ i
    → Leaves all (drop i texts) old now → AreAsked all old now
leaves_end texts i all old now ends so_far =
    so_far.then now (subst (λ xs. AreAsked xs now now) (sym (none_left texts i ends)) (none_asked now))

-- ---- texts that were answered, one after the other

pub answered_end : (asked : Asked) (texts : List (List ℕ)) (i : ℕ) → length texts ≤ i → AreAnswered asked (drop i texts)
answered_end asked texts i ends = subst (AreAnswered asked) (sym (none_left texts i ends)) tt

pub answered_more : (asked : Asked) (texts : List (List ℕ)) (i : ℕ) (t given : List ℕ) → i < length texts → t ≡ get_or texts i t
    → given ≡ t → IsSome (answer_in asked given) → AreAnswered asked (drop (i + 1) texts) → AreAnswered asked (drop i texts)
answered_more asked texts i t given lt is same answered rest =
    subst (AreAnswered asked) (sym (next_is texts i t lt is))
    (subst (λ x. IsSome (answer_in asked x)) same answered, rest)

next_texts : (ps : List (Keyed Policy)) (i : ℕ) (p : Keyed Policy) → i < length ps → p ≡ get_or ps i p
    → of_policies (drop i ps) ≡ of_policy p.value.spec ++ of_policies (drop (i + 1) ps)
next_texts ps i p lt is =
    ap of_policies (next_is ps i p lt is)

pub policies_end : (asked : Asked) (ps : List (Keyed Policy)) (i : ℕ) → length ps ≤ i → AreAnswered asked (of_policies (drop i ps))
policies_end asked ps i ends = subst (λ xs. AreAnswered asked (of_policies xs)) (sym (none_left ps i ends)) tt

pub policies_more : (asked : Asked) (ps : List (Keyed Policy)) (i : ℕ) (p : Keyed Policy) (given : List (List ℕ)) → i < length ps
    → p ≡ get_or ps i p → given ≡ of_policy p.value.spec → AreAnswered asked given
    → AreAnswered asked (of_policies (drop (i + 1) ps)) → AreAnswered asked (of_policies (drop i ps))
policies_more asked ps i p given lt is same answered rest =
    subst (AreAnswered asked) (sym (next_texts ps i p lt is))
    (
    answered_then asked asked (of_policy p.value.spec) (of_policies (drop (i + 1) ps)) (grows_same asked)
    (subst (AreAnswered asked) same answered) rest
    )

-- whether a text is one of those of policies, by the next one
pub own_next : (ps : List (Keyed Policy)) (i : ℕ) (p : Keyed Policy) (given : List (List ℕ)) (text : List ℕ) → i < length ps
    → p ≡ get_or ps i p → given ≡ of_policy p.value.spec
    → refuses (of_policies (drop i ps)) text ≡ (refuses given text || refuses (of_policies (drop (i + 1) ps)) text)
own_next ps i p given text lt is same =
    ap (λ xs. refuses xs text) (next_texts ps i p lt is)
    ∙ list_any-append (λ other. bytes_eq other text) (of_policy p.value.spec) (of_policies (drop (i + 1) ps))
    ∙ ap (λ xs. refuses xs text || refuses (of_policies (drop (i + 1) ps)) text) (sym same)

pub own_end : (ps : List (Keyed Policy)) (i : ℕ) (text : List ℕ) → length ps ≤ i → refuses (of_policies (drop i ps)) text ≡ false
own_end ps i text ends = ap (λ xs. refuses (of_policies xs) text) (none_left ps i ends)

-- ---- the choice

-- a text of a choice is refused
or_left : (b c : Bool) → b ≡ true → (b || c) ≡ true
or_left true c h = refl
or_left false c h = absurd (false≢true h)

or_right : (b c : Bool) → c ≡ true → (b || c) ≡ true
or_right true c h = refl
or_right false c h = h

stands : (choice : List (List ℕ)) (text : List ℕ) (i : ℕ) → i < length choice → get_or choice i text ≡ text
    → refuses choice text ≡ true
stands [] text i lt is = absurd (omega (arith, lt))
stands (t ∷ ts) text zero lt is = or_left (bytes_eq t text) (refuses ts text) ((bytes_eq-Decides t text).1 is)
stands (t ∷ ts) text (suc i) lt is = or_right (bytes_eq t text) (refuses ts text) (stands ts text i (omega (arith, lt)) is)

-- what was answered and is not refused is built
built_answer : (o : Option Bool) → IsSome o → says_no o ≡ false → o ≡ Some true
built_answer None h k = absurd (false≢true h)
built_answer (Some true) h k = refl
built_answer (Some false) h k = absurd (true≢false k)

-- what is refused by texts is one of them
is_there : (texts : List (List ℕ)) (text : List ℕ) → refuses texts text ≡ true → Contains texts text
is_there [] text h = absurd (false≢true h)
is_there (t ∷ ts) text h = at (bytes_eq t text) refl (is_there ts text) h
  where
    at : (b : Bool) → bytes_eq t text ≡ b → (refuses ts text ≡ true → Contains ts text) → (b || refuses ts text) ≡ true
        → Contains (t ∷ ts) text
    at true same rest h = (zero, omega arith, (bytes_eq-Decides t text).0 same)
    at false other rest h = let found = rest h in (suc found.0, omega (arith, found.1), found.2)

are_there : (texts no : List (List ℕ)) → AllByRecursion (Contains texts) (refused_among texts no)
are_there texts [] = tt
are_there texts (t ∷ ts) = at (refuses texts t) refl (are_there texts ts)
  where
    at : (b : Bool) → refuses texts t ≡ b → AllByRecursion (Contains texts) (refused_among texts ts)
        → AllByRecursion (Contains texts) (cond b (t ∷ refused_among texts ts) (refused_among texts ts))
    at true is rest = (is_there texts t is, rest)
    at false not rest = rest

-- one of them that is refused is refused by those that are among them
still_refused : (texts no : List (List ℕ)) (text : List ℕ) → refuses texts text ≡ true → refuses no text ≡ true
    → refuses (refused_among texts no) text ≡ true
still_refused texts [] text there h = absurd (false≢true h)
still_refused texts (t ∷ ts) text there h = at (bytes_eq t text) refl (still_refused texts ts text there) h
  where
    kept : (b : Bool) → refuses (refused_among texts ts) text ≡ true
        → refuses (cond b (t ∷ refused_among texts ts) (refused_among texts ts)) text ≡ true
    kept true rest = or_right (bytes_eq t text) (refuses (refused_among texts ts) text) rest
    kept false rest = rest

    own : (b : Bool) → refuses texts t ≡ b → bytes_eq t text ≡ true
        → refuses (cond b (t ∷ refused_among texts ts) (refused_among texts ts)) text ≡ true
    own true is same = or_left (bytes_eq t text) (refuses (refused_among texts ts) text) same
    own false not same =
        absurd (true≢false (sym there ∙ sym (ap (refuses texts) ((bytes_eq-Decides t text).0 same)) ∙ not))

    at : (b : Bool) → bytes_eq t text ≡ b → (refuses ts text ≡ true → refuses (refused_among texts ts) text ≡ true)
        → (b || refuses ts text) ≡ true → refuses (refused_among texts (t ∷ ts)) text ≡ true
    at true same rest h = own (refuses texts t) refl same
    at false other rest h = kept (refuses texts t) (rest h)

answered_at : (asked : Asked) (texts : List (List ℕ)) (text : List ℕ) (i : ℕ) → i < length texts → get_or texts i text ≡ text
    → AreAnswered asked texts → IsSome (answer_in asked text)
answered_at asked [] text i lt is all = absurd (omega (arith, lt))
answered_at asked (t ∷ ts) text zero lt is all = subst (λ (x : List ℕ). IsSome (answer_in asked x)) is all.0
answered_at asked (t ∷ ts) text (suc i) lt is all = answered_at asked ts text i (omega (arith, lt)) is all.1

-- the refused ones among texts that were answered are a choice for these
pub chosen : (texts own : List (List ℕ)) (asked : Asked) → AreAnswered asked texts → IsHonest asked
    → own ≡ refused_among texts (choice_in asked) → IsChoiceFor texts own
chosen texts own asked answered honest is = subst (IsChoiceFor texts) (sym is) (record {
  only = All-from_recursion (Contains texts) (refused_among texts (choice_in asked)) (are_there texts (choice_in asked));
  others =
      All-weaker (Contains texts) (λ t. refuses (refused_among texts (choice_in asked)) t ≡ false → IsSome (tree_of t)) pattern
      texts (All-contains_itself texts);
})
  where
    by : (t : List ℕ) (b : Bool) → Contains texts t → refuses (choice_in asked) t ≡ b
        → refuses (refused_among texts (choice_in asked)) t ≡ false → IsSome (tree_of t)
    by t true there is passes =
        absurd
        (true≢false
        (sym (still_refused texts (choice_in asked) t (stands texts t there.0 there.1 there.2) is) ∙ passes))
    by t false there is passes =
        honest.are_patterns t
        (built_answer (answer_in asked t) (answered_at asked texts t there.0 there.1 there.2 answered) (sym (honest.chosen t) ∙ is))

    pattern : (t : List ℕ) → Contains texts t → refuses (refused_among texts (choice_in asked)) t ≡ false → IsSome (tree_of t)
    pattern t there passes = by t (refuses (choice_in asked) t) there refl passes
