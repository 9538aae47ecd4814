-- Which texts are asked for: these, and no others.
use Rattle.std.proofs.Common.{◌≡◌, ◌⊎◌, inl, inr, ℕ, Bool, true, false, cond, List, [], ◌∷◌, ◌++◌, Option, Some, IsSome, Contains}
use Rattle.std.proofs.Common.{map, refl, subst, arith}
use Rattle.std.specs.Prelude.{String, string_bytes}
use Rattle.std.specs.BTreeMap.{BTreeMap}
use Rattle.std.specs.Map.{lookup}
use Rattle.std.specs.Str.{bytes_eq}
use Rattle.std.proofs.lemmas.List.Elements.{Contains-append_left, Contains-append_right}
use Rattle.cel_operators.specs.PatternAnswers.{Asked, answer_in, told_by, AsksOnly}
use Rattle.cel_operators.proofs.Asked.{Adds}
use Rattle.cel_operators.proofs.Places.{same_bytes}

-- if nothing is asked for
pub asks_none : (p : Asked) (texts : List (List ℕ)) → AsksOnly p p texts
asks_none p texts = record { among = λ text h. inl h }

-- if the answers are the same, whatever is refused
pub asks_nothing : {Y : Type 0} (seen : Asked) (answers later : BTreeMap (String Y) Bool) (before after : List (String Y))
    (texts : List (List ℕ)) → told_by answers before ≡ seen → later.entries ≡ answers.entries → AsksOnly seen (told_by later after) texts
asks_nothing seen answers later before after texts same kept =
    subst (λ asked. AsksOnly asked (told_by later after) texts) same (record {
      among = λ other h.
          inl (subst (λ entries. IsSome (lookup (bytes_eq other) (map (λ e. (string_bytes e.0, e.1)) entries))) kept h);
    })

-- if one more answer is put
one_asked : (text other : List ℕ) (o new : Option Bool) (built b : Bool) → new ≡ cond b (Some built) o → (b ≡ true → text ≡ other)
    → IsSome new → IsSome o ⊎ Contains (text ∷ []) other
one_asked text other o new built true e here h = inr (0, omega arith, here refl)
one_asked text other o new built false e here h = inl (subst IsSome e h)

pub asks_one : (seen old new : Asked) (text : List ℕ) (built : Bool) → old ≡ seen → Adds old new text built → AsksOnly seen new (text ∷ [])
asks_one seen old new text built same more =
    subst (λ asked. AsksOnly asked new (text ∷ [])) same (record {
      among = λ other h.
          one_asked text other (answer_in old other) (answer_in new other) built (bytes_eq text other) (more.each other)
          (same_bytes text other) h;
    })

-- ---- for the crates above

either : {A B C D : Type 0} → (A → C) → (B → D) → A ⊎ B → C ⊎ D
either f g (inl a) = inl (f a)
either f g (inr b) = inr (g b)

-- what is asked for of these is among more
pub asks_within : (old new : Asked) (xs ys : List (List ℕ)) → ((text : List ℕ) → Contains xs text → Contains ys text)
    → AsksOnly old new xs → AsksOnly old new ys
asks_within old new xs ys more only = record { among = λ text h. either (λ k. k) (more text) (only.among text h) }

pub asks_first : (old new : Asked) (xs ys : List (List ℕ)) → AsksOnly old new xs → AsksOnly old new (xs ++ ys)
asks_first old new xs ys only = asks_within old new xs (xs ++ ys) (Contains-append_left xs ys) only

-- these, and then those
pub asks_both : (old mid new : Asked) (xs ys : List (List ℕ)) → AsksOnly old mid xs → AsksOnly mid new ys → AsksOnly old new (xs ++ ys)
asks_both old mid new xs ys first last = record { among = λ text h. at text (last.among text h) }
  where
    at : (text : List ℕ) → IsSome (answer_in mid text) ⊎ Contains ys text → IsSome (answer_in old text) ⊎ Contains (xs ++ ys) text
    at text (inl h) = either (λ k. k) (Contains-append_left xs ys text) (first.among text h)
    at text (inr h) = inr (Contains-append_right xs ys text h)
