-- Texts by place, as more come.
use Rattle.std.proofs.Common.{◌≡◌, ℕ, zero, suc, List, [], ◌∷◌, ◌++◌, Bool, true, false, cond, Option, None, Some, option_map, slice_get}
use Rattle.std.proofs.Common.{get_or, length, map, refl, sym, ap, ◌∙◌, rules}
use Rattle.std.specs.Str.{bytes_eq}
use Rattle.std.proofs.lemmas.Slice.Eq.{bytes_eq-Decides}
use Rattle.std.proofs.lemmas.Option.{same_Some, none-some}

pub same_bytes : (xs ys : List ℕ) → bytes_eq xs ys ≡ true → xs ≡ ys
same_bytes xs ys h = search (rules, bytes_eq-Decides)

get_more : {X : Type 0} (texts more : List X) (i : ℕ) (t : X) → slice_get texts i ≡ Some t → slice_get (texts ++ more) i ≡ Some t
get_more [] more i t h = absurd (none-some t h)
get_more (n ∷ texts) more zero t h = h
get_more (n ∷ texts) more (suc i) t h = get_more texts more i t h

get_last : {X : Type 0} (texts : List X) (t : X) → slice_get (texts ++ t ∷ []) (length texts) ≡ Some t
get_last [] t = refl
get_last (x ∷ texts) t = get_last texts t

-- at the place under a text, if there is one, is this text
abbrev pub Named : List (List ℕ) → Option ℕ → List ℕ → Type 0
Named texts o text = option_map (slice_get texts) o ≡ option_map (λ _. Some text) o

pub named_more : (texts more : List (List ℕ)) (o : Option ℕ) (text : List ℕ) → Named texts o text → Named (texts ++ more) o text
named_more texts more None text h = refl
named_more texts more (Some i) text h = ap Some (get_more texts more i text (same_Some _ _ h))

named_put : (texts : List (List ℕ)) (o : Option ℕ) (place : ℕ) (b : Bool) (text other : List ℕ) → (b ≡ true → text ≡ other)
    → slice_get texts place ≡ Some text →
    Named texts o other → Named texts (cond b (Some place) o) other
named_put texts o place true text other same here h = ap Some (here ∙ ap Some (same refl))
named_put texts o place false text other same here h = h

pub named_here : (texts : List (List ℕ)) (o : Option ℕ) (place : ℕ) (text : List ℕ) → o ≡ Some place → Named texts o text
    → slice_get texts place ≡ Some text
named_here texts None place text e h = absurd (none-some place e)
named_here texts (Some i) place text e h = ap (slice_get texts) (sym (same_Some _ _ e)) ∙ same_Some _ _ h

-- a new text at the end
pub named_last : (texts : List (List ℕ)) (t : List ℕ) (o new : Option ℕ) (place : ℕ) (text : List ℕ)
    → new ≡ cond (bytes_eq t text) (Some place) o → place ≡ length texts →
    Named texts o text → Named (texts ++ t ∷ []) new text
named_last texts t o new place text e at h =
    rw (e, at) (named_put (texts ++ t ∷ []) o (length texts) (bytes_eq t text) t text (same_bytes t text) (get_last texts t)
    (named_more texts (t ∷ []) o text h))

pub get_end : {X : Type 0} (texts : List X) (t : X) (place : ℕ) → place ≡ length texts → slice_get (texts ++ t ∷ []) place ≡ Some t
get_end texts t place e = rw e (get_last texts t)

-- the text of what is at a place
pub its_text : {X Y : Type 0} (f : X → Y) (xs : List X) (i : ℕ) (x : X) (t : Y) → x ≡ get_or xs i x → slice_get (map f xs) i ≡ Some t
    → f x ≡ t
its_text f [] i x t e h = absurd (none-some t h)
its_text f (y ∷ xs) zero x t e h = ap f e ∙ same_Some _ _ h
its_text f (y ∷ xs) (suc i) x t e h = its_text f xs i x t e h
