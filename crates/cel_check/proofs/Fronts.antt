-- Texts compared by their fronts.
use Rattle.std.proofs.Common.{◌≡◌, ℕ, true, false, ◌&&◌, List, [], ◌∷◌, ◌++◌, length, take, drop, refl, ap, sym, ◌∙◌}
use Rattle.std.proofs.Common.{eq-eqb, eqb-true, ne_eqb, true≢false, inl, inr}
use Rattle.std.specs.Prelude.{nat_eq, codes}
use Rattle.std.specs.Cmp.Lexicographic.{pointwise}
use Rattle.std.specs.Str.{bytes_eq}
use Rattle.std.proofs.Math.Bool.{and_assoc, and-false}
use Rattle.std.proofs.lemmas.Bool.{cases_Bool}
use Rattle.std.proofs.lemmas.List.{append-nil}
use Rattle.cel_check.specs.Selectors.{spelled_out, spelling}

swap : (b c : ℕ) → nat_eq c b ≡ nat_eq b c
swap b c = elim (cases_Bool (nat_eq c b)) [
  | inl e ↦ e ∙ sym (eq-eqb b c (sym (eqb-true c b e)))
  | inr e ↦ e ∙ sym (ne_eqb b c (λ same. true≢false (sym (eq-eqb c b (sym same)) ∙ e)))
]

-- a text put together of two is another one exactly if the first is its front and the second is what follows
pub front : (p q s : List ℕ) → bytes_eq (p ++ q) s ≡ (pointwise nat_eq (take (length p) s) p && bytes_eq q (drop (length p) s))
front [] q s = refl
front (b ∷ p) q [] = refl
front (b ∷ p) q (c ∷ s) =
    let front_is = pointwise nat_eq (take (length p) s) p in
    let behind_is = bytes_eq q (drop (length p) s) in
    ap (λ x. nat_eq b c && x) (front p q s) ∙ sym (and_assoc (nat_eq b c) front_is behind_is)
    ∙ ap (λ x. (x && front_is) && behind_is) (sym (swap b c))

-- a byte with which no two underscores begin is spelled by itself
pub by_itself : (b : ℕ) (bs : List ℕ) → pointwise nat_eq (take 2 (b ∷ bs)) (codes "__") ≡ false
    → spelled_out (b ∷ bs) ≡ spelling b ++ spelled_out bs
by_itself b [] h = sym (append-nil (spelling b))
by_itself b (c ∷ bs) h = rw h refl

-- two underscores are spelled together
pub both : (name : List ℕ) → pointwise nat_eq (take 2 name) (codes "__") ≡ true
    → spelled_out name ≡ codes "__underscores__" ++ spelled_out (drop 2 name)
both [] h = absurd (true≢false (sym h))
both (b ∷ []) h = absurd (true≢false (sym h ∙ and-false (nat_eq b 95)))
both (b ∷ c ∷ bs) h = rw h refl

-- a name and a selector go on together after the same front
pub goes_on : (p q name s : List ℕ) → spelled_out name ≡ p ++ spelled_out q → pointwise nat_eq (take (length p) s) p ≡ true
    → bytes_eq (spelled_out q) (drop (length p) s) ≡ bytes_eq (spelled_out name) s
goes_on p q name s spelled same = rw (spelled, front p (spelled_out q) s, same) refl

-- and otherwise they are not the same
pub parts : (p q name s : List ℕ) → spelled_out name ≡ p ++ spelled_out q → pointwise nat_eq (take (length p) s) p ≡ false
    → false ≡ bytes_eq (spelled_out name) s
parts p q name s spelled other = rw (spelled, front p (spelled_out q) s, other) refl
