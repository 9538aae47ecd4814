-- One more item after those that are made.
use Rattle.std.proofs.Common.{◌≡◌, ◌<◌, ◌+◌, ℕ, List, [], ◌∷◌, ◌++◌, length, get_or, drop, Result, Ok, Err}
use Rattle.std.proofs.Common.{refl, sym, ap, ◌∙◌, append_assoc}
use Rattle.std.proofs.lemmas.List.{drop_more}
use Rattle.vap_policy_programs.specs.declared.pair_fault.PairFault.{PairFault}
use Rattle.vap_policy_programs.specs.Pairs.{after, behind, each}

behind_more : {A : Type 0} (made : List A) (y : A) (r : Result (List A) PairFault)
    → behind (made ++ y ∷ []) r ≡ behind made (behind (y ∷ []) r)
behind_more made y (Ok ys) = ap Ok (append_assoc made (y ∷ []) ys)
behind_more made y (Err why) = refl

-- what is left of a list begins with the item at this place
pub next_is : {A : Type 0} (xs : List A) (i : ℕ) (x : A) → i < length xs → x ≡ get_or xs i x → drop i xs ≡ x ∷ drop (i + 1) xs
next_is xs i x lt is = drop_more xs i x lt ∙ ap (λ z. z ∷ drop (i + 1) xs) (sym is)

pub each_next : {A B : Type 0} (f : A → Result B PairFault) (xs : List A) (i : ℕ) (x : A) (y : B) (made new : List B)
    → i < length xs → x ≡ get_or xs i x → f x ≡ Ok y → new ≡ made ++ y ∷ []
    → behind made (each f (drop i xs)) ≡ each f xs → behind new (each f (drop (i + 1) xs)) ≡ each f xs
each_next f xs i x y made new lt is given pushed so_far =
    ap (λ z. behind z (each f (drop (i + 1) xs))) pushed
    ∙ behind_more made y (each f (drop (i + 1) xs))
    ∙ ap (λ r. behind made (after r (λ z. behind (z ∷ []) (each f (drop (i + 1) xs))))) (sym given)
    ∙ ap (λ zs. behind made (each f zs)) (sym (next_is xs i x lt is))
    ∙ so_far
