-- An image has one run: if two runs end, they end with one outcome, for one charge, after as many steps.
use Rattle.std.proofs.Common.{◌≡◌, ℕ, List, [], sym, ap, ◌∙◌, subst, arith}
use Rattle.cel_code.specs.declared.image.Image.{Image}
use Rattle.cel_operators.specs.Outcomes.{Outcome}
use Rattle.cel_code.specs.Machine.{State, on, Next, Goes, Ends, Stuck, step, Gets, Stays, Moves, Run}

-- two ends of one run
pub record IsSame (x y : Outcome) (c d m n : ℕ) : Type 0 where
  pub outcome : x ≡ y
  pub charge : c ≡ d
  pub steps : m ≡ n

goes_same : (a b : Next) (c d : ℕ) (s t : State) → a ≡ Goes c s → a ≡ Goes d t → (c ≡ d) × (s ≡ t)
goes_same a b c d s t e f = (cc, cc)

module _ (image : Image) (slots : List Outcome) where
  ends_both : (s t u : State) (x y : Outcome) (c d m n : ℕ) → Gets image slots s t c m → step image slots t ≡ Ends x
      → Gets image slots s u d n → step image slots u ≡ Ends y → IsSame x y c d m n
  ends_both s t u x y c d m n (Stays e f g) p (Stays h i j) q =
      let here : step image slots s ≡ Ends x = ap (step image slots) e ∙ p in
      let there : step image slots s ≡ Ends y = ap (step image slots) h ∙ q in
      record { outcome = cc; charge = f ∙ sym i; steps = g ∙ sym j }
  ends_both s t u x y c d m n (Stays e f g) p (Moves k a b l st h i j) q =
      let here : step image slots s ≡ Ends x = ap (step image slots) e ∙ p in
      cc
  ends_both s t u x y c d m n (Moves k a b l st h i j) p (Stays e f g) q =
      let here : step image slots s ≡ Ends y = ap (step image slots) e ∙ q in
      cc
  ends_both s t u x y c d m n (Moves k a b l st h i j) p (Moves k' a' b' l' st' h' i' j') q =
      let same = goes_same (step image slots s) Stuck a a' k k' st st' in
      let moved : Gets image slots k u b' l' = subst (λ z. Gets image slots z u b' l') (sym same.1) h' in
      let r = ends_both k t u x y b b' l l' h p moved q in
      record { outcome = r.outcome; charge = omega (arith, same.0, r.charge); steps = omega (arith, r.steps) }

pub one_run : (image : Image) (slots : List Outcome) (x y : Outcome) (c d m n : ℕ) → Run image slots x c m → Run image slots y d n
    → IsSame x y c d m n
one_run image slots x y c d m n r s =
    let same = ends_both image slots (on 0 [] []) r.last s.last x y c d r.before s.before r.gets r.ends s.gets s.ends in
    record { outcome = same.outcome; charge = same.charge; steps = omega (arith, same.steps, r.count, s.count) }
