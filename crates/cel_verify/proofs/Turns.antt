-- Stretches of a run.
use Rattle.std.proofs.Common.{◌≡◌, ℕ, ◌+◌, List, [], refl, arith}
use Rattle.cel_code.specs.declared.image.Image.{Image}
use Rattle.cel_operators.specs.Outcomes.{Outcome}
use Rattle.cel_code.specs.Machine.{State, on, Goes, step, Gets, Stays, Moves}

module _ (image : Image) (slots : List Outcome) where
  -- two stretches in a row
  pub stretches : (s m t : State) (c d a j k b : ℕ) → Gets image slots s m c j → Gets image slots m t d k → a ≡ c + d
      → b ≡ j + k → Gets image slots s t a b
  stretches s m t c d a j k b (Stays e f g) r ea eb =
      let x : a ≡ d = omega arith in
      let y : b ≡ k = omega arith in
      rw (e, x, y) r
  stretches s m t c d a j k b (Moves l x y n st g f h) r ea eb =
      Moves l x (y + d) (n + k) st (stretches l m t y d (y + d) n k (n + k) g r refl refl) (omega arith) (omega arith)

  -- no step yet
  pub starts : (stack : List Outcome) → stack ≡ [] → Gets image slots (on 0 [] []) (on 0 stack []) 0 0
  starts stack e = rw e (Stays refl refl refl)

  -- one more step
  pub one_more : (s t : State) (charge charged steps : ℕ) → step image slots s ≡ Goes charge t
      → Gets image slots (on 0 [] []) s charged steps → Gets image slots (on 0 [] []) t (charged + charge) (steps + 1)
  one_more s t charge charged steps e g =
      stretches (on 0 [] []) s t charged charge _ steps 1 _ g
      (Moves t charge 0 0 e (Stays refl refl refl) (omega arith) (omega arith)) refl refl
