-- Stretches of a run: the machine gets from one state to another for a charge.
use Rattle.std.proofs.Common.{◌≡◌, ℕ, ◌+◌, List, ◌∷◌, Option, Some, None, refl, sym, ap, arith}
use Rattle.cel_code.specs.declared.instr.Instr.{Instr}
use Rattle.cel_code.specs.declared.image.Image.{Image}
use Rattle.cel_operators.specs.Outcomes.{Outcome}
use Rattle.cel_code.specs.Machine.{Frame, State, on, Goes, act, act_at, inputs_of, step, Gets, Stays, Moves}
use Rattle.cel_expression.specs.Placed.{code_in, Has}

module _ (image : Image) (slots : List Outcome) where
  -- one stretch after another
  pub follows_on : (s m t : State) (c d a j k b : ℕ) → Gets image slots s m c j → Gets image slots m t d k → a ≡ c + d → b ≡ j + k
      → Gets image slots s t a b
  follows_on s m t c d a j k b (Stays e f g) r ea eb =
      let x : a ≡ d = omega arith in
      let y : b ≡ k = omega arith in
      rw (e, x, y) r
  follows_on s m t c d a j k b (Moves l x y n st g f h) r ea eb =
      Moves l x (y + d) (n + k) st (follows_on l m t y d (y + d) n k (n + k) g r refl refl) (omega arith) (omega arith)

  -- the machine gets from one state to another for a charge
  pub record Leads (s t : State) (charge : ℕ) : Type 0 where
    pub steps : ℕ
    pub gets : Gets image slots s t charge steps

  pub leads_on : (s m t : State) (c d : ℕ) → Leads s m c → Leads m t d → Leads s t (c + d)
  leads_on s m t c d l r =
      record { steps = l.steps + r.steps; gets = follows_on s m t c d (c + d) l.steps r.steps _ l.gets r.gets refl refl }

  pub costs : (s t : State) (c d : ℕ) → c ≡ d → Leads s t c → Leads s t d
  costs s t c d e l = rw (sym e) l

  pub one_step : (s t : State) (c : ℕ) → step image slots s ≡ Goes c t → Leads s t c
  one_step s t c e = record { steps = 1; gets = Moves t c 0 0 e (Stays refl refl refl) (omega arith) (omega arith) }

  -- a value or an error on the stack, for a cost
  abbrev pub GivesFrom : List Frame → State → List Outcome → ℕ → Option Outcome → ℕ → Type 0
  GivesFrom frames s stack to None cost = Unit {0}
  GivesFrom frames s stack to (Some x) cost = Leads s (on to (x ∷ stack) frames) cost

  pub gives_on : (frames : List Frame) (s m : State) (stack : List Outcome) (to : ℕ) (o : Option Outcome) (c d e : ℕ) → Leads s m c
      → GivesFrom frames m stack to o d → e ≡ c + d → GivesFrom frames s stack to o e
  gives_on frames s m stack to None c d e l r q = tt
  gives_on frames s m stack to (Some x) c d e l r q = costs s _ (c + d) e (sym q) (leads_on s m _ c d l r)

  pub acts : (frames : List Frame) (at : ℕ) (i : Instr) (stack : List Outcome) → Has (code_in image) at i
      → step image slots (on at stack frames) ≡ act (inputs_of image slots) i at stack frames
  acts frames at i stack h = ap (λ o. act_at (inputs_of image slots) o at stack frames) h.is

  module _ (frames : List Frame) where
    -- what the code of an expression does: its value or error on the stack, for its cost
    abbrev pub Gives : ℕ → List Outcome → ℕ → Option Outcome → ℕ → Type 0
    Gives from stack to o cost = GivesFrom frames (on from stack frames) stack to o cost

    pub at_instr : (at : ℕ) (i : Instr) (stack : List Outcome) → Has (code_in image) at i
        → step image slots (on at stack frames) ≡ act (inputs_of image slots) i at stack frames
    at_instr = acts frames

    -- the same under other names of the end, the outcome and the cost
    pub gives_as : (from n to : ℕ) (stack : List Outcome) (o p : Option Outcome) (c d : ℕ) → to ≡ n → p ≡ o → d ≡ c → Gives from stack n o c
        → Gives from stack to p d
    gives_as from n to stack o p c d e f g l = rw (e, f, g) l
