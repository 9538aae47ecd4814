-- Operands that are taken off a stack, one after another.
use Rattle.std.proofs.Common.{◌≡◌, ℕ, zero, suc, ◌-◌, ◌<◌, List, ◌∷◌, sym, ap, ◌∙◌, arith}
use Rattle.cel_code.specs.Machine.{taken_off}

-- one of them is taken
pub taking : {A : Type 0} (n : ℕ) (taken stack rest after : List A) (x : A) → 0 < n → stack ≡ x ∷ rest → after ≡ x ∷ taken
    → taken_off (n - 1) after rest ≡ taken_off n taken stack
taking zero taken stack rest after x h e f = absurd (omega (arith, h))
taking (suc n) taken stack rest after x h e f =
    let one_less : suc n - 1 ≡ n = omega arith in
    ap (λ k. taken_off k after rest) one_less ∙ (ap (λ a. taken_off n a rest) f ∙ ap (taken_off (suc n) taken) (sym e))
