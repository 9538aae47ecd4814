-- Numbers from digits.
use Rattle.std.proofs.Common.{◌≡◌, ℕ, ◌+◌, ◌*◌, ◌<◌, ◌≤◌, Bool, true, false, cond, List}
use Rattle.std.proofs.Common.{[], ◌∷◌, Some, None, length, drop, get_or, refl, arith, rules}
use Rattle.std.specs.Prelude.{nat_le}
use Rattle.std.specs.Char.{digit_value}
use Rattle.std.proofs.lemmas.List.{at_drop_more}
use Rattle.std.proofs.Math.Nat.{le-mul_of_pos_right}
use Rattle.cel_lex.specs.Numbers.{at_most, value_of}

value_grows : (base n : ℕ) (ds : List ℕ) → 1 ≤ base → n ≤ value_of base n ds
value_grows base n [] some = omega arith
value_grows base n (d ∷ ds) some =
    let h = value_grows base (n * base + digit_value d) ds some in
    let g : n ≤ n * base = le-mul_of_pos_right n (omega arith) in
    omega arith

none_by : (b : Bool) (v : ℕ) → b ≡ false → None ≡ cond b (Some v) None
none_by true v e = absurd cc
none_by false v e = refl

is_past : (most v : ℕ) → most < v → None ≡ at_most most v
is_past most v lt = none_by (nat_le v most) v (search (rules))

-- the digits so far are past the most
pub past_now : (most base : ℕ) (ds : List ℕ) (i v : ℕ) → 1 ≤ base → i < length ds
    → most < v * base + digit_value (get_or ds i 0) → value_of base v (drop i ds) ≡ value_of base 0 ds
    → None ≡ at_most most (value_of base 0 ds)
past_now most base ds i v some lt over kept =
    let step = at_drop_more (value_of base v) ds i 0 lt in
    let grows = value_grows base (v * base + digit_value (get_or ds i 0)) (drop (i + 1) ds) some in
    is_past most (value_of base 0 ds) (omega (arith, step, kept))
