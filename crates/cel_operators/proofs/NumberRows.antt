-- The rows of truth values and numbers, and those of all values that are compared, are right.
use Rattle.std.proofs.Common.{◌≡◌, ℕ, zero, suc, ◌-◌, ◌^◌, ◌<◌, ◌≤◌, cond, Bool, true, false, not, List, [], ◌∷◌}
use Rattle.std.proofs.Common.{Option, Some, None, refl, ap, sym, ◌∙◌, inl, inr, arith, true≢false}
use Rattle.std.proofs.lemmas.Bool.{cases_Bool, ltb-true}
use Rattle.std.proofs.lemmas.Option.{none-some}
use Rattle.std.specs.Prelude.{Ok, Err, ℤ, pos, negsuc, int_div, int_lt, nat_lt, nat_le, chars, decimal}
use Rattle.std.specs.Fmt.{signed_decimal}
use Rattle.std.specs.Ordering.{nat_cmp, is_lt}
use Rattle.std.specs.Cmp.Lexicographic.{slice_cmp}
use lib.Signed.{mag}
use Rattle.cel_value.specs.declared.value.Value.{Value, out-Value}
use Rattle.cel_value.specs.declared.value.Value as value
use Rattle.cel_value.specs.declared.value.Value.TheOpen.{Value-F}
use Rattle.cel_value.specs.declared.cel_type.CelType.{CelType, out-CelType}
use Rattle.cel_value.specs.declared.cel_type.CelType as type
use Rattle.cel_value.specs.declared.cel_type.CelType.TheOpen.{CelType-F}
use Rattle.cel_value.specs.declared.cel_error.CelError.TheVariants.{Overflow}
use Rattle.cel_value.specs.CelType.{fits, join as type_join}
use Rattle.cel_value.specs.Fits.{fits_at}
use Rattle.cel_value.specs.JoinRules.{IsBare, same_kind_at, are_of_one_kind}
use Rattle.cel_value.specs.Value.{same, bool_lt}
use Rattle.cel_value.proofs.Bounds.{weight_of-le}
use Rattle.cel_value.proofs.Joins.{IsBareLevel, bare_from}
use Rattle.cel_value.proofs.JoinRules.{join-apart}
use Rattle.cel_operators.proofs.Digits.{int_short, uint_short}
use Rattle.cel_operators.specs.Outcomes.{Outcome, outcome_fits}
use Rattle.cel_operators.specs.Orders.{Order, order_at, AreInOneOrder, Orders, Only, orders_at, less_at, less}
use Rattle.cel_operators.specs.Wants.{Want, Any, Ordered, Wholes, Naturals, Of, Within}
use Rattle.cel_operators.specs.Operators.{One, Two, in_range, int_or_overflow, uint_or_overflow, divided, uint_difference, uint_divided}
use Rattle.cel_operators.specs.Operators.{truth_of, untruth_of, bool_where, lesser_weight, lesser_greatest}
use Rattle.cel_operators.specs.Operators.{fixed_one, equality_row, order_row, ints_row, uints_row}
use Rattle.cel_operators.specs.Operators.{string_of_int, string_of_uint, uint_of_int, left_of, extreme_of}
use Rattle.cel_operators.proofs.Opened.{opened, fits-out, bool_fits, int_fits, uint_fits, text_fits}
use Rattle.cel_operators.proofs.RightRows.{Gives, TwoGood, RowRight, fixed_one_right, compared_gives}

-- an integer that is in range, or Overflow
range_fits : (b : Bool) (n : ℤ) → outcome_fits type.Int (Some (cond b (Ok (value.Int n)) (Err Overflow))) ≡ true
range_fits true n = int_fits n
range_fits false n = refl

pub checked_fits : (n : ℤ) → outcome_fits type.Int (Some (int_or_overflow n)) ≡ true
checked_fits n = range_fits (in_range n) n

pub divided_fits : (f : ℤ → ℤ → ℤ) (a b : ℤ) → outcome_fits type.Int (Some (divided f a b)) ≡ true
divided_fits f a (pos zero) = refl
divided_fits f a (pos (suc n)) = range_fits (in_range (int_div a (pos (suc n)))) (f a (pos (suc n)))
divided_fits f a (negsuc n) = range_fits (in_range (int_div a (negsuc n))) (f a (negsuc n))

-- likewise of unsigned ones
uint_range_fits : (b : Bool) (n : ℕ) → outcome_fits type.Uint (Some (cond b (Ok (value.Uint n)) (Err Overflow))) ≡ true
uint_range_fits true n = uint_fits n
uint_range_fits false n = refl

pub uint_checked_fits : (n : ℕ) → outcome_fits type.Uint (Some (uint_or_overflow n)) ≡ true
uint_checked_fits n = uint_range_fits (nat_lt n (2 ^ 64)) n

pub uint_difference_fits : (m n : ℕ) → outcome_fits type.Uint (Some (uint_difference m n)) ≡ true
uint_difference_fits m n = uint_range_fits (nat_le n m) (m - n)

pub uint_divided_fits : (f : ℕ → ℕ → ℕ) (m n : ℕ) → outcome_fits type.Uint (Some (uint_divided f m n)) ≡ true
uint_divided_fits f m zero = refl
uint_divided_fits f m (suc n) = uint_fits (f m (suc n))

-- an integer, whichever it is
pub int_right : (w : Want) (f : Of w → ℤ) → RowRight (fixed_one w type.Int (λ a. Ok (value.Int (f a))))
int_right w f = fixed_one_right w type.Int (λ a. Ok (value.Int (f a))) (λ a. int_fits (f a))

-- a number as a text of 20 code points at most
within_64 : (z : ℤ) → in_range z ≡ true → mag z < 2 ^ 63
within_64 (pos n) h = ltb-true n (2 ^ 63) h
within_64 (negsuc n) h = ltb-true n (2 ^ 63) h

pub string_of_int_fits : (z : ℤ) → outcome_fits (type.Text 20) (Some (string_of_int z)) ≡ true
string_of_int_fits z = printed (in_range z) refl
  where
    printed : (b : Bool) → in_range z ≡ b
        → outcome_fits (type.Text 20) (Some (cond b (Ok (value.Text (signed_decimal z))) (Err Overflow))) ≡ true
    printed true e = text_fits (signed_decimal z) 20 (int_short z (within_64 z e))
    printed false e = refl

pub string_of_uint_fits : (n : ℕ) → outcome_fits (type.Text 20) (Some (string_of_uint n)) ≡ true
string_of_uint_fits n = printed (nat_lt n (2 ^ 64)) refl
  where
    printed : (b : Bool) → nat_lt n (2 ^ 64) ≡ b
        → outcome_fits (type.Text 20) (Some (cond b (Ok (value.Text (decimal n))) (Err Overflow))) ≡ true
    printed true e = text_fits (decimal n) 20 (uint_short n (ltb-true n (2 ^ 64) e))
    printed false e = refl

pub uint_of_int_fits : (z : ℤ) → outcome_fits type.Uint (Some (uint_of_int z)) ≡ true
uint_of_int_fits (pos n) = uint_fits n
uint_of_int_fits (negsuc n) = refl

-- lists of numbers
pub ints_right : (f : List ℤ → Outcome) → ((ns : List ℤ) → outcome_fits type.Int (Some (f ns)) ≡ true)
    → RowRight (One Wholes (ints_row f))
ints_right f h = λ m. (omega arith, λ ns p. (h ns, omega (arith, p)))

pub uints_right : (f : List ℕ → Outcome) → ((ns : List ℕ) → outcome_fits type.Uint (Some (f ns)) ≡ true)
    → RowRight (One Naturals (uints_row f))
uints_right f h = λ m. (omega arith, λ ns p. (h ns, omega (arith, p)))

pub extreme_fits : {A : Type 0} (f : A → A → A) (v : A → Value) (t : CelType) → ((a : A) → fits (v a) t ≡ true) → (xs : List A)
    → outcome_fits t (Some (extreme_of f v xs)) ≡ true
extreme_fits f v t h [] = refl
extreme_fits f v t h (x ∷ xs) = h (left_of f x xs)

-- what fits weighs at most the greatest weight, and that is 1 at least
one_greatest : (s t : CelType) → 1 ≤ lesser_greatest s t
one_greatest s t = omega (arith, (weight_of-le s).0, (weight_of-le t).0)

weight_within : (v w : Value) (s t : CelType) → fits v s ≡ true → fits w t ≡ true → lesser_weight v w ≤ lesser_greatest s t
weight_within v w s t h k = omega (arith, (weight_of-le s).1 v h, (weight_of-le t).1 w k)

pub equality_right : (f : Bool → Bool) → RowRight (Two Any Any (equality_row f))
equality_right f = λ s t.
    compared_gives s t (TwoGood Any Any (equality_row f) s t)
    (one_greatest s t, λ v w p q. (bool_fits (f (same v w)), weight_within v w s t p q))

-- types of one kind have the same orders
kind_order : (o r : CelType-F CelType) → same_kind_at o r ≡ true → orders_at o ≡ orders_at r
kind_order CelType-F.Never CelType-F.Never h = refl
kind_order CelType-F.Null CelType-F.Null h = refl
kind_order CelType-F.Bool CelType-F.Bool h = refl
kind_order CelType-F.Int CelType-F.Int h = refl
kind_order CelType-F.Uint CelType-F.Uint h = refl
kind_order CelType-F.Timestamp CelType-F.Timestamp h = refl
kind_order CelType-F.Duration CelType-F.Duration h = refl
kind_order (CelType-F.Text m) (CelType-F.Text n) h = refl
kind_order (CelType-F.List m p s) (CelType-F.List n q t) h = refl
kind_order (CelType-F.Map m i s) (CelType-F.Map n j t) h = refl
kind_order (CelType-F.Object fs) (CelType-F.Object gs) h = refl
kind_order (CelType-F.Nullable s) (CelType-F.Nullable t) h = refl
kind_order CelType-F.Opaque CelType-F.Opaque h = refl
kind_order _ _ h = absurd (true≢false (sym h))

-- a type that has a value in an order is none of Never, Null and Nullable
bare_level : (o : CelType-F CelType) (p : Value-F Value) (orders : Orders) → fits_at (opened o) p ≡ true → orders_at o ≡ Some orders
    → IsBareLevel o
bare_level CelType-F.Never p orders h k = absurd (true≢false (sym h))
bare_level CelType-F.Null p orders h k = absurd (none-some _ k)
bare_level (CelType-F.Nullable t) p orders h k = absurd (none-some _ k)
bare_level _ p orders h k = tt

bare_ordered : (v : Value) (t : CelType) → Within Ordered t v → IsBare t
bare_ordered v t p =
    bare_from (out-CelType t) t refl
    (bare_level (out-CelType t) (out-Value v) (Only p.1) (sym (fits-out v t) ∙ p.0) p.3)

-- values of types that have a join are in one order, if they are in any
one_order : (v w : Value) (s t u : CelType) → type_join s t ≡ Some u → Within Ordered s v → Within Ordered t w → AreInOneOrder v w
one_order v w s t u e p q = elim (cases_Bool (are_of_one_kind s t)) [
  | inl y ↦
      let both : Some (Only p.1) ≡ Some (Only q.1) = sym p.3 ∙ kind_order (out-CelType s) (out-CelType t) y ∙ q.3 in
      let same : p.1 ≡ q.1 = cc in
      (p.1, p.2, q.2 ∙ ap Some (sym same))
  | inr n ↦
      absurd
      (none-some _ (sym (join-apart s t (bare_ordered v s p) (bare_ordered w t q) (λ y. true≢false (sym y ∙ n))) ∙ e))
]

turned : (v w : Value) → AreInOneOrder v w → AreInOneOrder w v
turned v w h = (h.0, h.2, h.1)

-- levels in one order are compared
less_there : (p q : Value-F Value) (order : Order) → order_at p ≡ Some order → order_at q ≡ Some order → (b : Bool) × (less_at p q ≡ Some b)
less_there (Value-F.Bool a) (Value-F.Bool b) order h k = (bool_lt a b, refl)
less_there (Value-F.Int m) (Value-F.Int n) order h k = (int_lt m n, refl)
less_there (Value-F.Uint m) (Value-F.Uint n) order h k = (nat_lt m n, refl)
less_there (Value-F.Timestamp m) (Value-F.Timestamp n) order h k = (int_lt m n, refl)
less_there (Value-F.Duration m) (Value-F.Duration n) order h k = (int_lt m n, refl)
less_there (Value-F.Text a) (Value-F.Text b) order h k = (is_lt (slice_cmp nat_cmp (chars a) (chars b)), refl)
less_there _ _ order h k = let no : ⊥ = cc in absurd no

truth_fits : (v w : Value) → AreInOneOrder v w → outcome_fits type.Bool (truth_of (less v w)) ≡ true
truth_fits v w h = let l = less_there (out-Value v) (out-Value w) h.0 h.1 h.2 in rw l.1 (bool_fits l.0)

untruth_fits : (v w : Value) → AreInOneOrder v w → outcome_fits type.Bool (untruth_of (less v w)) ≡ true
untruth_fits v w h = let l = less_there (out-Value v) (out-Value w) h.0 h.1 h.2 in rw l.1 (bool_fits (not l.0))

order_right : (f : Value → Value → Option Outcome) → ((v w : Value) → AreInOneOrder v w → outcome_fits type.Bool (f v w) ≡ true)
    → RowRight (Two Ordered Ordered (order_row f))
order_right f h = λ s t. joined_right s t (type_join s t) refl
  where
    joined_right : (s t : CelType) (o : Option CelType) → type_join s t ≡ o
        → Gives (bool_where o) (TwoGood Ordered Ordered (order_row f) s t)
    joined_right s t None e = tt
    joined_right s t (Some u) e =
        (one_greatest s t, λ v w p q. (h v w (one_order v w s t u e p q), weight_within v w s t p.0 q.0))

pub less_right : RowRight (Two Ordered Ordered (order_row (λ v w. truth_of (less v w))))
less_right = order_right _ truth_fits

pub at_most_right : RowRight (Two Ordered Ordered (order_row (λ v w. untruth_of (less w v))))
at_most_right = order_right _ (λ v w h. untruth_fits w v (turned v w h))

pub greater_right : RowRight (Two Ordered Ordered (order_row (λ v w. truth_of (less w v))))
greater_right = order_right _ (λ v w h. truth_fits w v (turned v w h))

pub at_least_right : RowRight (Two Ordered Ordered (order_row (λ v w. untruth_of (less v w))))
at_least_right = order_right _ untruth_fits
