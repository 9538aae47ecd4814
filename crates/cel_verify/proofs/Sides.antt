-- What fits a type, seen by kind.
use Rattle.std.proofs.Common.{◌≡◌, ℕ, ◌^◌, List, true, false, Option, Some, None, refl, sym, ◌∙◌, subst, inl, inr, arith, true≢false}
use Rattle.std.proofs.lemmas.Bool.{cases_Bool, le-leb}
use Rattle.std.proofs.lemmas.Option.{none-some, same_Some}
use Rattle.std.specs.Prelude.{Ok, Err, nat_lt}
use Rattle.cel_value.specs.declared.value.Value.{Value, out-Value}
use Rattle.cel_value.specs.declared.value.Value.TheOpen.{Value-F}
use Rattle.cel_value.specs.declared.cel_type.CelType as type
use Rattle.cel_value.specs.declared.cel_type.CelType.{CelType}
use Rattle.cel_value.specs.declared.cel_type.CelType.TheOpen.{CelType-F}
use Rattle.cel_value.specs.CelType.{fits}
use Rattle.cel_value.specs.Value.{code_points}
use Rattle.cel_operators.specs.Outcomes.{Outcome, Side, and_of, or_of}
use Rattle.cel_operators.specs.declared.operands.Want.TheVariants.{Truth}
use Rattle.cel_operators.specs.Wants.{Limit, limit_of, side_of, is_there, is_truth}
use Rattle.cel_operators.proofs.Opened.{fits-levels, bool_fits, out-type-Null, out-type-Bool, out-type-Int, out-type-Uint, out-type-Text}
use Rattle.cel_operators.proofs.Opened.{side_is}
use Rattle.cel_operators.proofs.Taking.{Taken, taken_fits}
use Rattle.cel_verify.specs.StackTypes.{Fits, text_type, constant_type_at, constant_type}

text_level : (v : Value) (bytes : List ℕ) (t : CelType) → out-Value v ≡ Value-F.Text bytes → text_type bytes ≡ Some t → fits v t ≡ true
text_level v bytes t e h =
    let n = code_points bytes in
    elim (cases_Bool (nat_lt n (2 ^ 32))) [
      | inl y ↦
          let here : Some (type.Text n) ≡ Some t = rw y at h in
          subst (λ s. fits v s ≡ true) (same_Some _ _ here)
          (fits-levels v (type.Text n) (Value-F.Text bytes) (CelType-F.Text n) e (out-type-Text n) ∙ le-leb n n (omega arith))
      | inr past ↦ let here : None ≡ Some t = rw past at h in absurd (none-some _ here)
    ]

level_fits : (v : Value) (p : Value-F Value) (t : CelType) → out-Value v ≡ p → constant_type_at p ≡ Some t → fits v t ≡ true
level_fits v Value-F.Null t e h =
    subst (λ s. fits v s ≡ true) (same_Some _ _ h) (fits-levels v type.Null Value-F.Null CelType-F.Null e out-type-Null)
level_fits v (Value-F.Bool b) t e h =
    subst (λ s. fits v s ≡ true) (same_Some _ _ h) (fits-levels v type.Bool (Value-F.Bool b) CelType-F.Bool e out-type-Bool)
level_fits v (Value-F.Int n) t e h =
    subst (λ s. fits v s ≡ true) (same_Some _ _ h) (fits-levels v type.Int (Value-F.Int n) CelType-F.Int e out-type-Int)
level_fits v (Value-F.Uint n) t e h =
    subst (λ s. fits v s ≡ true) (same_Some _ _ h) (fits-levels v type.Uint (Value-F.Uint n) CelType-F.Uint e out-type-Uint)
level_fits v (Value-F.Text bytes) t e h = text_level v bytes t e h
level_fits v _ t e h = absurd (none-some _ h)

pub constant_fits : (v : Value) (t : CelType) → constant_type (Some v) ≡ Some t → Fits (Ok v) t
constant_fits v t h = level_fits v (out-Value v) t refl h

-- what may be a truth value is a side
found : (l : Limit Truth) (o : Option Side) → Taken Truth l o → (s : Side) × (o ≡ Some s)
found l None h = absurd h
found l (Some s) h = (s, refl)

side_by : (x : Outcome) (t : CelType) (o : Option (Limit Truth)) → limit_of Truth t ≡ o → Fits x t → is_there o ≡ true
    → (s : Side) × (side_of (Some x) ≡ Some s)
side_by x t None e h a = absurd (true≢false (sym a))
side_by x t (Some l) e h a = found l (side_of (Some x)) (taken_fits Truth t (Some x) l e h)

pub truth_side : (x : Outcome) (t : CelType) → Fits x t → is_truth t ≡ true → (s : Side) × (side_of (Some x) ≡ Some s)
truth_side x t h a = side_by x t (limit_of Truth t) refl h a

-- a side that ends the operator is a truth value
pub false_side : (x : Outcome) → side_of (Some x) ≡ Some (Ok false) → Fits x type.Bool
false_side x h = subst (λ y. Fits y type.Bool) (sym (side_is x false h)) (bool_fits false)

pub true_side : (x : Outcome) → side_of (Some x) ≡ Some (Ok true) → Fits x type.Bool
true_side x h = subst (λ y. Fits y type.Bool) (sym (side_is x true h)) (bool_fits true)

pub and_fits : (x y : Side) → Fits (and_of x y) type.Bool
and_fits (Ok false) y = bool_fits false
and_fits (Ok true) (Ok b) = bool_fits b
and_fits (Ok true) (Err e) = refl
and_fits (Err e) (Ok false) = bool_fits false
and_fits (Err e) (Ok true) = refl
and_fits (Err e) (Err f) = refl

pub or_fits : (x y : Side) → Fits (or_of x y) type.Bool
or_fits (Ok true) y = bool_fits true
or_fits (Ok false) (Ok b) = bool_fits b
or_fits (Ok false) (Err e) = refl
or_fits (Err e) (Ok true) = bool_fits true
or_fits (Err e) (Ok false) = refl
or_fits (Err e) (Err f) = refl
