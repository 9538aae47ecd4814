-- An operator with operands of certain kinds, from what these are taken as.
use Rattle.std.proofs.Common.{◌≡◌, ℕ, Option, Some, None, Result, Ok, Err, refl, sym, ap, subst, ◌∙◌}
use Rattle.std.specs.Prelude.{if◌then◌else◌}
use Rattle.cel_value.specs.Fits.{is_null}
use Rattle.cel_value.specs.declared.value.Value.{Value, out-Value}
use Rattle.cel_value.specs.declared.value.Value.TheOpen.{Value-F}
use Rattle.cel_value.specs.declared.cel_error.CelError.{CelError}
use Rattle.cel_value.specs.declared.cel_error.CelError.TheVariants.{NullOperand}
use Rattle.cel_operators.specs.declared.operands.Operands.TheVariants as operands
use Rattle.cel_operators.specs.declared.operands.Want.{Want}
use Rattle.cel_operators.specs.declared.operator.Made.{Made}
use Rattle.cel_operators.specs.Operators.{Row, One, Two, operands_of, at_one, at_two, one, two, makes}
use Rattle.cel_operators.specs.Outcomes.{Outcome}
use Rattle.cel_operators.specs.Wants.{Of, taken, kind_at}
use Rattle.cel_operators.specs.declared.operands.Want.TheVariants.{Ordered}
use Rattle.cel_operators_applied.specs.Counted.{counted}
use Rattle.cel_operators_applied.specs.Kinds.{seen_by, alone, both}

pub as_it_is : {A : Type 0} (p : Option (Result A CelError)) → seen_by (λ (a : A). a) p ≡ p
as_it_is None = refl
as_it_is (Some (Err e)) = refl
as_it_is (Some (Ok a)) = refl

-- what a row makes of operands of its kinds
of_one : (r : Row) (w : Want) → operands_of r ≡ operands.One w
    → (f : Of w → Option Made) × ((x : Option Outcome) → at_one r x ≡ one f (taken w x))
of_one (One u r) w e =
    let P : Want → Type 0 = λ v. (f : Of v → Option Made) × ((x : Option Outcome) → at_one (One u r) x ≡ one f (taken v x)) in
    let same : u ≡ w = cc in
    subst P same (λ a. makes (r.answer a) (r.charge a), λ x. refl)
of_one (Two u v r) w e = let no : ⊥ = cc in absurd no

of_two : (r : Row) (v w : Want) → operands_of r ≡ operands.Two v w
    → (f : Of v → Of w → Option Made) × ((x y : Option Outcome) → at_two r x y ≡ two f (taken v x) (taken w y))
of_two (One u r) v w e = let no : ⊥ = cc in absurd no
of_two (Two u z r) v w e =
    let P : Want → Type 0 = λ a. (f : Of a → Of z → Option Made)
    × ((x y : Option Outcome) → at_two (Two u z r) x y ≡ two f (taken a x) (taken z y)) in
    let Q : Want → Type 0 = λ b. (f : Of v → Of b → Option Made)
    × ((x y : Option Outcome) → at_two (Two u z r) x y ≡ two f (taken v x) (taken b y)) in
    let left : u ≡ v = cc in
    let right : z ≡ w = cc in
    subst Q right (subst P left (λ a b. makes (r.answer a b) (r.charge a b), λ x y. refl))

stops : {A B : Type 0} (f : B → Option Made) (g : A → B) (p : Option (Result A CelError)) (m : Option Made)
    → alone p ≡ Err m → m ≡ counted (one f (seen_by g p))
stops f g None m e = cc
stops f g (Some (Err x)) m e = cc
stops f g (Some (Ok a)) m e = let no : ⊥ = cc in absurd no

passes : {A B : Type 0} (f : B → Option Made) (g : A → B) (p : Option (Result A CelError)) (a : A)
    → alone p ≡ Ok a → one f (seen_by g p) ≡ f (g a)
passes f g None a e = let no : ⊥ = cc in absurd no
passes f g (Some (Err x)) a e = let no : ⊥ = cc in absurd no
passes f g (Some (Ok b)) a e = cc

both_stop : {A B C D : Type 0} (f : C → D → Option Made) (g : A → C) (h : B → D) (p : Option (Result A CelError))
    (q : Option (Result B CelError)) (m : Option Made)
    → both p q ≡ Err m → m ≡ counted (two f (seen_by g p) (seen_by h q))
both_stop f g h None q m e = cc
both_stop f g h (Some (Err x)) None m e = cc
both_stop f g h (Some (Err x)) (Some (Err y)) m e = cc
both_stop f g h (Some (Err x)) (Some (Ok b)) m e = cc
both_stop f g h (Some (Ok a)) None m e = cc
both_stop f g h (Some (Ok a)) (Some (Err y)) m e = cc
both_stop f g h (Some (Ok a)) (Some (Ok b)) m e = let no : ⊥ = cc in absurd no

both_pass : {A B C D : Type 0} (f : C → D → Option Made) (g : A → C) (h : B → D) (p : Option (Result A CelError))
    (q : Option (Result B CelError)) (ab : A × B)
    → both p q ≡ Ok ab → two f (seen_by g p) (seen_by h q) ≡ f (g ab.0) (h ab.1)
both_pass f g h None q ab e = let no : ⊥ = cc in absurd no
both_pass f g h (Some (Err x)) None ab e = let no : ⊥ = cc in absurd no
both_pass f g h (Some (Err x)) (Some (Err y)) ab e = let no : ⊥ = cc in absurd no
both_pass f g h (Some (Err x)) (Some (Ok b)) ab e = let no : ⊥ = cc in absurd no
both_pass f g h (Some (Ok a)) None ab e = let no : ⊥ = cc in absurd no
both_pass f g h (Some (Ok a)) (Some (Err y)) ab e = let no : ⊥ = cc in absurd no
both_pass {A = A} {B = B} f g h (Some (Ok a)) (Some (Ok b)) ab e =
    let s : (a, b) ≡ ab = cc in ap (λ (c : A × B). f (g c.0) (h c.1)) s

-- what is answered without the operand is what the row answers
pub one_stops : (r : Row) (w : Want) → operands_of r ≡ operands.One w → {A : Type 0} (g : A → Of w)
    (p : Option (Result A CelError)) (x : Option Outcome) → seen_by g p ≡ taken w x
    → (m : Option Made) → alone p ≡ Err m → m ≡ counted (at_one r x)
one_stops r w e g p x s m b =
    let k = of_one r w e in
    stops k.0 g p m b ∙ ap (λ t. counted (one k.0 t)) s ∙ ap counted (sym (k.1 x))

-- an operand that is taken as a value's content gives the same as the value
pub one_passes : (r : Row) (w : Want) → operands_of r ≡ operands.One w → {A : Type 0} (g : A → Of w)
    (p : Option (Result A CelError)) (x : Option Outcome) → seen_by g p ≡ taken w x
    → (a : A) → alone p ≡ Ok a → (y : Option Outcome) → taken w y ≡ Some (Ok (g a)) → at_one r y ≡ at_one r x
one_passes r w e g p x s a b y t =
    let k = of_one r w e in
    k.1 y ∙ ap (one k.0) t ∙ sym (passes k.0 g p a b) ∙ ap (one k.0) s ∙ sym (k.1 x)

-- likewise of two
pub two_stops : (r : Row) (v w : Want) → operands_of r ≡ operands.Two v w → {A B : Type 0} (g : A → Of v) (h : B → Of w)
    (p : Option (Result A CelError)) (q : Option (Result B CelError)) (x y : Option Outcome)
    → seen_by g p ≡ taken v x → seen_by h q ≡ taken w y
    → (m : Option Made) → both p q ≡ Err m → m ≡ counted (at_two r x y)
two_stops r v w e g h p q x y s t m b =
    let k = of_two r v w e in
    both_stop k.0 g h p q m b ∙ ap (λ i. counted (two k.0 i (seen_by h q))) s ∙ ap (λ i. counted (two k.0 (taken v x) i)) t
    ∙ ap counted (sym (k.1 x y))

pub two_passes : (r : Row) (v w : Want) → operands_of r ≡ operands.Two v w → {A B : Type 0} (g : A → Of v) (h : B → Of w)
    (p : Option (Result A CelError)) (q : Option (Result B CelError)) (x y : Option Outcome)
    → seen_by g p ≡ taken v x → seen_by h q ≡ taken w y → (ab : A × B) → both p q ≡ Ok ab
    → (m n : Option Outcome) → taken v m ≡ Some (Ok (g ab.0)) → taken w n ≡ Some (Ok (h ab.1)) → at_two r m n ≡ at_two r x y
two_passes r v w e g h p q x y s t ab b m n i j =
    let k = of_two r v w e in
    k.1 m n ∙ ap (λ l. two k.0 l (taken w n)) i ∙ ap (two k.0 (Some (Ok (g ab.0)))) j
    ∙ sym (both_pass k.0 g h p q ab b) ∙ ap (λ l. two k.0 l (seen_by h q)) s ∙ ap (two k.0 (taken v x)) t ∙ sym (k.1 x y)

-- both operands, as they were
pub both_are : {A B : Type 0} (p : Option (Result A CelError)) (q : Option (Result B CelError)) (ab : A × B)
    → both p q ≡ Ok ab → (p ≡ Some (Ok ab.0)) × (q ≡ Some (Ok ab.1))
both_are None q ab e = let no : ⊥ = cc in absurd no
both_are (Some (Err x)) None ab e = let no : ⊥ = cc in absurd no
both_are (Some (Err x)) (Some (Err y)) ab e = let no : ⊥ = cc in absurd no
both_are (Some (Err x)) (Some (Ok b)) ab e = let no : ⊥ = cc in absurd no
both_are (Some (Ok a)) None ab e = let no : ⊥ = cc in absurd no
both_are (Some (Ok a)) (Some (Err y)) ab e = let no : ⊥ = cc in absurd no
both_are {A = A} {B = B} (Some (Ok a)) (Some (Ok b)) ab e =
    let s : (a, b) ≡ ab = cc in
    (ap (λ (c : A × B). Some (Ok c.0)) s, ap (λ (c : A × B). Some (Ok c.1)) s)

ordered_at : (u v : Value) (p : Value-F Value) → (if is_null p then Some (Err NullOperand) else kind_at Ordered u p) ≡ Some (Ok v) → u ≡ v
ordered_at u v Value-F.Null e = let no : ⊥ = cc in absurd no
ordered_at u v (Value-F.Bool b) e = cc
ordered_at u v (Value-F.Int n) e = cc
ordered_at u v (Value-F.Uint n) e = cc
ordered_at u v (Value-F.Timestamp n) e = cc
ordered_at u v (Value-F.Duration n) e = cc
ordered_at u v (Value-F.Text t) e = cc
ordered_at u v (Value-F.List vs) e = let no : ⊥ = cc in absurd no
ordered_at u v (Value-F.Map es) e = let no : ⊥ = cc in absurd no
ordered_at u v (Value-F.Object es) e = let no : ⊥ = cc in absurd no
ordered_at u v Value-F.Opaque e = let no : ⊥ = cc in absurd no

-- what is taken for a value that has an order is that value
pub ordered_itself : (x : Option Outcome) (v : Value) → taken Ordered x ≡ Some (Ok v) → taken Ordered (Some (Ok v)) ≡ Some (Ok v)
ordered_itself None v e = let no : ⊥ = cc in absurd no
ordered_itself (Some (Err x)) v e = let no : ⊥ = cc in absurd no
ordered_itself (Some (Ok u)) v e =
    let same : u ≡ v = ordered_at u v (out-Value u) e in
    let P : Value → Type 0 = λ w. taken Ordered (Some (Ok w)) ≡ Some (Ok v) in subst P same e
