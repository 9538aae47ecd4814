-- The innermost loop, which is the last of those that are open.
use Rattle.std.proofs.Common.{◌≡◌, ℕ, zero, suc, Bool, true, false, List, [], ◌∷◌, ◌++◌, length, take, Option, Some, None, Result, Ok, Err}
use Rattle.std.proofs.Common.{IfOk, MatchBool, refl, sym, ap, ◌∙◌, subst, arith, slice_index_or, slice_set}
use Rattle.std.specs.Prelude.{reverse}
use Rattle.std.specs.Option.{option_map}
use Rattle.std.proofs.lemmas.List.{reverse-append}
use Rattle.cel_value.specs.declared.value.Value.{Value}
use Rattle.cel_operators.specs.Outcomes.{Outcome, Side}
use Rattle.cel_operators.specs.Wants.{side_of}
use Rattle.cel_value.specs.declared.expr.Loop.{Loop}
use Rattle.cel_value.specs.declared.expr.Loop.TheVariants.{All, Exists, ExistsOne, Filter, Map}
use Rattle.cel_operators.specs.Loops.{GoesOn, turn}
use Rattle.cel_operators.specs.declared.accumulator.Accumulator.{Accumulator}
use Rattle.cel_code.specs.Machine.{Frame, on, Goes, gone_on, turned as turn_done}
use Rattle.cel_machine.specs.declared.turns.Turned.{Turned}
use Rattle.cel_machine.specs.declared.turns.Turned.TheVariants as turned
use Rattle.cel_machine.specs.Ranges.{taking, with_gathered}
use Rattle.cel_machine.specs.Turns.{passes, turn_by, turn_side}
use Rattle.cel_machine.specs.Follow.{advanced, below_top, gone_in, next_in, passed_in, top_of, turned_in}

-- the last of a list, and another one in its place
last_is : {A : Type 0} (xs : List A) (i : ℕ) (d : A) → suc i ≡ length xs → xs ≡ take i xs ++ slice_index_or xs i d ∷ []
last_is [] i d e = absurd (omega arith)
last_is (x ∷ []) zero d e = refl
last_is (x ∷ []) (suc i) d e = absurd (omega arith)
last_is (x ∷ z ∷ zs) zero d e = absurd (omega arith)
last_is (x ∷ z ∷ zs) (suc i) d e = ap (λ l. x ∷ l) (last_is (z ∷ zs) i d (omega arith))

last_set : {A : Type 0} (xs : List A) (i : ℕ) (y : A) → suc i ≡ length xs → slice_set xs i y ≡ take i xs ++ y ∷ []
last_set [] i y e = absurd (omega arith)
last_set (x ∷ []) zero y e = refl
last_set (x ∷ []) (suc i) y e = absurd (omega arith)
last_set (x ∷ z ∷ zs) zero y e = absurd (omega arith)
last_set (x ∷ z ∷ zs) (suc i) y e = ap (λ l. x ∷ l) (last_set (z ∷ zs) i y (omega arith))

-- in reverse order, it is the first
innermost : {A : Type 0} (xs : List A) (i : ℕ) (f : A) → suc i ≡ length xs → f ≡ slice_index_or xs i f
    → reverse xs ≡ f ∷ reverse (take i xs)
innermost xs i f e h =
    ap reverse (last_is xs i f e) ∙ ap (λ x. reverse (take i xs ++ x ∷ [])) (sym h) ∙ reverse-append (take i xs) (f ∷ [])

innermost_set : {A : Type 0} (xs : List A) (i : ℕ) (g : A) → suc i ≡ length xs → reverse (slice_set xs i g) ≡ g ∷ reverse (take i xs)
innermost_set xs i g e = ap reverse (last_set xs i g e) ∙ reverse-append (take i xs) (g ∷ [])

-- another one in its place is on top of what was below
pub set_over : (xs : List Outcome) (i : ℕ) (x y : Outcome) → suc i ≡ length xs → x ≡ slice_index_or xs i x
    → reverse (slice_set xs i y) ≡ y ∷ below_top (reverse xs)
set_over xs i x y e h = innermost_set xs i y e ∙ ap (λ s. y ∷ below_top s) (sym (innermost xs i x e h))

-- the innermost loop in its place, at its next item
pub advancing : (r : Bool) (xs : List Frame) (i : ℕ) (f g : Frame) → suc i ≡ length xs → f ≡ slice_index_or xs i f
    → MatchBool r (taking f f.left ≡ Some g) (f.left ≡ [])
    → MatchBool r (advanced (reverse xs) ≡ Some (reverse (slice_set xs i g))) (advanced (reverse xs) ≡ None)
advancing true xs i f g e h a =
    ap advanced (innermost xs i f e h) ∙ ap (λ t. option_map (λ k. k ∷ reverse (take i xs)) t) a
    ∙ ap (λ l. Some l) (sym (innermost_set xs i g e))
advancing false xs i f g e h a =
    ap advanced (innermost xs i f e h) ∙ ap (λ l. option_map (λ k. k ∷ reverse (take i xs)) (taking f l)) a

-- a truth value that changes nothing of what is gathered
passed_side : (l : Loop) (v : Value) (a : Accumulator) (s : Option Side) → passes l s ≡ true → turn_side l v a s ≡ Some (GoesOn a)
passed_side All v a None e = cc
passed_side All v a (Some (Ok true)) e = refl
passed_side All v a (Some (Ok false)) e = cc
passed_side All v a (Some (Err x)) e = cc
passed_side Exists v a None e = cc
passed_side Exists v a (Some (Ok true)) e = cc
passed_side Exists v a (Some (Ok false)) e = refl
passed_side Exists v a (Some (Err x)) e = cc
passed_side ExistsOne v a None e = cc
passed_side ExistsOne v a (Some (Ok true)) e = cc
passed_side ExistsOne v a (Some (Ok false)) e = refl
passed_side ExistsOne v a (Some (Err x)) e = cc
passed_side Filter v a None e = cc
passed_side Filter v a (Some (Ok true)) e = cc
passed_side Filter v a (Some (Ok false)) e = refl
passed_side Filter v a (Some (Err x)) e = cc
passed_side Map v a s e = cc

passed : (l : Loop) (v : Value) (a : Accumulator) (x : Outcome) → passes l (side_of (Some x)) ≡ true → turn l v a (Some x) ≡ Some (GoesOn a)
passed All v a x e = passed_side All v a (side_of (Some x)) e
passed Exists v a x e = passed_side Exists v a (side_of (Some x)) e
passed ExistsOne v a x e = passed_side ExistsOne v a (side_of (Some x)) e
passed Filter v a x e = passed_side Filter v a (side_of (Some x)) e
passed Map v a x e = cc

-- if it changes nothing, the innermost loop goes on
pub passing : (stack : List Outcome) (frames : List Frame) (x : Outcome) → top_of stack ≡ Some x
    → passed_in (side_of (Some x)) frames ≡ true
    → next_in stack frames ≡ gone_in (below_top stack) frames
passing [] frames x t e = cc
passing (y ∷ stack) [] x t e = cc
passing (y ∷ stack) (f ∷ frames) x t e =
    let same : x ≡ y = cc in
    let goes : passes f.mode (side_of (Some y)) ≡ true = subst (λ z. passes f.mode (side_of (Some z)) ≡ true) same e in
    ap (λ u. turn_done f u stack frames) (passed f.mode f.item f.gathered y goes)

gone_same : (f : Frame) (a : Accumulator) (vs : List Value) (stack : List Outcome) (rest : List Frame)
    → gone_on (with_gathered a f) vs a stack rest ≡ gone_on f vs a stack rest
gone_same f a [] stack rest = refl
gone_same f a (v ∷ vs) stack rest = refl

-- what a turn does, by the loop with what it has gathered
told : (t : Turned) (f g : Frame) (stack : List Outcome) (rest : List Frame) → g ≡ with_gathered g.gathered f
    → turn_done f (turn_by t g.gathered) stack rest ≡ turned_in t stack (g ∷ rest)
told turned.IsStuck f g stack rest e = refl
told turned.GoesOn f g stack rest e =
    sym (gone_same f g.gathered f.left stack rest) ∙ sym (ap (λ (h : Frame). gone_on h h.left h.gathered stack rest) e)
told (turned.Closes x) f g stack rest e = sym (ap (λ (h : Frame). Goes 0 (on h.exit (x ∷ stack) rest)) e)

-- a turn of the innermost loop in its place
pub turning : {E : Type 0} (r : Result Turned E) (xs : List Frame) (i : ℕ) (f g : Frame) (x : Outcome) → suc i ≡ length xs
    → f ≡ slice_index_or xs i f → IfOk r (λ t. turn_by t g.gathered ≡ turn f.mode f.item f.gathered (Some x))
    → g ≡ with_gathered g.gathered f
    → IfOk r (λ t. (stack : List Outcome) → next_in (x ∷ stack) (reverse xs) ≡ turned_in t stack (reverse (slice_set xs i g)))
turning (Ok t) xs i f g x e h d k = λ stack.
    ap (λ fs. next_in (x ∷ stack) fs) (innermost xs i f e h)
    ∙ ap (λ u. turn_done f u stack (reverse (take i xs))) (sym d)
    ∙ told t f g stack (reverse (take i xs)) k
    ∙ ap (λ fs. turned_in t stack fs) (sym (innermost_set xs i g e))
turning (Err y) xs i f g x e h d k = d
