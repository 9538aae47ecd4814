-- What goes on if a rule holds.
use Rattle.std.proofs.Common.{◌≡◌, ℕ, zero, suc, ◌<◌, Bool, true, false, ◌&&◌, List, [], ◌∷◌, length}
use Rattle.std.proofs.Common.{Option, Some, None, refl, sym, arith, true≢false}
use Rattle.std.specs.Prelude.{Ok, Err, slice_get}
use Rattle.cel_verify.specs.declared.fault.VerifyRule.TheVariants.{WrongKind, OverBudget}
use Rattle.cel_verify.specs.StackTypes.{StackTypes, all_assignable}
use Rattle.cel_verify.specs.Sound.{Falls, needs, enters}
use Rattle.cel_verify.specs.Walked.{entered}

pub two_needs : (a b : Bool) (r : Falls) (m : Option StackTypes) → needs (a && b) WrongKind r ≡ Ok m
    → (a ≡ true) × (b ≡ true) × (needs (a && b) WrongKind r ≡ r)
two_needs true true r m e = (refl, refl, refl)
two_needs true false r m e = cc
two_needs false b r m e = cc

pub one_needs : (a : Bool) (r : Falls) (m : Option StackTypes) → needs a WrongKind r ≡ Ok m
    → (a ≡ true) × (needs a WrongKind r ≡ r)
one_needs true r m e = (refl, refl)
one_needs false r m e = cc

pub entered_ok : (o : Option StackTypes) (r : Falls) (n : Option StackTypes) → entered o r ≡ Ok n
    → (m : Option StackTypes) × (r ≡ Ok m)
entered_ok None r n e = (n, e)
entered_ok (Some es) (Err OverBudget) n e = cc
entered_ok (Some es) (Err _) n e = cc
entered_ok (Some es) (Ok m) n e = (m, refl)

pub enters_is : (o : Option StackTypes) (ts : StackTypes) → enters o ts ≡ true
    → (es : StackTypes) × (o ≡ Some es) × (all_assignable ts es ≡ true)
enters_is None ts e = absurd (true≢false (sym e))
enters_is (Some es) ts e = (es, refl, e)

pub get_some : {X : Type 0} (xs : List X) (i : ℕ) → i < length xs → (x : X) × (slice_get xs i ≡ Some x)
get_some [] i h = absurd (omega arith)
get_some (y ∷ ys) zero h = (y, refl)
get_some (y ∷ ys) (suc i) h = get_some ys i (omega arith)

pub no_end : {X : Type 0} (xs : List X) (i : ℕ) → i < length xs → slice_get xs i ≡ None → ⊥
no_end [] i h e = omega arith
no_end (x ∷ xs) zero h e = cc
no_end (x ∷ xs) (suc i) h e = no_end xs i (omega arith) e

pub cons_parts : {X : Type 0} (x y : X) (xs ys : List X) → x ∷ xs ≡ y ∷ ys → (x ≡ y) × (xs ≡ ys)
cons_parts x y xs ys e = (cc, cc)
