-- What a rule that holds says of its instruction.
use Rattle.std.proofs.Common.{◌≡◌, ℕ, ◌+◌, ◌<◌, Bool, true, false, ◌&&◌, List, [], ◌∷◌}
use Rattle.std.proofs.Common.{length, Option, Some, None, refl, sym, ap, ◌∙◌}
use Rattle.std.specs.Prelude.{Ok, Err, slice_get, nat_le}
use Rattle.std.proofs.lemmas.Bool.{and_parts}
use Rattle.cel_operators.specs.Wants.{is_there}
use Rattle.cel_code.specs.declared.instr.Instr.{Instr}
use Rattle.cel_code.specs.declared.image.Image.{Image}
use Rattle.cel_verify.specs.declared.fault.VerifyRule.{VerifyRule}
use Rattle.cel_verify.specs.declared.fault.VerifyRule.TheVariants.{BadConstant, BadTarget, BadNesting, TooDeep, WrongKind, OverBudget}
use Rattle.cel_verify.specs.StackTypes.{StackTypes, all_assignable}
use Rattle.cel_verify.specs.Sound.{Open, Label, Falls, needs, every, jumps_of, is_named, is_wanted, is_target, is_nested}
use Rattle.cel_verify.specs.Sound.{on_types, made, unless, untyped, may_stand, is_shallow, first_of, fallen, typed_rule, rule, rule_at}
use Rattle.cel_verify.specs.Sound.{entry_in, label_at, IsWalked}
use Rattle.cel_verify.specs.Sound.{opening, below_all, max_depth, max_loops}
use Rattle.cel_verify.specs.Walked.{shallow, entered}

pub needs_is : (b : Bool) (k : VerifyRule) (r : Falls) (n : Option StackTypes) → needs b k r ≡ Ok n → (b ≡ true) × (r ≡ Ok n)
needs_is true k r n e = (refl, e)
needs_is false k r n e = cc

-- what is no deeper than a stack may be is as it was
pub shallow_is : (opens : List Open) (r : Falls) (n : Option StackTypes) → shallow opens r ≡ Ok n → r ≡ Ok n
shallow_is opens (Ok None) n e = e
shallow_is opens (Ok (Some ts)) n e =
    (needs_is (nat_le (length ts + length (below_all opens)) max_depth && nat_le (length opens) max_loops) TooDeep
    (Ok (Some ts)) n e).1
shallow_is opens (Err k) n e = cc

types_is : (o : Option StackTypes) (f : StackTypes → Falls) (n : Option StackTypes) → on_types o f ≡ Ok n
    → (ts : StackTypes) × (o ≡ Some ts) × (f ts ≡ Ok n)
types_is None f n e = cc
types_is (Some ts) f n e = (ts, refl, e)

-- the conditions of a rule that do not ask what is made of the types, one within the other
conditions : (named wanted aims there nested : Bool) (fs : List (Option VerifyRule)) (next : Option StackTypes)
    → first_of (unless named BadConstant ∷ unless wanted BadTarget ∷ unless aims BadTarget ∷ unless there BadTarget
    ∷ unless nested BadNesting ∷ fs) next
    ≡ needs named BadConstant
    (needs (wanted && aims) BadTarget (needs there BadTarget (needs nested BadNesting (first_of fs next))))
conditions false wanted aims there nested fs next = refl
conditions true false aims there nested fs next = refl
conditions true true false there nested fs next = refl
conditions true true true false nested fs next = refl
conditions true true true true false fs next = refl
conditions true true true true true fs next = refl

-- those that do
deep_end : (b : Bool) (next : Option StackTypes) → first_of (unless b TooDeep ∷ []) next ≡ needs b TooDeep (Ok next)
deep_end true next = refl
deep_end false next = refl

fitting : (a b : Bool) (next : Option StackTypes) → first_of (unless a WrongKind ∷ unless b TooDeep ∷ []) next
    ≡ needs a WrongKind (needs b TooDeep (Ok next))
fitting true b next = deep_end b next
fitting false b next = refl

kept : (a : Bool) (opens : List Open) (ts : StackTypes)
    → needs a WrongKind (shallow opens (Ok (Some ts))) ≡ shallow opens (needs a WrongKind (Ok (Some ts)))
kept true opens ts = refl
kept false opens ts = refl

on_made : (entry : Option StackTypes) (opens : List Open) (falls : Falls)
    → first_of (untyped entry falls ∷ unless (may_stand entry falls) WrongKind ∷ unless (is_shallow opens falls) TooDeep ∷ [])
    (fallen falls)
    ≡ shallow opens (entered entry falls)
on_made None opens (Err k) = refl
on_made (Some es) opens (Err OverBudget) = refl
on_made (Some es) opens (Err _) = refl
on_made None opens (Ok None) = refl
on_made (Some es) opens (Ok None) = refl
on_made None opens (Ok (Some ts)) = deep_end (is_shallow opens (Ok (Some ts))) (Some ts)
on_made (Some es) opens (Ok (Some ts)) =
    fitting (all_assignable ts es) (is_shallow opens (Ok (Some ts))) (Some ts) ∙ kept (all_assignable ts es) opens ts

where_typed : (types : Option StackTypes) (nested : Bool) (opens : List Open) (entry : Option StackTypes) (f : StackTypes → Falls)
    → needs (is_there types) BadTarget (needs nested BadNesting (shallow opens (entered entry (on_types types f))))
    ≡ on_types types (λ ts. needs nested BadNesting (shallow opens (entered entry (f ts))))
where_typed None nested opens entry f = refl
where_typed (Some ts) nested opens entry f = refl

-- an instruction's rule, one condition within the other
pub rule_within : (image : Image) (at : ℕ) (i : Instr) (l : Label) → rule image at i l
    ≡ needs (is_named image i) BadConstant
    (needs (is_wanted image at && every (is_target image at) (jumps_of i)) BadTarget
    (on_types l.types (λ ts. needs (is_nested image at i l.opens) BadNesting
    (shallow (opening image at (Some i) l.types l.opens) (entered (entry_in image.targets (at + 1)) (typed_rule image i l.opens ts))))))
rule_within image at i l =
    let named = is_named image i in
    let wanted = is_wanted image at in
    let aims = every (is_target image at) (jumps_of i) in
    let nested = is_nested image at i l.opens in
    let entry = entry_in image.targets (at + 1) in
    let opens = opening image at (Some i) l.types l.opens in
    let falls = made image i l in
    conditions named wanted aims (is_there l.types) nested
    (untyped entry falls ∷ unless (may_stand entry falls) WrongKind ∷ unless (is_shallow opens falls) TooDeep ∷ []) (fallen falls)
    ∙ ap (λ r. needs named BadConstant (needs (wanted && aims) BadTarget (needs (is_there l.types) BadTarget (needs nested BadNesting r))))
    (on_made entry opens falls)
    ∙ ap (λ r. needs named BadConstant (needs (wanted && aims) BadTarget r))
    (where_typed l.types nested opens entry (typed_rule image i l.opens))

-- the parts of an instruction's rule that holds
pub record Parts (image : Image) (at : ℕ) (i : Instr) (types : Option StackTypes) (opens : List Open)
    (next : Option StackTypes) : Type 0 where
  pub named : is_named image i ≡ true
  pub targets : every (is_target image at) (jumps_of i) ≡ true
  pub here : StackTypes
  pub is : types ≡ Some here
  pub nested : is_nested image at i opens ≡ true
  pub typed : entered (entry_in image.targets (at + 1)) (typed_rule image i opens here) ≡ Ok next
  pub wanted : is_wanted image at ≡ true
  pub deep : shallow (opening image at (Some i) types opens) (entered (entry_in image.targets (at + 1)) (typed_rule image i opens here))
      ≡ Ok next

pub parts_of : (image : Image) (at : ℕ) (i : Instr) (l : Label) (n : Option StackTypes) → rule image at i l ≡ Ok n
    → Parts image at i l.types l.opens n
parts_of image at i l n e =
    let a = needs_is (is_named image i) BadConstant _ n (sym (rule_within image at i l) ∙ e) in
    let b = needs_is (is_wanted image at && every (is_target image at) (jumps_of i)) BadTarget _ n a.1 in
    let c = types_is l.types _ n b.1 in
    let d = needs_is (is_nested image at i l.opens) BadNesting _ n c.2 in
    let both = and_parts (is_wanted image at) (every (is_target image at) (jumps_of i)) b.0 in
    let opens = opening image at (Some i) l.types l.opens in
    record {
      named = a.0;
      targets = both.1;
      here = c.0;
      is = c.1;
      nested = d.0;
      typed = shallow_is opens (entered (entry_in image.targets (at + 1)) (typed_rule image i l.opens c.0)) n d.1;
      wanted = both.0;
      deep = d.1;
    }

pub parts_at : (image : Image) (sound : IsWalked image) (at : ℕ) (i : Instr) (lt : at < length image.code)
    → slice_get image.code at ≡ Some i → Parts image at i (label_at image at).types (label_at image at).opens (sound.each at lt).next
parts_at image sound at i lt h =
    let holds = sound.each at lt in
    parts_of image at i (label_at image at) holds.next (ap (λ o. rule_at image at o (label_at image at)) (sym h) ∙ holds.is)
