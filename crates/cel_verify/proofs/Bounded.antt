-- No instruction of a sound image has more operands than a stack may have.
use Rattle.std.proofs.Common.{◌≡◌, ℕ, zero, suc, ◌+◌, ◌<◌, ◌≤◌, Bool, true, false, cond, not}
use Rattle.std.proofs.Common.{◌&&◌, ◌||◌, nat_eq, List, [], ◌∷◌, length, length-append, Option, Some, None}
use Rattle.std.proofs.Common.{refl, sym, ap, ◌∙◌, subst, inl, inr, ⊎_elim, arith, add-one, true≢false}
use Rattle.std.specs.Prelude.{Ok, Err, slice_get, nat_le, nat_lt}
use Rattle.std.proofs.lemmas.Bool.{and_parts, or_cases, eqb-true, leb-true}
use Rattle.std.proofs.lemmas.Option.{slice_get_within, same_Some}
use Rattle.cel_value.specs.declared.cel_type.CelType.{CelType}
use Rattle.cel_value.specs.declared.cel_type.CelType as type
use Rattle.cel_value.specs.CelType.{assignable}
use Rattle.cel_value.specs.declared.expr.Loop.{Loop}
use Rattle.cel_code.specs.declared.instr.Instr.{Instr}
use Rattle.cel_code.specs.declared.instr.Instr.TheVariants.{Const, Op, WithText, AndTest, OrTest, And, Or, Cond}
use Rattle.cel_code.specs.declared.instr.Instr.TheVariants.{Jump, End, Slot, Local, Item, When, Next}
use Rattle.cel_code.specs.declared.instr.Instr.TheVariants as instr
use Rattle.cel_code.specs.declared.image.Image.{Image}
use Rattle.cel_code.specs.LoopNumbers.{loop_kind}
use Rattle.cel_operators.specs.Wants.{is_there, is_truth}
use Rattle.cel_verify.specs.declared.fault.VerifyRule.TheVariants.{TooDeep, WrongKind, OverBudget}
use Rattle.cel_verify.specs.Bodies.{same_body}
use Rattle.cel_verify.specs.StackTypes.{StackTypes, all_assignable}
use Rattle.cel_verify.specs.Sound.{Falls, Open, some_of, every, jumps_of, is_jumped, is_target, is_placed, enters, kind_rule}
use Rattle.cel_verify.specs.Sound.{typed_rule, entry_in, entry_or, fallen, opening, still_open, below_all}
use Rattle.cel_verify.specs.Sound.{IsWalked, max_depth, max_loops}
use Rattle.cel_verify.specs.Paths.{IsIn}
use Rattle.cel_verify.specs.Typed.{types_at, opens_at}
use Rattle.cel_verify.specs.Depths.{operands_of, depth_at, deepest, greatest_depth, most_open, greatest_nesting}
use Rattle.cel_verify.specs.Walked.{shallow, entered}
use Rattle.cel_verify.proofs.Falling.{entered_ok, enters_is, two_needs, one_needs, get_some}
use Rattle.cel_verify.proofs.RuleParts.{needs_is, Parts, parts_at}
use Rattle.cel_verify.proofs.PathSums.{every_in, is_ahead}
use Rattle.cel_verify.proofs.Nests.{loop_ruled, same_opens}
pub use Rattle.cel_verify.proofs.StepBound.{steps_bound}

same_long : (ss ts : StackTypes) → all_assignable ss ts ≡ true → length ss ≡ length ts
same_long [] [] h = refl
same_long [] (t ∷ ts) h = absurd (true≢false (sym h))
same_long (s ∷ ss) [] h = absurd (true≢false (sym h))
same_long (s ∷ ss) (t ∷ ts) h =
    let r = same_long ss ts (and_parts (assignable s t) (all_assignable ss ts) h).1 in
    omega arith

-- the instruction that jumps to another
record Jumper (code : List Instr) (to : ℕ) : Type 0 where
  at : ℕ
  instr : Instr
  is : slice_get code at ≡ Some instr
  jumps : IsIn to (jumps_of instr)

-- one of these is the number
one_is : (ts : List ℕ) (to : ℕ) → some_of (λ t. nat_eq t to) ts ≡ true → IsIn to ts
one_is [] to h = absurd (true≢false (sym h))
one_is (t ∷ ts) to h =
    ⊎_elim (λ a. inl (sym (eqb-true t to a))) (λ b. inr (one_is ts to b)) (or_cases (nat_eq t to) (some_of (λ u. nat_eq u to) ts) h)

jumper : (code : List Instr) (to : ℕ) → is_jumped code to ≡ true → Jumper code to
jumper [] to h = absurd (true≢false (sym h))
jumper (i ∷ is) to h =
    ⊎_elim (λ a. record { at = 0; instr = i; is = refl; jumps = one_is (jumps_of i) to a })
    (λ b. let r = jumper is to b in record { at = suc r.at; instr = r.instr; is = r.is; jumps = r.jumps })
    (or_cases (some_of (λ t. nat_eq t to) (jumps_of i)) (is_jumped is to) h)

-- the types where a jump arrives are no more than those that it leaves
enters_long : (o : Option StackTypes) (ts es : StackTypes) → enters o ts ≡ true → o ≡ Some es → length es ≤ length ts
enters_long o ts es h e =
    let r = enters_is o ts h in
    let same : r.0 ≡ es = cc (r.1, e) in
    let long = same_long ts r.0 r.2 in
    omega (arith, ap (length {A = CelType}) same)

-- a loop leaves as much as it takes
loop_long : (k : Option Loop) (o : Option StackTypes) (ts es : StackTypes) (m : Option StackTypes) → kind_rule k o ts ≡ Ok m
    → o ≡ Some es → length es ≤ length ts
loop_long k o ts es m h e =
    let r = loop_ruled k o ts m h in
    let same : r.after ≡ es = same_Some r.after es (sym r.after_is ∙ e) in
    let long = same_long (r.empty ∷ r.rest) r.after r.goes in
    omega (arith, ap (length {A = CelType}) same, ap (length {A = CelType}) r.is)

jump_long : (image : Image) (i : Instr) (opens : List Open) (ts es : StackTypes) (m : Option StackTypes) (to : ℕ)
    → typed_rule image i opens ts ≡ Ok m → IsIn to (jumps_of i) → entry_in image.targets to ≡ Some es → length es ≤ length ts
jump_long image (AndTest u) opens [] es m to h j e = cc
jump_long image (AndTest u) opens (t ∷ ts) es m to h j e =
    let o = entry_in image.targets u in
    let p = two_needs (is_truth t) (enters o (type.Bool ∷ ts)) (Ok (Some (t ∷ ts))) m h in
    ⊎_elim (λ q. enters_long o (type.Bool ∷ ts) es p.1 (ap (entry_in image.targets) (sym q) ∙ e)) (λ x. absurd x) j
jump_long image (OrTest u) opens [] es m to h j e = cc
jump_long image (OrTest u) opens (t ∷ ts) es m to h j e =
    let o = entry_in image.targets u in
    let p = two_needs (is_truth t) (enters o (type.Bool ∷ ts)) (Ok (Some (t ∷ ts))) m h in
    ⊎_elim (λ q. enters_long o (type.Bool ∷ ts) es p.1 (ap (entry_in image.targets) (sym q) ∙ e)) (λ x. absurd x) j
jump_long image (Cond f g) opens [] es m to h j e = cc
jump_long image (Cond f g) opens (t ∷ ts) es m to h j e =
    let a = entry_in image.targets f in
    let b = entry_in image.targets g in
    let p = two_needs (is_truth t) (enters a ts && enters b (type.Never ∷ ts)) (Ok (Some ts)) m h in
    let q = and_parts (enters a ts) (enters b (type.Never ∷ ts)) p.1 in
    ⊎_elim (λ k. let l = enters_long a ts es q.0 (ap (entry_in image.targets) (sym k) ∙ e) in omega arith)
    (λ r. ⊎_elim (λ k. enters_long b (type.Never ∷ ts) es q.1 (ap (entry_in image.targets) (sym k) ∙ e)) (λ x. absurd x) r)
    j
jump_long image (Jump u) opens ts es m to h j e =
    let o = entry_in image.targets u in
    let p = one_needs (enters o ts) (Ok None) m h in
    ⊎_elim (λ q. enters_long o ts es p.0 (ap (entry_in image.targets) (sym q) ∙ e)) (λ x. absurd x) j
jump_long image (Const k) opens ts es m to h j e = absurd j
jump_long image (Slot k) opens ts es m to h j e = absurd j
jump_long image (Op k) opens ts es m to h j e = absurd j
jump_long image (WithText op k) opens ts es m to h j e = absurd j
jump_long image (instr.List n) opens ts es m to h j e = absurd j
jump_long image (instr.Map n) opens ts es m to h j e = absurd j
jump_long image And opens ts es m to h j e = absurd j
jump_long image Or opens ts es m to h j e = absurd j
jump_long image End opens ts es m to h j e = absurd j
jump_long image (instr.Loop l exit) opens ts es m to h j e =
    let o = entry_in image.targets exit in
    ⊎_elim (λ q. loop_long (loop_kind l) o ts es m h (ap (entry_in image.targets) (sym q) ∙ e)) (λ x. absurd x) j
jump_long image (Local d) opens ts es m to h j e = absurd j
jump_long image Item opens ts es m to h j e = absurd j
jump_long image When opens ts es m to h j e = absurd j
jump_long image Next opens ts es m to h j e = absurd j

-- what goes on is no deeper than a stack may be, with no more loops open than may be
abbrev Shallow : List Open → StackTypes → Type 0
Shallow opens ns = (length ns + length (below_all opens) ≤ max_depth) × (length opens ≤ max_loops)

shallow_long : (opens : List Open) (r : Falls) (ns : StackTypes) → shallow opens r ≡ Ok (Some ns) → Shallow opens ns
shallow_long opens (Ok None) ns e = cc
shallow_long opens (Ok (Some ts)) ns e =
    let deep = nat_le (length ts + length (below_all opens)) max_depth in
    let p = needs_is (deep && nat_le (length opens) max_loops) TooDeep (Ok (Some ts)) (Some ns) e in
    let same : ts ≡ ns = cc p.1 in
    let both = and_parts deep (nat_le (length opens) max_loops) p.0 in
    subst (Shallow opens) same (
      leb-true (length ts + length (below_all opens)) max_depth both.0,
      leb-true (length opens) max_loops both.1,
    )
shallow_long opens (Err k) ns e = cc

-- the loops that stay open are no more, and have no more below them
still_fewer : (at : ℕ) (os : List Open)
    → (length (below_all (still_open at os)) ≤ length (below_all os)) × (length (still_open at os) ≤ length os)
still_fewer at [] = (omega arith, omega arith)
still_fewer at (o ∷ os) = by (nat_lt at o.exit) (still_fewer at os)
  where
    by : (b : Bool)
        → ((length (below_all (still_open at os)) ≤ length (below_all os)) × (length (still_open at os) ≤ length os))
        → (length (below_all (cond b (o ∷ os) (still_open at os))) ≤ length (below_all (o ∷ os)))
        × (length (cond b (o ∷ os) (still_open at os)) ≤ length (o ∷ os))
    by true r = (omega arith, omega arith)
    by false r = let parts = length-append o.below (below_all os) in (omega (arith, r.0), omega (arith, r.1))

-- what falls on to an entry is as long as it
entry_long : (o : Option StackTypes) (r : Falls) (ns ts : StackTypes) → entered o r ≡ Ok (Some ns) → entry_or o (Some ns) ≡ Some ts
    → length ts ≡ length ns
entry_long None r ns ts h e = let same : ns ≡ ts = cc e in ap (length {A = CelType}) (sym same)
entry_long (Some es) (Err OverBudget) ns ts h e = cc
entry_long (Some es) (Err _) ns ts h e = cc
entry_long (Some es) (Ok None) ns ts h e = cc
entry_long (Some es) (Ok (Some ms)) ns ts h e =
    let p = needs_is (all_assignable ms es) WrongKind (Ok (Some ms)) (Some ns) h in
    let same : ms ≡ ns = cc p.1 in
    let here : es ≡ ts = cc e in
    let long = same_long ms es p.0 in
    omega (arith, ap (length {A = CelType}) same, ap (length {A = CelType}) here)

is_jumped_where : (o : Option StackTypes) (b : Bool) (ts : StackTypes) → o ≡ Some ts → (not (is_there o) || b) ≡ true → b ≡ true
is_jumped_where None b ts e h = cc
is_jumped_where (Some es) b ts e h = h

entry_is : (o : Option StackTypes) (ts : StackTypes) → entry_or o None ≡ Some ts → o ≡ Some ts
entry_is None ts e = e
entry_is (Some es) ts e = e

module _ (image : Image) (sound : IsWalked image) where
  -- an instruction has no more operands and open loops than there may be
  abbrev Within : ℕ → Type 0
  Within at = (depth_at image at ≤ max_depth) × (length (opens_at image at) ≤ max_loops)

  abbrev Before : ℕ → Type 0
  Before n = (at : ℕ) → at < n → at < length image.code → Within at

  -- after an instruction that goes on
  within_next : (k : ℕ) (i : Instr) (ns ts : StackTypes) → slice_get image.code k ≡ Some i
      → Parts image k i (types_at image k) (opens_at image k) (Some ns) → entry_or (entry_in image.targets (suc k)) (Some ns) ≡ Some ts
      → types_at image (suc k) ≡ Some ts → Within (suc k)
  within_next k i ns ts hi p q e =
      let sucs : k + 1 ≡ suc k = add-one k in
      let entry = entry_in image.targets (k + 1) in
      let falls = typed_rule image i (opens_at image k) p.here in
      let fell = entry_long entry falls ns ts p.typed (ap (λ m. entry_or (entry_in image.targets m) (Some ns)) sucs ∙ q) in
      let opens = opening image k (Some i) (types_at image k) (opens_at image k) in
      let deep = shallow_long opens (entered entry falls) ns p.deep in
      let still = still_fewer (suc k) opens in
      let same : opens_at image (suc k) ≡ still_open (suc k) opens =
      ap (λ o. still_open (suc k) (opening image k o (types_at image k) (opens_at image k))) hi in
      let below : length (below_all (opens_at image (suc k))) ≡ length (below_all (still_open (suc k) opens)) =
      ap (λ os. length (below_all os)) same in
      let loops : length (opens_at image (suc k)) ≡ length (still_open (suc k) opens) = ap (length {A = Open}) same in
      let own : operands_of (types_at image (suc k)) ≡ length ts = ap operands_of e in
      (omega (arith, deep.0, still.0), omega (arith, deep.1, still.1))

  -- where only jumps arrive
  within_jump : (to : ℕ) (ts : StackTypes) → to < length image.code → Before to → entry_in image.targets to ≡ Some ts
      → types_at image to ≡ Some ts → Within to
  within_jump to ts inside before there e =
      let i = get_some image.code to inside in
      let wanted = (parts_at image sound to i.0 inside i.1).wanted in
      let from = jumper image.code to (is_jumped_where (entry_in image.targets to) (is_jumped image.code to) ts there wanted) in
      let inner : from.at < length image.code = slice_get_within image.code from.at from.instr from.is in
      let r = parts_at image sound from.at from.instr inner from.is in
      let target = every_in (is_target image from.at) (jumps_of from.instr) to r.targets from.jumps in
      let ahead = (is_ahead image from.at to target).0 in
      let opens = opens_at image from.at in
      let falls = typed_rule image from.instr opens r.here in
      let m = entered_ok (entry_in image.targets (from.at + 1)) falls (sound.each from.at inner).next r.typed in
      let less = jump_long image from.instr opens r.here ts m.0 to m.1 from.jumps there in
      let placed = is_placed image from.at from.instr opens in
      let nest = and_parts placed (every (same_body image.code from.at) (jumps_of from.instr)) r.nested in
      let body = every_in (same_body image.code from.at) (jumps_of from.instr) to nest.1 from.jumps in
      let same = same_opens image sound from.at to (omega (arith, inner)) (omega (arith, inside)) body in
      let known = before from.at (omega (arith, ahead)) inner in
      let below : length (below_all (opens_at image to)) ≡ length (below_all opens) = ap (λ os. length (below_all os)) same in
      let loops : length (opens_at image to) ≡ length opens = ap (length {A = Open}) same in
      let own : operands_of (types_at image to) ≡ length ts = ap operands_of e in
      let here : operands_of (types_at image from.at) ≡ length r.here = ap operands_of r.is in
      (omega (arith, known.0), omega (arith, known.1))

  within_by : (k : ℕ) (i : Instr) (ts : StackTypes) (next : Option StackTypes) → slice_get image.code k ≡ Some i
      → suc k < length image.code → Before (suc k) → Parts image k i (types_at image k) (opens_at image k) next
      → entry_or (entry_in image.targets (suc k)) next ≡ Some ts → types_at image (suc k) ≡ Some ts → Within (suc k)
  within_by k i ts (Some ns) hi inside before p q e = within_next k i ns ts hi p q e
  within_by k i ts None hi inside before p q e =
      within_jump (suc k) ts inside before (entry_is (entry_in image.targets (suc k)) ts q) e

  within_at : (at : ℕ) → at < length image.code → Before at → Within at
  within_at zero inside before = (omega arith, omega arith)
  within_at (suc k) inside before =
      let lt : k < length image.code = omega arith in
      let i = get_some image.code k lt in
      let p = parts_at image sound k i.0 lt i.1 in
      let holds = sound.each k lt in
      let j = get_some image.code (suc k) inside in
      let here = parts_at image sound (suc k) j.0 inside j.1 in
      let entry = ap (entry_or (entry_in image.targets (suc k))) (ap fallen (sym holds.is)) ∙ here.is in
      within_by k i.0 here.here holds.next i.1 inside before p entry here.is

  all_before : (n : ℕ) → Before n
  all_before zero = λ at lt inside. absurd (omega arith)
  all_before (suc n) =
      let before : Before n = all_before n in
      λ at lt inside. within_at at inside (λ k less more. before k (omega arith) more)

  deepest_long : (n : ℕ) → n ≤ length image.code → deepest image n ≤ max_depth
  deepest_long zero h = omega arith
  deepest_long (suc n) h =
      let a = deepest_long n (omega arith) in
      let b = (all_before (suc n) n (omega arith) (omega arith)).0 in
      omega arith

  most_long : (n : ℕ) → n ≤ length image.code → most_open image n ≤ max_loops
  most_long zero h = omega arith
  most_long (suc n) h =
      let a = most_long n (omega arith) in
      let b = (all_before (suc n) n (omega arith) (omega arith)).1 in
      omega arith

  -- at every instruction
  pub greatest_within : greatest_depth image ≤ max_depth
  greatest_within = deepest_long (length image.code) (omega arith)

  pub greatest_nested : greatest_nesting image ≤ max_loops
  greatest_nested = most_long (length image.code) (omega arith)
