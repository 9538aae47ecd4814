-- What an instruction's rule makes of the types and of the open loops.
use Rattle.std.proofs.Common.{◌≡◌, ◌≢◌, ℕ, suc, ◌+◌, ◌-◌, ◌<◌, ◌≤◌, Bool, true, false, cond, not, ◌&&◌, ◌||◌, min, List, [], ◌∷◌}
use Rattle.std.proofs.Common.{◌++◌, length}
use Rattle.std.proofs.Common.{Option, Some, None, refl, sym, ap, subst, ◌∙◌, inl, inr, ⊎_elim, arith, length-append, true≢false}
use Rattle.std.specs.Borrow.{Bor}
use Rattle.std.specs.Prelude.{Result, Ok, Err, MatchResult, MatchOption, option_copied, slice_get, nat_le, nat_lt, nat_eq, reverse}
use Rattle.std.specs.Slice.{IsItemAt}
use Rattle.std.proofs.lemmas.Bool.{cases_lt, lt-leb, le-leb, le-ltb, lt-ltb, eqb-true, leb-true, leb-false, not-false, and_parts}
use Rattle.std.proofs.lemmas.List.{reverse-append, length-reverse, get_or-reverse}
use Rattle.std.proofs.lemmas.Option.{slice_get-get_or, slice_get_past}
use Rattle.base_containers.specs.Failures.{Fails}
use Rattle.cel_value.specs.declared.cel_type.CelType.{CelType}
use Rattle.cel_value.specs.declared.cel_type.CelType as type
use Rattle.cel_value.specs.declared.expr.Loop.{Loop}
use Rattle.cel_operators.specs.declared.type_rule.TypeRule.{TypeRule}
use Rattle.cel_operators.specs.Loops.{loop_type}
use Rattle.cel_operators.specs.Wants.{limit_of}
use Rattle.cel_operators.specs.declared.limit.Span.{Span}
use Rattle.cel_operators.specs.declared.operands.Want.TheVariants.{Ranged}
use Rattle.cel_code.specs.declared.instr.Instr.{Instr}
use Rattle.cel_code.specs.declared.instr.Instr.TheVariants as instr
use Rattle.cel_code.specs.declared.image.Image.{Image}
use Rattle.cel_code.specs.LoopNumbers.{loop_kind}
use Rattle.cel_verify.specs.declared.fault.VerifyRule.{VerifyRule}
use Rattle.cel_verify.specs.declared.fault.VerifyRule.TheVariants.{WrongKind, TooDeep, OverBudget}
use Rattle.cel_verify.specs.declared.open_loop.Open.{Open}
use Rattle.base_containers.specs.declared.failed.Failed.{Failed}
use Rattle.base_containers.specs.declared.failed.Failed.TheVariants.{Fault, OutOfMemory}
use Rattle.cel_verify.specs.StackTypes.{StackTypes, all_assignable}
use Rattle.cel_verify.specs.Sound.{Falls, needs, below_all, typed_rule, entry_in, entry_or, opening, with_loop}
use Rattle.cel_verify.specs.Sound.{enters, empty_rule, range_rule, loop_rule, kind_rule, next_rule, no_items, still_open, in_innermost}
use Rattle.cel_verify.specs.Sound.{max_depth, max_loops}
use Rattle.cel_verify.specs.Paths.{is_loop}
use Rattle.cel_verify.specs.Walked.{arrived, Arrives, typed_here, Passes, TakesNone, IsRange, Awaits, Begins, ceiling}
use Rattle.cel_verify.specs.Walked.{entered, shallow}

-- an instruction that begins no loop opens none
pub opening_plain : (image : Image) (at : ℕ) (i : Instr) (types : Option StackTypes) (opens : List Open) → is_loop i ≡ false
    → opening image at (Some i) types opens ≡ opens
opening_plain image at (instr.Loop n exit) types opens h = absurd (true≢false h)
opening_plain image at _ types opens h = refl

pub plain_is : (i : Instr) → ((n exit : ℕ) → i ≡ instr.Loop n exit → ⊥) → is_loop i ≡ false
plain_is (instr.Loop n exit) h = absurd (h n exit refl)
plain_is _ h = refl

-- a condition that is met
pub met : (b : Bool) (k : VerifyRule) (r : Falls) → b ≡ true → needs b k r ≡ r
met true k r e = refl
met false k r e = cc

-- a rule that is broken is reported as it is, unless a limit is past the greatest
pub told_alike : (entry : Option StackTypes) (k : VerifyRule) → k ≢ OverBudget → entered entry (Err k) ≡ Err k
told_alike None k h = refl
told_alike (Some es) OverBudget h = absurd (h refl)
told_alike (Some es) _ h = refl

-- a broken rule by what is reported of it at the next instruction
pub told_typed : (image : Image) (at : ℕ) (i : Instr) (ts : StackTypes) (opens : List Open) (k told : VerifyRule)
    → typed_rule image i opens ts ≡ Err k → entered (entry_in image.targets (at + 1)) (Err k) ≡ Err told
    → typed_here image at i ts opens ≡ Err told
told_typed image at i ts opens k told h e =
    let behind = opening image at (Some i) (Some ts) opens in
    ap (arrived image (at + 1) behind) h ∙ ap (shallow behind) e

-- at the beginning of a loop there is no limit past the greatest
one_told : (b : Bool) (k : VerifyRule) → needs b WrongKind (Ok (Some [])) ≡ Err k → k ≢ OverBudget
one_told true k e = λ q. cc
one_told false k e = λ q. cc

empty_told : (es : Option StackTypes) (ts : StackTypes) (r : Result CelType TypeRule) (k : VerifyRule) → empty_rule es ts r ≡ Err k
    → k ≢ OverBudget
empty_told es ts (Err broken) k e = λ q. cc
empty_told es ts (Ok s) k e = one_told (enters es (s ∷ ts)) k e

range_told : (l : Loop) (span : Option Span) (es : Option StackTypes) (ts : StackTypes) (k : VerifyRule)
    → range_rule l span es ts ≡ Err k → k ≢ OverBudget
range_told l None es ts k e = λ q. cc
range_told l (Some span) es ts k e = empty_told es ts (loop_type l no_items type.Never) k e

loop_told : (l : Loop) (es : Option StackTypes) (ts : StackTypes) (k : VerifyRule) → loop_rule l es ts ≡ Err k → k ≢ OverBudget
loop_told l es [] k e = λ q. cc
loop_told l es (t ∷ ts) k e = range_told l (limit_of Ranged t) es ts k e

kind_told : (k : Option Loop) (es : Option StackTypes) (ts : StackTypes) (broken : VerifyRule) → kind_rule k es ts ≡ Err broken
    → broken ≢ OverBudget
kind_told None es ts broken e = λ q. cc
kind_told (Some l) es ts broken e = loop_told l es ts broken e

pub refused_loop : (image : Image) (at n exit : ℕ) (ts : StackTypes) (opens : List Open) (r : Failed VerifyRule)
    → Fails r (kind_rule (loop_kind n) (entry_in image.targets exit) ts) → Fails r (typed_here image at (instr.Loop n exit) ts opens)
refused_loop image at n exit ts opens (Fault k) h =
    let alike = told_alike (entry_in image.targets (at + 1)) k (kind_told (loop_kind n) (entry_in image.targets exit) ts k h) in
    told_typed image at (instr.Loop n exit) ts opens k k h alike
refused_loop image at n exit ts opens OutOfMemory h = tt

-- an instruction whose own rule holds
module _ (image : Image) (at : ℕ) (i : Instr) (ts : StackTypes) (opens behind : List Open) (next : Option StackTypes)
    (eo : opening image at (Some i) (Some ts) opens ≡ behind) (et : typed_rule image i opens ts ≡ Ok next) where
  here_is : typed_here image at i ts opens ≡ arrived image (at + 1) behind (Ok next)
  here_is = ap (λ os. arrived image (at + 1) os (typed_rule image i opens ts)) eo ∙ ap (arrived image (at + 1) behind) et

  refused_there : (r : Failed VerifyRule) → Fails r (arrived image (at + 1) behind (Ok next)) → Fails r (typed_here image at i ts opens)
  refused_there (Fault k) h = here_is ∙ h
  refused_there OutOfMemory h = tt

  -- what goes on arrives, or is refused
  pub passes : (result : Result (Option StackTypes) (Failed VerifyRule)) (left : List Open)
      → MatchResult result (λ there. Arrives image (at + 1) behind next there × (left ≡ behind))
      (λ r. Fails r (arrived image (at + 1) behind (Ok next)))
      → MatchResult result (λ there. Passes image at i ts opens there left) (λ r. Fails r (typed_here image at i ts opens))
  passes (Ok there) left h = record { next = next; holds = here_is ∙ h.0.0; entry = h.0.1; opened = eo ∙ sym h.1 }
  passes (Err r) left h = refused_there r h

-- the same, if no loop is opened
pub passes_on : (image : Image) (at : ℕ) (i : Instr) (ts : StackTypes) (opens : List Open) (next : Option StackTypes)
    → is_loop i ≡ false → typed_rule image i opens ts ≡ Ok next → (result : Result (Option StackTypes) (Failed VerifyRule))
    → MatchResult result (λ there. Arrives image (at + 1) opens next there) (λ r. Fails r (arrived image (at + 1) opens (Ok next)))
    → MatchResult result (λ there. Passes image at i ts opens there opens) (λ r. Fails r (typed_here image at i ts opens))
passes_on image at i ts opens next plain et (Ok there) h =
    passes image at i ts opens opens next (opening_plain image at i (Some ts) opens plain) et (Ok there) opens (h, refl)
passes_on image at i ts opens next plain et (Err r) h =
    passes image at i ts opens opens next (opening_plain image at i (Some ts) opens plain) et (Err r) opens h

-- the same, if a loop is opened
pub passes_in : (image : Image) (at n exit : ℕ) (ts : StackTypes) (opens left : List Open) (o : Open)
    → Begins image at n exit ts o → (result : Result (Option StackTypes) (Failed VerifyRule))
    → MatchResult result (λ there. Arrives image (at + 1) (o ∷ opens) (Some []) there × (left ≡ o ∷ opens))
    (λ r. Fails r (arrived image (at + 1) (o ∷ opens) (Ok (Some []))))
    → MatchResult result (λ there. Passes image at (instr.Loop n exit) ts opens there left)
    (λ r. Fails r (typed_here image at (instr.Loop n exit) ts opens))
passes_in image at n exit ts opens left o b result h =
    passes image at (instr.Loop n exit) ts opens (o ∷ opens) (Some []) (b.opens opens) b.holds result left h

-- the loop that begins over a range
pub begun : (image : Image) (at n : ℕ) (l : Loop) (exit : ℕ) (ts below after : StackTypes) (span : Span) → Some l ≡ loop_kind n
    → IsRange ts span below → Awaits image l exit below after
    → Begins image at n exit ts
    (record { start = at; exit = exit; mode = l; item = span.item; max = span.max; below = below; after = after })
begun image at n l exit ts below after span kind r a =
    let entry = entry_in image.targets exit in
    record {
      holds =
          ap (λ k. kind_rule k entry ts) (sym kind)
          ∙ ap (loop_rule l entry) r.is
          ∙ ap (λ s. range_rule l s entry below) r.ranged
          ∙ ap (λ e. empty_rule e below (loop_type l no_items type.Never)) a.entry
          ∙ a.holds;
      opens = λ opens.
          ap (λ us. opening image at (Some (instr.Loop n exit)) (Some us) opens) r.is
          ∙ ap (λ k. with_loop at exit k below (limit_of Ranged r.top) entry opens) (sym kind)
          ∙ ap (λ s. with_loop at exit (Some l) below s entry opens) r.ranged
          ∙ ap (λ e. with_loop at exit (Some l) below (Some span) e opens) a.entry;
    }

-- a loop that does not begin, of the kind of a number
pub of_kind : (n : ℕ) (l : Loop) (entry : Option StackTypes) (ts : StackTypes) (r : Failed VerifyRule) → Some l ≡ loop_kind n
    → Fails r (loop_rule l entry ts) → Fails r (kind_rule (loop_kind n) entry ts)
of_kind n l entry ts r kind h = subst (λ k. Fails r (kind_rule k entry ts)) kind h

-- a loop that may not begin over a range
pub not_begun : (image : Image) (l : Loop) (exit : ℕ) (ts below : StackTypes) (span : Span) (r : Failed VerifyRule) → IsRange ts span below
    → Fails r (empty_rule (entry_in image.targets exit) below (loop_type l no_items type.Never))
    → Fails r (loop_rule l (entry_in image.targets exit) ts)
not_begun image l exit ts below span (Fault k) r h =
    let entry = entry_in image.targets exit in
    ap (loop_rule l entry) r.is ∙ ap (λ s. range_rule l s entry below) r.ranged ∙ h
not_begun image l exit ts below span OutOfMemory r h = tt

-- no range is on top
pub no_range : (l : Loop) (entry : Option StackTypes) (ts below : StackTypes) (t : CelType) → ts ≡ t ∷ below
    → limit_of Ranged t ≡ None → loop_rule l entry ts ≡ Err WrongKind
no_range l entry ts below t e n = ap (loop_rule l entry) e ∙ ap (λ s. range_rule l s entry below) n

-- no loop is open
pub next_outside : (t : CelType) (ts : StackTypes) → next_rule [] (t ∷ ts) ≡ Err WrongKind
next_outside t [] = refl
next_outside t (s ∷ ts) = refl

-- where a loop leads there is no entry, its result of no items has no type, or may or may not be used there
pub no_entry : (below : StackTypes) (r : Result CelType TypeRule) → empty_rule None below r ≡ Err WrongKind
no_entry below (Ok s) = refl
no_entry below (Err k) = refl

module _ (image : Image) (l : Loop) (exit : ℕ) (below es : StackTypes) (s : CelType) (entry : entry_in image.targets exit ≡ Some es)
    (empty : loop_type l no_items type.Never ≡ Ok s) where
  rule_is : empty_rule (entry_in image.targets exit) below (loop_type l no_items type.Never)
      ≡ needs (all_assignable (s ∷ below) es) WrongKind (Ok (Some []))
  rule_is = ap (λ e. empty_rule e below (loop_type l no_items type.Never)) entry ∙ ap (empty_rule (Some es) below) empty

  pub awaits : (result : Result StackTypes (Failed VerifyRule))
      → MatchResult result (λ after. (after ≡ es) × (all_assignable (s ∷ below) after ≡ true))
      (λ r. Fails r (needs (all_assignable (s ∷ below) es) WrongKind (Ok (Some []))))
      → MatchResult result (λ after. Awaits image l exit below after)
      (λ r. Fails r (empty_rule (entry_in image.targets exit) below (loop_type l no_items type.Never)))
  awaits (Ok after) h =
      record {
        entry = entry ∙ ap Some (sym h.0);
        holds = ap (empty_rule (Some after) below) empty ∙ met (all_assignable (s ∷ below) after) WrongKind (Ok (Some [])) h.1;
      }
  awaits (Err (Fault k)) h = rule_is ∙ h
  awaits (Err OutOfMemory) h = tt

-- an entry of no types, or of some
pub none_taken : (entry : Option StackTypes) → entry ≡ None → TakesNone entry
none_taken entry e = record { stand = ap (λ o. entered o (Ok (Some []))) e; there = ap (λ o. entry_or o (Some [])) e }

pub empty_taken : (entry : Option StackTypes) → entry ≡ Some [] → TakesNone entry
empty_taken entry e = record { stand = ap (λ o. entered o (Ok (Some []))) e; there = ap (λ o. entry_or o (Some [])) e }

pub some_refused : (entry : Option StackTypes) (es : StackTypes) → entry ≡ Some es → 0 < length es
    → entered entry (Ok (Some [])) ≡ Err WrongKind
some_refused entry [] e h = absurd (omega arith)
some_refused entry (t ∷ es) e h = ap (λ o. entered o (Ok (Some []))) e

pub taken_by : (entry : Option StackTypes) (types : List CelType) (b : Bool) → entry ≡ Some (reverse types)
    → b ≡ nat_eq (length types) 0 → b ≡ true → TakesNone entry
taken_by entry [] b e h k = empty_taken entry e
taken_by entry (t ∷ types) b e h k =
    let none = eqb-true (length (t ∷ types)) 0 (sym h ∙ k) in
    absurd (omega (arith, none))

pub refused_by : (entry : Option StackTypes) (types : List CelType) (b : Bool) → entry ≡ Some (reverse types)
    → b ≡ nat_eq (length types) 0 → b ≡ false → entered entry (Ok (Some [])) ≡ Err WrongKind
refused_by entry [] b e h k = absurd (true≢false (sym h ∙ k))
refused_by entry (t ∷ types) b e h k =
    some_refused entry (reverse (t ∷ types)) e (omega (arith, length-reverse (t ∷ types)))

-- as many loops more as there may be, counted up to the ceiling
loops_same : (n : ℕ) → nat_le (suc n) max_loops ≡ nat_le (min (n + 1) ceiling) max_loops
loops_same n = elim (cases_lt ceiling (n + 1)) [
  | inl h ↦ lt-leb (suc n) max_loops (omega arith) ∙ sym (lt-leb (min (n + 1) ceiling) max_loops (omega arith))
  | inr h ↦ let same : suc n ≡ min (n + 1) ceiling = omega arith in ap (λ k. nat_le k max_loops) same
]

-- a condition by its negation
negated : (x b : Bool) (r : Falls) → b ≡ not x → needs x TooDeep r ≡ needs (not b) TooDeep r
negated true true r h = cc
negated true false r h = refl
negated false true r h = refl
negated false false r h = cc

-- more than there may be
over : (n most : ℕ) → nat_lt most n ≡ not (nat_le n most)
over n most =
    ⊎_elim (λ less. lt-ltb most n less ∙ sym (ap not (lt-leb n most less)))
    (λ le. le-ltb most n le ∙ sym (ap not (le-leb n most le)))
    (cases_lt most n)

either : (x y : Bool) → (not x || not y) ≡ not (x && y)
either true y = refl
either false y = refl

over_either : (n m : ℕ) → (nat_lt max_depth n || nat_lt max_loops m) ≡ not (nat_le n max_depth && nat_le m max_loops)
over_either n m =
    ap (λ b. b || nat_lt max_loops m) (over n max_depth)
    ∙ ap (λ b. not (nat_le n max_depth) || b) (over m max_loops)
    ∙ either (nat_le n max_depth) (nat_le m max_loops)

-- no more operands than the stack may have, by numbers that are found
pub shallow_by : (opens : List Open) (ts : StackTypes) (operands below loops : ℕ) (b : Bool) → operands ≡ length ts
    → below ≡ length (below_all opens) → loops ≡ length opens
    → b ≡ (nat_lt max_depth (operands + below) || nat_lt max_loops loops)
    → shallow opens (Ok (Some ts)) ≡ needs (not b) TooDeep (Ok (Some ts))
shallow_by opens ts operands below loops b et eb el is =
    negated (nat_le (length ts + length (below_all opens)) max_depth && nat_le (length opens) max_loops) b (Ok (Some ts))
    (is
    ∙ over_either (operands + below) loops
    ∙ ap (λ n. not (nat_le (n + below) max_depth && nat_le loops max_loops)) et
    ∙ ap (λ n. not (nat_le (length ts + n) max_depth && nat_le loops max_loops)) eb
    ∙ ap (λ n. not (nat_le (length ts + length (below_all opens)) max_depth && nat_le n max_loops)) el)

-- a loop more, with nothing above its frame
pub loop_shallow : (o : Open) (opens : List Open) (b : Bool)
    → b ≡ not (nat_le (length o.below + length (below_all opens)) max_depth && nat_le (min (length opens + 1) ceiling) max_loops)
    → shallow (o ∷ opens) (Ok (Some [])) ≡ needs (not b) TooDeep (Ok (Some []))
loop_shallow o opens b e =
    let deep : length {A = CelType} [] + length (below_all (o ∷ opens)) ≡ length o.below + length (below_all opens) =
    omega (arith, length-append o.below (below_all opens)) in
    ap (λ n. needs (nat_le n max_depth && nat_le (length (o ∷ opens)) max_loops) TooDeep (Ok (Some []))) deep
    ∙ ap (λ t. needs (nat_le (length o.below + length (below_all opens)) max_depth && t) TooDeep (Ok (Some []))) (loops_same (length opens))
    ∙ negated (nat_le (length o.below + length (below_all opens)) max_depth && nat_le (min (length opens + 1) ceiling) max_loops) b
    (Ok (Some [])) e

-- the same, by numbers that are found
module _ (o : Open) (opens : List Open) (operands below loops : ℕ) (b : Bool) (eo : operands ≡ length o.below)
    (eb : below ≡ length (below_all opens)) (el : loops ≡ min (length opens + 1) ceiling)
    (is : b ≡ (nat_lt max_depth (operands + below) || nat_lt max_loops loops)) where
  pub entered_shallow : shallow (o ∷ opens) (Ok (Some [])) ≡ needs (not b) TooDeep (Ok (Some []))
  entered_shallow =
      loop_shallow o opens b
      (is
      ∙ over_either (operands + below) loops
      ∙ ap (λ n. not (nat_le (n + below) max_depth && nat_le loops max_loops)) eo
      ∙ ap (λ n. not (nat_le (length o.below + n) max_depth && nat_le loops max_loops)) eb
      ∙ ap (λ n. not (nat_le (length o.below + length (below_all opens)) max_depth && nat_le n max_loops)) el)

  pub room_left : b ≡ false → length o.below + length (below_all opens) ≤ max_depth
  room_left h =
      let fits : (nat_le (operands + below) max_depth && nat_le loops max_loops) ≡ true =
      not-false _ (sym (is ∙ over_either (operands + below) loops) ∙ h) in
      let le = leb-true (operands + below) max_depth (and_parts (nat_le (operands + below) max_depth) (nat_le loops max_loops) fits).0 in
      omega arith

-- a loop more has its own operands below it
pub below_more : (items : List Open) (o : Open)
    → length (below_all (reverse (items ++ o ∷ []))) ≡ length o.below + length (below_all (reverse items))
below_more items o =
    ap (λ os. length (below_all os)) (reverse-append items (o ∷ [])) ∙ length-append o.below (below_all (reverse items))

pub one_popped : (items rest : List Open) (o : Open) (below : ℕ) → items ≡ rest ++ o ∷ []
    → below ≡ length (below_all (reverse items))
    → (length o.below ≤ below) × (below - length o.below ≡ length (below_all (reverse rest)))
one_popped items rest o below e h =
    let all : below ≡ length o.below + length (below_all (reverse rest)) =
    h ∙ ap (λ xs. length (below_all (reverse xs))) e ∙ below_more rest o in
    (omega arith, omega arith)

-- from the last item backwards
pub get_reversed : {X : Type 0} (xs : List X) (k : ℕ) → k < length xs → slice_get (reverse xs) k ≡ slice_get xs (length xs - 1 - k)
get_reversed [] k h = absurd (omega arith)
get_reversed (x ∷ xs) k h =
    let inside : k < length (reverse (x ∷ xs)) = omega (arith, length-reverse (x ∷ xs)) in
    slice_get-get_or (reverse (x ∷ xs)) k x inside
    ∙ ap Some (get_or-reverse (x ∷ xs) k x h)
    ∙ sym (slice_get-get_or (x ∷ xs) (length (x ∷ xs) - 1 - k) x (omega arith))

-- an item that is lent
pub item_is : {X : Type 0} (xs : List X) (i : ℕ) (r : Option (Bor X)) → IsItemAt xs i r → option_copied r ≡ slice_get xs i
item_is xs i None h = sym (slice_get_past xs i h.3)
item_is xs i (Some x) h = ap Some h.1 ∙ sym (slice_get-get_or xs i x.now h.3.0)

-- the first of open loops is the innermost
pub innermost_is : (lent : Option (Bor Open)) (opens : List Open) → option_copied lent ≡ slice_get opens 0
    → MatchOption lent (opens ≡ []) (λ o. (outside : List Open) × (opens ≡ o.now ∷ outside))
innermost_is None [] e = refl
innermost_is None (o ∷ os) e = cc
innermost_is (Some x) [] e = cc
innermost_is (Some x) (o ∷ os) e = let same : x.now ≡ o = cc e in (os, ap (λ y. y ∷ os) (sym same))

-- what holds of the innermost
pub of_innermost : (p : Open → Bool) (opens outside : List Open) (o : Open) → opens ≡ o ∷ outside → in_innermost p opens ≡ p o
of_innermost p opens outside o e = ap (in_innermost p) e

pub of_none : (p : Open → Bool) (opens : List Open) → opens ≡ [] → in_innermost p opens ≡ false
of_none p opens e = ap (in_innermost p) e

-- open loops; the innermost ends, or does not
pub ended : (at : ℕ) (o : Open) (os : List Open) → nat_le o.exit at ≡ true → still_open at (o ∷ os) ≡ still_open at os
ended at o os h = ap (λ b. cond b (o ∷ os) (still_open at os)) (le-ltb at o.exit (leb-true o.exit at h))

pub not_ended : (at : ℕ) (os : List Open) → in_innermost (λ o. nat_le o.exit at) os ≡ false → still_open at os ≡ os
not_ended at [] h = refl
not_ended at (o ∷ os) h = ap (λ b. cond b (o ∷ os) (still_open at os)) (lt-ltb at o.exit (leb-false o.exit at h))

-- the innermost is taken off if it ends
pub one_ended : (at : ℕ) (old new : List Open) (popped : Option Open) → in_innermost (λ o. nat_le o.exit at) old ≡ true
    → MatchOption popped ((old ≡ []) × (new ≡ [])) (λ o. old ≡ o ∷ new)
    → (still_open at new ≡ still_open at old) × (length new < length old)
one_ended at [] new popped h m = absurd (true≢false (sym h))
one_ended at (o ∷ os) new None h m = let z : ⊥ = cc m.0 in absurd z
one_ended at (o ∷ os) new (Some x) h m =
    let same : os ≡ new = cc m in
    (ap (still_open at) (sym same) ∙ sym (ended at o os h), omega (arith, ap (length {A = Open}) same))
