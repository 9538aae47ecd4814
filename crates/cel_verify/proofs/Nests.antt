-- The open loops at each instruction of a sound image are those whose bodies contain it.
use Rattle.std.proofs.Common.{◌≡◌, ◌≢◌, ℕ, zero, suc, ◌+◌, ◌-◌, ◌<◌, ◌≤◌, Bool, true, false, ◌&&◌, cond, List}
use Rattle.std.proofs.Common.{[], ◌∷◌, length, Option, Some, None, refl, sym, ap, ◌∙◌, subst, inl, ⊎_elim, arith, true≢false}
use Rattle.std.specs.Prelude.{Result, Ok, Err, slice_get, nat_lt, nat_eq}
use Rattle.std.proofs.lemmas.Bool.{and_parts, eqb-true, lt-ltb, le-ltb, ltb-true, ltb-false, cases_lt}
use Rattle.std.proofs.lemmas.Option.{none-some, same_Some, slice_get_within}
use Rattle.cel_value.specs.declared.cel_type.CelType.{CelType}
use Rattle.cel_value.specs.declared.cel_type.CelType as type
use Rattle.cel_value.specs.declared.expr.Loop.{Loop}
use Rattle.cel_operators.specs.declared.type_rule.TypeRule.{TypeRule}
use Rattle.cel_operators.specs.Wants.{limit_of}
use Rattle.cel_operators.specs.declared.limit.Span.{Span}
use Rattle.cel_operators.specs.declared.operands.Want.TheVariants.{Ranged}
use Rattle.cel_operators.specs.Loops.{loop_type}
use Rattle.cel_code.specs.declared.instr.Instr.{Instr}
use Rattle.cel_code.specs.declared.instr.Instr.TheVariants.{Item, Next}
use Rattle.cel_code.specs.declared.instr.Instr.TheVariants as instr
use Rattle.cel_code.specs.declared.image.Image.{Image}
use Rattle.cel_code.specs.LoopNumbers.{loop_kind}
use Rattle.cel_verify.specs.StackTypes.{StackTypes, all_assignable}
use Rattle.cel_verify.specs.Bodies.{leads_behind, last_behind, innermost, same_loop, same_body, is_item, is_next}
use Rattle.cel_verify.specs.Sound.{Open, every, enters, is_target, is_placed, in_innermost, empty_rule, no_items, range_rule}
use Rattle.cel_verify.specs.Sound.{kind_rule, entry_in, with_loop, opening, still_open, IsWalked}
use Rattle.cel_verify.specs.Paths.{is_loop}
use Rattle.cel_verify.specs.Typed.{types_at, opens_at, waits, waits_at}
use Rattle.cel_verify.proofs.Falling.{one_needs, entered_ok, enters_is, get_some, cons_parts}
use Rattle.cel_verify.proofs.RuleParts.{parts_at}
use Rattle.cel_verify.proofs.PathSums.{every_in, is_ahead}
use Rattle.cel_verify.proofs.Openings.{opening_plain}

-- a loop that does not lead past an instruction does not lead past the next one
leads_less : (o : Option Instr) (at : ℕ) → leads_behind o at ≡ false → leads_behind o (suc at) ≡ false
leads_less (Some (instr.Loop l exit)) at h = let le = ltb-false at exit h in le-ltb (suc at) exit (omega arith)
leads_less _ at h = refl

none_by : (code : List Instr) (at n : ℕ) (b : Bool) → leads_behind (slice_get code n) at ≡ b
    → cond b (Some n) (last_behind code at n) ≡ None
    → (last_behind code at n ≡ None → last_behind code (suc at) n ≡ None) → last_behind code (suc at) (suc n) ≡ None
none_by code at n true h e r = absurd (none-some n (sym e))
none_by code at n false h e r =
    ap (λ b. cond b (Some n) (last_behind code (suc at) n)) (leads_less (slice_get code n) at h) ∙ r e

-- if none leads past an instruction, none leads past the next one
none_later : (code : List Instr) (at n : ℕ) → last_behind code at n ≡ None → last_behind code (suc at) n ≡ None
none_later code at zero e = refl
none_later code at (suc n) e =
    none_by code at n (leads_behind (slice_get code n) at) refl e (λ q. none_later code at n q)

some_by : (code : List Instr) (at n s : ℕ) (b : Bool) → leads_behind (slice_get code n) at ≡ b
    → cond b (Some n) (last_behind code at n) ≡ Some s → leads_behind (slice_get code s) (suc at) ≡ true
    → (last_behind code at n ≡ Some s → last_behind code (suc at) n ≡ Some s) → last_behind code (suc at) (suc n) ≡ Some s
some_by code at n s true h e leads r =
    let same : n ≡ s = same_Some n s e in
    ap (λ b. cond b (Some n) (last_behind code (suc at) n)) (ap (λ k. leads_behind (slice_get code k) (suc at)) same ∙ leads)
    ∙ ap Some same
some_by code at n s false h e leads r =
    ap (λ b. cond b (Some n) (last_behind code (suc at) n)) (leads_less (slice_get code n) at h) ∙ r e

-- the last that leads past an instruction is the last that leads past the next one, if it leads past that one
some_later : (code : List Instr) (at n s : ℕ) → last_behind code at n ≡ Some s → leads_behind (slice_get code s) (suc at) ≡ true
    → last_behind code (suc at) n ≡ Some s
some_later code at zero s e leads = absurd (none-some s e)
some_later code at (suc n) s e leads =
    some_by code at n s (leads_behind (slice_get code n) at) refl e leads (λ q. some_later code at n s q leads)

-- one of the first instructions is a loop that leads past another instruction
record Leads (code : List Instr) (at n s : ℕ) : Type 0 where
  before : s < n
  leads : leads_behind (slice_get code s) at ≡ true

leads_by : (code : List Instr) (at n s : ℕ) (b : Bool) → leads_behind (slice_get code n) at ≡ b
    → cond b (Some n) (last_behind code at n) ≡ Some s → (last_behind code at n ≡ Some s → Leads code at n s)
    → Leads code at (suc n) s
leads_by code at n s true h e r =
    let same : n ≡ s = same_Some n s e in
    record { before = omega arith; leads = ap (λ k. leads_behind (slice_get code k) at) (sym same) ∙ h }
leads_by code at n s false h e r = let q = r e in record { before = omega (arith, q.before); leads = q.leads }

last_leads : (code : List Instr) (at n s : ℕ) → last_behind code at n ≡ Some s → Leads code at n s
last_leads code at zero s e = absurd (none-some s e)
last_leads code at (suc n) s e = leads_by code at n s (leads_behind (slice_get code n) at) refl e (λ q. last_leads code at n s q)

loop_of : (o : Option Instr) (at : ℕ) → leads_behind o at ≡ true
    → (n : ℕ) × (exit : ℕ) × (o ≡ Some (instr.Loop n exit)) × (at < exit)
loop_of (Some (instr.Loop n exit)) at h = (n, exit, refl, omega (arith, ltb-true at exit h))
loop_of _ at h = absurd (true≢false (sym h))

pub same_loop_is : (a b : Option ℕ) → same_loop a b ≡ true → a ≡ b
same_loop_is None None h = refl
same_loop_is (Some s) (Some t) h = ap Some (eqb-true s t h)
same_loop_is None (Some t) h = absurd (true≢false (sym h))
same_loop_is (Some s) None h = absurd (true≢false (sym h))

pub next_is : (o : Option Instr) → is_next o ≡ true → o ≡ Some Next
next_is (Some Next) h = refl
next_is _ h = absurd (true≢false (sym h))

pub item_is : (o : Option Instr) → is_item o ≡ true → o ≡ Some Item
item_is (Some Item) h = refl
item_is _ h = absurd (true≢false (sym h))

-- what the rule of a LOOP says of the types there
pub record LoopRule (k : Option Loop) (es : Option StackTypes) (ts : StackTypes) : Type 0 where
  pub kind : Loop
  pub kind_is : k ≡ Some kind
  pub top : CelType
  pub rest : StackTypes
  pub is : ts ≡ top ∷ rest
  pub span : Span
  pub ranged : limit_of Ranged top ≡ Some span
  pub after : StackTypes
  pub after_is : es ≡ Some after
  pub empty : CelType
  pub empty_is : loop_type kind no_items type.Never ≡ Ok empty
  pub goes : all_assignable (empty ∷ rest) after ≡ true
  pub rule : kind_rule k es (top ∷ rest) ≡ Ok (Some [])

empty_ruled : (es : Option StackTypes) (ts : StackTypes) (r : Result CelType TypeRule) (m : Option StackTypes)
    → empty_rule es ts r ≡ Ok m
    → (s : CelType) × (after : StackTypes) × (r ≡ Ok s) × (es ≡ Some after) × (all_assignable (s ∷ ts) after ≡ true)
    × (empty_rule es ts r ≡ Ok (Some []))
empty_ruled es ts (Err broken) m e = cc
empty_ruled es ts (Ok s) m e =
    let a = one_needs (enters es (s ∷ ts)) (Ok (Some [])) m e in
    let b = enters_is es (s ∷ ts) a.0 in
    (s, b.0, refl, b.1, b.2, a.1)

range_ruled : (l : Loop) (o : Option Span) (es : Option StackTypes) (ts : StackTypes) (m : Option StackTypes)
    → range_rule l o es ts ≡ Ok m
    → (span : Span) × (o ≡ Some span) × (empty_rule es ts (loop_type l no_items type.Never) ≡ Ok m)
    × (range_rule l o es ts ≡ empty_rule es ts (loop_type l no_items type.Never))
range_ruled l None es ts m e = cc
range_ruled l (Some span) es ts m e = (span, refl, e, refl)

pub loop_ruled : (k : Option Loop) (es : Option StackTypes) (ts : StackTypes) (m : Option StackTypes) → kind_rule k es ts ≡ Ok m
    → LoopRule k es ts
loop_ruled None es ts m e = cc
loop_ruled (Some l) es [] m e = cc
loop_ruled (Some l) es (t ∷ ts) m e =
    let r = range_ruled l (limit_of Ranged t) es ts m e in
    let q = empty_ruled es ts (loop_type l no_items type.Never) m r.2 in
    record {
      kind = l;
      kind_is = refl;
      top = t;
      rest = ts;
      is = refl;
      span = r.0;
      ranged = r.1;
      after = q.1;
      after_is = q.3;
      empty = q.0;
      empty_is = q.2;
      goes = q.4;
      rule = r.3 ∙ q.5;
    }

-- a LOOP whose rule holds
pub record Looped (image : Image) (s n exit : ℕ) : Type 0 where
  pub kind : Loop
  pub kind_is : loop_kind n ≡ Some kind
  pub top : CelType
  pub rest : StackTypes
  pub types : types_at image s ≡ Some (top ∷ rest)
  pub span : Span
  pub ranged : limit_of Ranged top ≡ Some span
  pub after : StackTypes
  pub after_is : entry_in image.targets exit ≡ Some after
  pub empty : CelType
  pub empty_is : loop_type kind no_items type.Never ≡ Ok empty
  pub goes : all_assignable (empty ∷ rest) after ≡ true
  pub rule : kind_rule (loop_kind n) (entry_in image.targets exit) (top ∷ rest) ≡ Ok (Some [])
  pub item : slice_get image.code (s + 1) ≡ Some Item
  pub next : slice_get image.code (exit - 1) ≡ Some Next
  pub far : s + 2 < exit
  pub inside : exit < length image.code
  pub same : innermost image.code s ≡ innermost image.code exit

pub looped : (image : Image) (sound : IsWalked image) (s n exit : ℕ) → slice_get image.code s ≡ Some (instr.Loop n exit)
    → Looped image s n exit
looped image sound s n exit h =
    let lt = slice_get_within image.code s (instr.Loop n exit) h in
    let p = parts_at image sound s (instr.Loop n exit) lt h in
    let es = entry_in image.targets exit in
    let m = entered_ok (entry_in image.targets (s + 1)) (kind_rule (loop_kind n) es p.here) (sound.each s lt).next p.typed in
    let r = loop_ruled (loop_kind n) es p.here m.0 m.1 in
    let placed = is_placed image s (instr.Loop n exit) (opens_at image s) in
    let nest = and_parts placed (every (same_body image.code s) (exit ∷ [])) p.nested in
    let next = is_next (slice_get image.code (exit - 1)) in
    let a = and_parts (is_item (slice_get image.code (s + 1))) (next && nat_lt (s + 2) exit) nest.0 in
    let b = and_parts next (nat_lt (s + 2) exit) a.1 in
    let ahead = is_ahead image s exit (every_in (is_target image s) (exit ∷ []) exit p.targets (inl refl)) in
    let body = every_in (same_body image.code s) (exit ∷ []) exit nest.1 (inl refl) in
    record {
      kind = r.kind;
      kind_is = r.kind_is;
      top = r.top;
      rest = r.rest;
      types = p.is ∙ ap Some r.is;
      span = r.span;
      ranged = r.ranged;
      after = r.after;
      after_is = r.after_is;
      empty = r.empty;
      empty_is = r.empty_is;
      goes = r.goes;
      rule = r.rule;
      item = item_is (slice_get image.code (s + 1)) a.0;
      next = next_is (slice_get image.code (exit - 1)) b.0;
      far = omega (arith, ltb-true (s + 2) exit b.1);
      inside = ahead.1;
      same = same_loop_is (innermost image.code s) (innermost image.code exit) body;
    }

-- the loop that a LOOP opens
abbrev pub open_of : (image : Image) (s n exit : ℕ) → Looped image s n exit → Open
open_of image s n exit h =
    record { start = s; exit = exit; mode = h.kind; item = h.span.item; max = h.span.max; below = h.rest; after = h.after }

pub opened_is : (image : Image) (s n exit : ℕ) (h : Looped image s n exit) → slice_get image.code s ≡ Some (instr.Loop n exit)
    → (os : List Open) → opening image s (slice_get image.code s) (types_at image s) os ≡ open_of image s n exit h ∷ os
opened_is image s n exit h hi os =
    ap (λ i. opening image s i (types_at image s) os) hi
    ∙ ap (λ ts. opening image s (Some (instr.Loop n exit)) ts os) h.types
    ∙ ap (λ k. with_loop s exit k h.rest (limit_of Ranged h.top) (entry_in image.targets exit) os) h.kind_is
    ∙ ap (λ r. with_loop s exit (Some h.kind) h.rest r (entry_in image.targets exit) os) h.ranged
    ∙ ap (λ a. with_loop s exit (Some h.kind) h.rest (Some h.span) a os) h.after_is

no_loop_leads : (i : Instr) (at : ℕ) → is_loop i ≡ false → leads_behind (Some i) at ≡ false
no_loop_leads (instr.Loop l exit) at h = absurd (true≢false h)
no_loop_leads _ at h = refl

-- the loops that are open in a body, by the loop whose body it is
abbrev pub opens_in : Image → Option ℕ → List Open
opens_in image None = []
opens_in image (Some s) = opening image s (slice_get image.code s) (types_at image s) (opens_at image s)

-- the innermost of the open loops at an instruction
pub record OpenAt (image : Image) (at : ℕ) (o : Open) (os : List Open) : Type 0 where
  pub number : ℕ
  pub begins : slice_get image.code o.start ≡ Some (instr.Loop number o.exit)
  pub after : o.start < at
  pub before : at < o.exit
  pub next : slice_get image.code (o.exit - 1) ≡ Some Next
  pub outer : os ≡ opens_at image o.start

module _ (image : Image) (sound : IsWalked image) where
  stays : (k s : ℕ) → leads_behind (slice_get image.code s) k ≡ true
      → still_open k (opens_in image (Some s)) ≡ opens_in image (Some s)
  stays k s h =
      let w = loop_of (slice_get image.code s) k h in
      let r = looped image sound s w.0 w.1 w.2 in
      let os = opens_at image s in
      let o = open_of image s w.0 w.1 r in
      let is = opened_is image s w.0 w.1 r w.2 os in
      ap (still_open k) is ∙ ap (λ b. cond b (o ∷ os) (still_open k os)) (lt-ltb k w.1 w.3) ∙ sym is

  drops : (k s l exit : ℕ) → slice_get image.code s ≡ Some (instr.Loop l exit) → exit ≤ k
      → still_open k (opens_in image (Some s)) ≡ still_open k (opens_at image s)
  drops k s l exit hi le =
      let r = looped image sound s l exit hi in
      let os = opens_at image s in
      let o = open_of image s l exit r in
      ap (still_open k) (opened_is image s l exit r hi os) ∙ ap (λ b. cond b (o ∷ os) (still_open k os)) (le-ltb k exit le)

  all_stay : (k : ℕ) → still_open k (opens_in image (innermost image.code k)) ≡ opens_in image (innermost image.code k)
  all_stay k = by (innermost image.code k) refl
    where
      by : (q : Option ℕ) → innermost image.code k ≡ q → still_open k (opens_in image q) ≡ opens_in image q
      by None q = refl
      by (Some s) q = stays k s (last_leads image.code k k s q).leads

  -- the open loops of an instruction are those of its body
  abbrev ByBody : ℕ → Type 0
  ByBody at = opens_at image at ≡ opens_in image (innermost image.code at)

  abbrev Known : ℕ → Type 0
  Known at = (k : ℕ) → k ≤ at → ByBody k

  -- after a LOOP its own loop is the innermost
  leads_next : (at l exit : ℕ) → slice_get image.code at ≡ Some (instr.Loop l exit)
      → leads_behind (slice_get image.code at) (suc at) ≡ true
  leads_next at l exit hi =
      let r = looped image sound at l exit hi in
      ap (λ i. leads_behind i (suc at)) hi ∙ lt-ltb (suc at) exit (omega (arith, r.far))

  pub opens_behind : (at l exit : ℕ) → slice_get image.code at ≡ Some (instr.Loop l exit)
      → opens_at image (suc at) ≡ opens_in image (Some at)
  opens_behind at l exit hi = stays (suc at) at (leads_next at l exit hi)

  behind_loop : (at l exit : ℕ) → slice_get image.code at ≡ Some (instr.Loop l exit) → ByBody (suc at)
  behind_loop at l exit hi =
      let own : innermost image.code (suc at) ≡ Some at =
      ap (λ b. cond b (Some at) (last_behind image.code (suc at) at)) (leads_next at l exit hi) in
      opens_behind at l exit hi ∙ ap (opens_in image) (sym own)

  -- in a loop's body, whether the loop goes on or ends here
  in_body : (at s : ℕ) → innermost image.code at ≡ Some s → Known at
      → innermost image.code (suc at) ≡ last_behind image.code (suc at) at
      → still_open (suc at) (opens_at image at) ≡ opens_in image (innermost image.code (suc at))
  in_body at s q known own =
      let b = last_leads image.code at at s q in
      let w = loop_of (slice_get image.code s) at b.leads in
      let here : opens_at image at ≡ opens_in image (Some s) = known at (omega arith) ∙ ap (opens_in image) q in
      let goal = opens_in image (innermost image.code (suc at)) in
      let goes_on : suc at < w.1 → still_open (suc at) (opens_in image (Some s)) ≡ goal =
      λ lt.
      let leads : leads_behind (slice_get image.code s) (suc at) ≡ true =
      ap (λ i. leads_behind i (suc at)) w.2 ∙ lt-ltb (suc at) w.1 lt in
      stays (suc at) s leads ∙ ap (opens_in image) (sym (own ∙ some_later image.code at at s q leads)) in
      let ends : w.1 ≤ suc at → still_open (suc at) (opens_in image (Some s)) ≡ goal =
      λ le.
      let r = looped image sound s w.0 w.1 w.2 in
      let lt = w.3 in
      let is : w.1 ≡ suc at = omega arith in
      let same : innermost image.code s ≡ innermost image.code (suc at) = r.same ∙ ap (innermost image.code) is in
      let outer : opens_at image s ≡ goal = known s (omega (arith, b.before)) ∙ ap (opens_in image) same in
      drops (suc at) s w.0 w.1 w.2 le ∙ ap (still_open (suc at)) outer ∙ all_stay (suc at) in
      ap (still_open (suc at)) here ∙ ⊎_elim goes_on ends (cases_lt (suc at) w.1)

  behind_other : (at : ℕ) (i : Instr) → slice_get image.code at ≡ Some i → is_loop i ≡ false → Known at → ByBody (suc at)
  behind_other at i hi plain known =
      let leads : leads_behind (slice_get image.code at) (suc at) ≡ false =
      ap (λ o. leads_behind o (suc at)) hi ∙ no_loop_leads i (suc at) plain in
      let own : innermost image.code (suc at) ≡ last_behind image.code (suc at) at =
      ap (λ b. cond b (Some at) (last_behind image.code (suc at) at)) leads in
      let here : opens_at image (suc at) ≡ still_open (suc at) (opens_at image at) =
      ap (λ o. still_open (suc at) (opening image at o (types_at image at) (opens_at image at))) hi
      ∙ ap (still_open (suc at)) (opening_plain image at i (types_at image at) (opens_at image at) plain) in
      here ∙ by own (innermost image.code at) refl
    where
      by : innermost image.code (suc at) ≡ last_behind image.code (suc at) at → (q : Option ℕ) → innermost image.code at ≡ q
          → still_open (suc at) (opens_at image at) ≡ opens_in image (innermost image.code (suc at))
      by own None q =
          let none : opens_at image at ≡ [] = known at (omega arith) ∙ ap (opens_in image) q in
          ap (still_open (suc at)) none ∙ ap (opens_in image) (sym (own ∙ none_later image.code at at q))
      by own (Some s) q = in_body at s q known own

  behind : (at : ℕ) (i : Instr) → slice_get image.code at ≡ Some i → Known at → ByBody (suc at)
  behind at (instr.Loop l exit) hi known = behind_loop at l exit hi
  behind at i hi known = behind_other at i hi refl known

  opens_known : (at : ℕ) → at ≤ length image.code → Known at
  opens_known zero le = λ k h. let z : zero ≡ k = omega arith in subst ByBody z refl
  opens_known (suc at) le =
      let before : Known at = opens_known at (omega arith) in
      let i = get_some image.code at (omega arith) in
      let here : ByBody (suc at) = behind at i.0 i.1 before in
      λ k h.
      ⊎_elim (λ less. before k (omega arith)) (λ more. let z : suc at ≡ k = omega arith in subst ByBody z here)
      (cases_lt k (suc at))

  pub opens_are : (at : ℕ) → at ≤ length image.code → opens_at image at ≡ opens_in image (innermost image.code at)
  opens_are at le = opens_known at le at (omega arith)

  pub same_opens : (at to : ℕ) → at ≤ length image.code → to ≤ length image.code → same_body image.code at to ≡ true
      → opens_at image to ≡ opens_at image at
  same_opens at to la lt h =
      let same = same_loop_is (innermost image.code at) (innermost image.code to) h in
      opens_are to lt ∙ ap (opens_in image) (sym same) ∙ sym (opens_are at la)

  pub open_at : (at : ℕ) (o : Open) (os : List Open) → at ≤ length image.code → opens_at image at ≡ o ∷ os → OpenAt image at o os
  open_at at o os le e = by (innermost image.code at) refl
    where
      by : (q : Option ℕ) → innermost image.code at ≡ q → OpenAt image at o os
      by None q =
          let none : [] ≡ o ∷ os = sym (opens_are at le ∙ ap (opens_in image) q) ∙ e in
          cc
      by (Some s) q =
          let b = last_leads image.code at at s q in
          let w = loop_of (slice_get image.code s) at b.leads in
          let r = looped image sound s w.0 w.1 w.2 in
          let own = open_of image s w.0 w.1 r in
          let is : o ∷ os ≡ own ∷ opens_at image s =
          sym e ∙ opens_are at le ∙ ap (opens_in image) q ∙ opened_is image s w.0 w.1 r w.2 (opens_at image s) in
          let same = cons_parts o own os (opens_at image s) is in
          subst (λ p. OpenAt image at p os) (sym same.0)
          (record { number = w.0; begins = w.2; after = b.before; before = w.3; next = r.next; outer = same.1 })

  -- at an instruction that is no NEXT, all loops stay open
  pub still_all : (at : ℕ) → at ≤ length image.code → slice_get image.code at ≢ Some Next
      → still_open (suc at) (opens_at image at) ≡ opens_at image at
  still_all at le none = by (opens_at image at) refl
    where
      by : (os : List Open) → opens_at image at ≡ os → still_open (suc at) os ≡ os
      by [] e = refl
      by (o ∷ os) e =
          let a = open_at at o os le e in
          let other : o.exit ≢ suc at =
          λ q. let z : o.exit - 1 ≡ at = omega arith in none (ap (slice_get image.code) (sym z) ∙ a.next) in
          ap (λ b. cond b (o ∷ os) (still_open (suc at) os)) (lt-ltb (suc at) o.exit (omega (arith, a.before, other)))

  -- an instruction to which another one goes on in its own body is no ITEM
  pub no_item : (at to : ℕ) → at < to → to < length image.code → opens_at image to ≡ opens_at image at → waits_at image to ≡ 1
  no_item at to lt inside same = by (slice_get image.code to) refl
    where
      body : (os : List Open) → opens_at image at ≡ os → in_innermost (λ o. nat_eq to (o.start + 1)) os ≡ true → ⊥
      body [] e h = true≢false (sym h)
      body (o ∷ os) e h =
          let q = eqb-true to (o.start + 1) h in
          let a = open_at at o os (omega arith) e in
          omega (arith, a.after, q)

      by : (o : Option Instr) → slice_get image.code to ≡ o → waits o ≡ 1
      by (Some Item) e =
          let p = parts_at image sound to Item inside e in
          let a = and_parts (is_placed image to Item (opens_at image to)) true p.nested in
          let own = ap (in_innermost (λ o. nat_eq to (o.start + 1))) (sym same) ∙ a.0 in
          absurd (body (opens_at image at) refl own)
      by _ e = refl
