-- In which loop's body the next instruction is, found from the instruction outwards.
use Rattle.std.proofs.Common.{◌≡◌, ℕ, zero, suc, ◌+◌, ◌<◌, ◌≤◌, Bool, true, false, ◌&&◌, cond, List, [], ◌∷◌, ◌++◌, length}
use Rattle.std.proofs.Common.{Option, Some, None, get_or, refl, sym, ap, ◌∙◌, subst, ⊎_elim, arith, length-append}
use Rattle.std.specs.Prelude.{slice_get, slice_index_or, nat_eq, nat_lt}
use Rattle.std.specs.List.{AllByRecursion}
use Rattle.std.proofs.lemmas.Bool.{ltb-false, le-ltb, lt-ltb, eq-eqb, ne_eqb, cases_lt, cases_eq}
use Rattle.std.proofs.lemmas.List.{get_or_append_left}
use Rattle.std.proofs.lemmas.Option.{none-some, same_Some}
use Rattle.std.proofs.Math.Seq.{get_or-append_seam}
use Rattle.cel_code.specs.declared.instr.Instr.{Instr}
use Rattle.cel_code.specs.declared.instr.Instr.TheVariants.{Loop}
use Rattle.cel_verify.specs.Bodies.{leads_behind, last_behind, innermost, same_loop, same_body}
use Rattle.cel_verify.specs.Sound.{every}
use Rattle.cel_verify.specs.Arrivals.{AreBodies}

-- what does not lead past an instruction does not lead past a later one
not_later : (o : Option Instr) (at later : ℕ) → at ≤ later → leads_behind o at ≡ false → leads_behind o later ≡ false
not_later None at later le h = refl
not_later (Some (Loop l exit)) at later le h = le-ltb later exit (let e = ltb-false at exit h in omega arith)
not_later (Some _) at later le h = refl

-- one instruction outwards
pub outwards : (code : List Instr) (at start : ℕ) → leads_behind (slice_get code start) at ≡ false
    → last_behind code at (suc start) ≡ last_behind code at start
outwards code at start h = ap (λ b. cond b (Some start) (last_behind code at start)) h

pub found : (code : List Instr) (at start : ℕ) → leads_behind (slice_get code start) at ≡ true
    → last_behind code at (suc start) ≡ Some start
found code at start h = ap (λ b. cond b (Some start) (last_behind code at start)) h

none_by : (code : List Instr) (at later s : ℕ) (b : Bool) → at ≤ later → leads_behind (slice_get code s) at ≡ b
    → cond b (Some s) (last_behind code at s) ≡ None → (last_behind code at s ≡ None → last_behind code later s ≡ None)
    → last_behind code later (suc s) ≡ None
none_by code at later s true le e h r = absurd (none-some s (sym h))
none_by code at later s false le e h r = outwards code later s (not_later (slice_get code s) at later le e) ∙ r h

-- if none of the first leads past an instruction, none leads past a later one
none_later : (code : List Instr) (at later : ℕ) → at ≤ later → (s : ℕ) → last_behind code at s ≡ None
    → last_behind code later s ≡ None
none_later code at later le zero h = refl
none_later code at later le (suc s) h =
    none_by code at later s (leads_behind (slice_get code s) at) le refl h (λ k. none_later code at later le s k)

-- the loops between an instruction's and the instruction end before a later one too
abbrev Between : List Instr → ℕ → ℕ → ℕ → Type 0
Between code later s start = (start < s) × (last_behind code later s ≡ last_behind code later (suc start))

last_by : (code : List Instr) (at later s start : ℕ) (b : Bool) → at ≤ later → leads_behind (slice_get code s) at ≡ b
    → cond b (Some s) (last_behind code at s) ≡ Some start → (last_behind code at s ≡ Some start → Between code later s start)
    → Between code later (suc s) start
last_by code at later s start true le e h r =
    let same : s ≡ start = same_Some s start h in
    (omega arith, ap (λ n. last_behind code later (suc n)) same)
last_by code at later s start false le e h r =
    let q = r h in
    (omega (arith, q.0), outwards code later s (not_later (slice_get code s) at later le e) ∙ q.1)

last_later : (code : List Instr) (at later : ℕ) → at ≤ later → (s start : ℕ) → last_behind code at s ≡ Some start
    → Between code later s start
last_later code at later le zero start h = absurd (none-some start h)
last_later code at later le (suc s) start h =
    last_by code at later s start (leads_behind (slice_get code s) at) le refl h (λ k. last_later code at later le s start k)

-- from a loop that ends too early to the one around it
module _ (code : List Instr) (at start : ℕ) (le : start ≤ at) (ends : leads_behind (slice_get code start) (at + 1) ≡ false)
    (so_far : last_behind code (at + 1) (suc start) ≡ innermost code (at + 1)) where
  pub goes_out : (outside : ℕ) → innermost code start ≡ Some outside
      → (outside < start) × (last_behind code (at + 1) (suc outside) ≡ innermost code (at + 1))
  goes_out outside h =
      let r = last_later code start (at + 1) (omega arith) start outside h in
      (r.0, sym r.1 ∙ sym (outwards code (at + 1) start ends) ∙ so_far)

  pub goes_nowhere : innermost code start ≡ None → None ≡ innermost code (at + 1)
  goes_nowhere h =
      sym (none_later code start (at + 1) (omega arith) start h) ∙ sym (outwards code (at + 1) start ends) ∙ so_far

pub goes_behind : (code : List Instr) (at start : ℕ) → leads_behind (slice_get code start) (at + 1) ≡ true
    → last_behind code (at + 1) (suc start) ≡ innermost code (at + 1) → Some start ≡ innermost code (at + 1)
goes_behind code at start leads so_far = sym (found code (at + 1) start leads) ∙ so_far

-- one instruction more
pub one_body : (code : List Instr) (at : ℕ) (bodies : List (Option ℕ)) (body : Option ℕ) → AreBodies code at bodies
    → body ≡ innermost code at → AreBodies code (at + 1) (bodies ++ body ∷ [])
one_body code at bodies body h e =
    let seam : get_or (bodies ++ body ∷ []) at None ≡ body =
    ap (λ n. get_or (bodies ++ body ∷ []) n None) (sym h.long) ∙ get_or-append_seam bodies body [] None in
    record {
      long = omega (arith, length-append bodies (body ∷ []), h.long);
      each = λ j lt.
          ⊎_elim (λ less. get_or_append_left bodies (body ∷ []) None j (omega (arith, h.long)) ∙ h.each j less)
          (λ le.
          let same : at ≡ j = omega arith in
          subst (λ n. get_or (bodies ++ body ∷ []) n None ≡ innermost code n) same (seam ∙ e))
          (cases_lt j at);
    }

-- instructions of one body, by the loops that are found for them
pub near_is : (code : List Instr) (bodies : List (Option ℕ)) (at : ℕ) (ts : List ℕ) → AreBodies code (length code) bodies
    → at < length code → AllByRecursion (λ to. to < length code) ts
    → every (λ to. same_loop (slice_index_or bodies at None) (slice_index_or bodies to None)) ts ≡ every (same_body code at) ts
near_is code bodies at [] h inside jumps = refl
near_is code bodies at (t ∷ ts) h inside jumps =
    let rest = near_is code bodies at ts h inside jumps.1 in
    let near : ℕ → Bool = λ to. same_loop (slice_index_or bodies at None) (slice_index_or bodies to None) in
    ap (λ b. near t && b) rest
    ∙ ap (λ o. same_loop o (slice_index_or bodies t None) && every (same_body code at) ts) (h.each at inside)
    ∙ ap (λ o. same_loop (innermost code at) o && every (same_body code at) ts) (h.each t jumps.0)

-- two comparisons that say the same
pub same_number : (a b m n : ℕ) → (a ≡ b → m ≡ n) → (m ≡ n → a ≡ b) → nat_eq a b ≡ nat_eq m n
same_number a b m n there back =
    ⊎_elim (λ same. eq-eqb a b same ∙ sym (eq-eqb m n (there same)))
    (λ other. ne_eqb a b other ∙ sym (ne_eqb m n (λ same. other (back same))))
    (cases_eq a b)

pub same_order : (a b m n : ℕ) → (a < b → m < n) → (m < n → a < b) → nat_lt a b ≡ nat_lt m n
same_order a b m n there back =
    ⊎_elim (λ less. lt-ltb a b less ∙ sym (lt-ltb m n (there less)))
    (λ le.
    let more : n ≤ m = ⊎_elim (λ less. absurd (omega (arith, back less))) (λ more. more) (cases_lt m n) in
    le-ltb a b le ∙ sym (le-ltb m n more))
    (cases_lt a b)
