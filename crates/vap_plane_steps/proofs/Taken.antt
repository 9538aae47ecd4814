-- What steps make of a world, from what is done in turn.
use Rattle.std.proofs.Common.{◌≡◌, ◌≢◌, ◌⊎◌, ℕ, ◌+◌, ◌<◌, ◌≤◌, Bool, true, false, List, [], ◌∷◌, ◌++◌, length}
use Rattle.std.proofs.Common.{refl, sym, ap, subst, ◌∙◌, inl, inr, ⊎_elim, zero, suc, arith}
use Rattle.std.proofs.lemmas.Bool.Decides.{nat_tests}
use Rattle.std.specs.Prelude.{slice_get, slice_set, nat_lt, is_some, Option, Some, None, Result, Ok, Err, OnOk, OnErr}
use Rattle.std.specs.Prelude.{if◌then◌else◌, option_and_then}
use Rattle.base_containers.specs.declared.failed.Failed.{Failed}
use Rattle.vap_policy_verdict.specs.declared.verdict.Verdict.{Verdict}
use Rattle.vap_audit.specs.Entries.{most_entries}
use Rattle.vap_audit.specs.declared.entry.Entry.{Entry}
use Rattle.vap_watch.specs.Places.{Position, Publishes}
use Rattle.vap_watch.specs.declared.fault.PublishFault.{PublishFault}
use Rattle.vap_plane_steps.specs.Held.{Holding, entry_of, judged}
use Rattle.vap_plane_steps.specs.Steps.{State, After, after_judge, after_record, after_verdict, held_by, holding, moved, with_entry}
use Rattle.vap_plane_steps.specs.declared.step.Step.TheVariants.{Publish, Judge, Record}

pub published : (s : State) (p : Position) (r : Result ℕ (Failed PublishFault)) → OnOk r (Publishes s.position p) → OnErr r (p ≡ s.position)
    → After Publish s (moved p s)
published s p (Ok n) all err = (p, inl all, refl)
published s p (Err e) all err = (p, inr err, refl)

pub published_from : (s s' t : State) (p : Position) (r : Result ℕ (Failed PublishFault)) → s ≡ s' → t ≡ moved p s
    → OnOk r (Publishes s.position p) → OnErr r (p ≡ s.position) → After Publish s' t
published_from s s' t p r same is all err =
    subst (λ (z : State). After Publish z t) same (subst (λ (z : State). After Publish s z) (sym is) (published s p r all err))

module _ {X : Type 0} where
  pub set_again : (xs : List X) (n : ℕ) (x y : X) → slice_set (slice_set xs n x) n y ≡ slice_set xs n y
  set_again [] n x y = refl
  set_again (z ∷ xs) zero x y = refl
  set_again (z ∷ xs) (suc n) x y = ap (λ (l : List X). z ∷ l) (set_again xs n x y)

  abbrev kept : Option (Option X) → Option X
  kept o = option_and_then (λ h. h) o

  set_same : (xs : List (Option X)) (n : ℕ) (h : Option X) → kept (slice_get xs n) ≡ h → slice_set xs n h ≡ xs
  set_same [] n h e = refl
  set_same (z ∷ xs) zero h e = ap (λ (y : Option X). y ∷ xs) (sym e)
  set_same (z ∷ xs) (suc n) h e = ap (λ (l : List (Option X)). z ∷ l) (set_same xs n h e)

abbrev with_workers : State → List (Option Holding) → State
with_workers s workers = record { position = s.position; workers = workers; entered = s.entered; history = s.history }

holding_again : (w : ℕ) (h k : Option Holding) (s : State) → holding w k (holding w h s) ≡ holding w k s
holding_again w h k s = ap (λ (l : List (Option Holding)). with_workers s l) (set_again s.workers w h k)

holding_same : (w : ℕ) (h : Option Holding) (s : State) → held_by w s ≡ h → holding w h s ≡ s
holding_same w h s e = ap (λ (l : List (Option Holding)). with_workers s l) (set_same s.workers w h e)

pub judged_some : (w : ℕ) (s : State) (h k : Holding) → held_by w s ≡ Some h → (k ≡ judged h.verdict h) ⊎ (k ≡ h)
    → After (Judge w) s (holding w (Some k) (holding w None s))
judged_some w s h k holds is = ⊎_elim
    (λ (e : k ≡ judged h.verdict h). inl (holding_again w None (Some k) s
    ∙ (ap (λ (x : Holding). holding w (Some x) s) e ∙ sym (ap (λ (o : Option Holding). after_judge o w s) holds))))
    (λ (e : k ≡ h). inr (holding_again w None (Some k) s ∙ holding_same w (Some k) s (holds ∙ ap Some (sym e))))
    is

pub judged_none : (w : ℕ) (s : State) → held_by w s ≡ None → After (Judge w) s (holding w None s)
judged_none w s holds = inr (holding_same w None s holds)

is_full : (s : State) → most_entries ≤ length s.history → nat_lt (length s.history) most_entries ≡ false
is_full s full = grind (arith, nat_tests)

has_room : (s : State) → length s.history < most_entries → nat_lt (length s.history) most_entries ≡ true
has_room s room = grind (arith, nat_tests)

full_verdict : (v : Option Verdict) (h : Holding) (w : ℕ) (s : State) → most_entries ≤ length s.history → after_verdict v h w s ≡ s
full_verdict None h w s full = refl
full_verdict (Some v) h w s full = ap (λ (b : Bool). if b then with_entry (entry_of h v w) (holding w None s) else s) (is_full s full)

full_record : (o : Option Holding) (w : ℕ) (s : State) → most_entries ≤ length s.history → after_record o w s ≡ s
full_record None w s full = refl
full_record (Some h) w s full = full_verdict h.verdict h w s full

pub recorded_full : (w : ℕ) (s : State) → most_entries ≤ length s.history → After (Record w) s s
recorded_full w s full = sym (full_record (held_by w s) w s full)

pub recorded_none : (w : ℕ) (s : State) → held_by w s ≡ None → After (Record w) s (holding w None s)
recorded_none w s holds = holding_same w None s holds ∙ sym (ap (λ (o : Option Holding). after_record o w s) holds)

not_decided : (v : Option Verdict) (h : Holding) (w : ℕ) (s : State) → is_some v ≡ false → after_verdict v h w s ≡ s
not_decided None h w s is = refl
not_decided (Some v) h w s is = cc

pub recorded_not : (w : ℕ) (s : State) (h : Holding) → held_by w s ≡ Some h → is_some h.verdict ≡ false
    → After (Record w) s (holding w (Some h) (holding w None s))
recorded_not w s h holds is =
    holding_again w None (Some h) s ∙ (holding_same w (Some h) s holds
    ∙ (sym (not_decided h.verdict h w s is) ∙ sym (ap (λ (o : Option Holding). after_record o w s) holds)))

pub recorded_some : (w : ℕ) (s : State) (h : Holding) (e : Entry) → length s.history < most_entries → held_by w s ≡ Some h
    → h.verdict ≡ Some e.verdict → e ≡ entry_of h e.verdict w → After (Record w) s (with_entry e (holding w None s))
recorded_some w s h e room holds decided is =
    ap (λ (x : Entry). with_entry x (holding w None s)) is
    ∙ (sym (ap (λ (b : Bool). if b then with_entry (entry_of h e.verdict w) (holding w None s) else s) (has_room s room))
    ∙ (sym (ap (λ (v : Option Verdict). after_verdict v h w s) decided)
    ∙ sym (ap (λ (o : Option Holding). after_record o w s) holds)))
