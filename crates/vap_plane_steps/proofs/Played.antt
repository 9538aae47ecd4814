-- What a run results in.
use Rattle.std.proofs.Common.{◌≡◌, ◌≢◌, ◌⊎◌, ℕ, ◌+◌, ◌<◌, ◌≤◌, Bool, true, false, List, [], ◌∷◌, ◌++◌, length, append-nil, replicate}
use Rattle.std.proofs.Common.{refl, sym, ap, subst, ◌∙◌, inl, inr, ⊎_elim, zero, suc, le_refl, length-append, arith}
use Rattle.std.proofs.lemmas.List.{append_assoc}
use Rattle.std.specs.Prelude.{slice_get, slice_set, slice_index_or, nat_lt, Option, Some, None, IsSome, if◌then◌else◌}
use Rattle.std.specs.List.{All}
use Rattle.vap_match.specs.declared.request.Request.{Request}
use Rattle.vap_policy_verdict.specs.declared.verdict.Verdict.{Verdict}
use Rattle.vap_audit.specs.Entries.{AreRightIn, IsRightIn, most_entries}
use Rattle.vap_audit.specs.declared.entry.Entry.{Entry}
use Rattle.vap_watch.specs.Logs.{IsPublished, StartsWith, publication}
use Rattle.vap_watch.specs.Places.{HasRoomFor, Position, Publishes, at}
use Rattle.vap_watch.specs.declared.log.Logged.{Logged}
use Rattle.vap_watch.proofs.Publication.{published_more}
use Rattle.vap_audit.proofs.Revisions.{verdict_revision}
use Rattle.vap_audit.specs.Verdicts.{verdict_at}
use Rattle.vap_plane_steps.specs.Held.{Holding, IsRightOf, entered, entry_of, judged}
use Rattle.vap_plane_steps.specs.Steps.{State, After, NeverBack, Plays, Runs, opening}
use Rattle.vap_plane_steps.specs.Steps.{after_enter, after_judge, after_record, after_verdict, enters_by, enters_where, held_by}
use Rattle.vap_plane_steps.specs.Steps.{holding, moved, revisions, with_entry}
use Rattle.vap_plane_steps.specs.declared.step.Step.{Step}
use Rattle.vap_plane_steps.specs.declared.step.Step.TheVariants.{Stage, Publish, Enter, Judge, Record, GiveUp}

pub run_more : (xs : List Step) (x : Step) (s m t : State) → Runs xs s m → After x m t → Runs (xs ++ x ∷ []) s t
run_more [] x s m t r a = (t, subst (λ (z : State). After x z t) r a, refl)
run_more (y ∷ ys) x s m t r a = (r.0, r.1, run_more ys x r.0 m t r.2 a)

starts_here : {X : Type 0} (log : List X) → StartsWith log log
starts_here log = record { rest = []; split = sym (append-nil log) }

starts_further : {X : Type 0} (log more seen : List X) → StartsWith log seen → StartsWith (log ++ more) seen
starts_further {X = X} log more seen s = record {
  rest = s.rest ++ more;
  split = ap (λ (l : List X). l ++ more) s.split ∙ append_assoc seen s.rest more;
}

-- what a worker holds is right for the published log
record IsHeldIn (log : List Logged) (h : Holding) : Type 0 where
  begins : StartsWith log h.log
  published : IsPublished h.log
  right : IsRightOf h.log h.request h.verdict

record Good (s : State) : Type 0 where
  published : IsPublished s.position.published
  held : (w : ℕ) (h : Holding) → slice_get s.workers w ≡ Some (Some h) → IsHeldIn s.position.published h
  right : AreRightIn s.position.published s.history

module _ {X : Type 0} where
  get_set : (l : List X) (n k : ℕ) (a b : X) → slice_get (slice_set l n a) k ≡ Some b → ((k ≡ n) × (a ≡ b)) ⊎ (slice_get l k ≡ Some b)
  get_set [] n k a b e = inr e
  get_set (x ∷ xs) zero zero a b e = let p : a ≡ b = cc in inl (refl, p)
  get_set (x ∷ xs) zero (suc k) a b e = inr e
  get_set (x ∷ xs) (suc n) zero a b e = inr e
  get_set (x ∷ xs) (suc n) (suc k) a b e =
      ⊎_elim (λ (t : (k ≡ n) × (a ≡ b)). inl (ap suc t.0, t.1)) (λ (h : slice_get xs k ≡ Some b). inr h) (get_set xs n k a b e)

  get_last : (l : List X) (k : ℕ) (a b : X) → slice_get (l ++ a ∷ []) k ≡ Some b → (a ≡ b) ⊎ (slice_get l k ≡ Some b)
  get_last [] zero a b e = let p : a ≡ b = cc in inl p
  get_last [] (suc k) a b e = let p : ⊥ = cc in absurd p
  get_last (x ∷ xs) zero a b e = inr e
  get_last (x ∷ xs) (suc k) a b e = get_last xs k a b e

  abbrev nothing : Option X
  nothing = None

  none_held : (n w : ℕ) (h : X) → slice_get (replicate n nothing) w ≢ Some (Some h)
  none_held zero w h e = cc
  none_held (suc n) zero h e = cc
  none_held (suc n) (suc w) h e = none_held n w h e

abbrev HeldOr : List Logged → Option Holding → Type 0
HeldOr log o = (h : Holding) → o ≡ Some h → IsHeldIn log h

good_holding : (s : State) (w : ℕ) (o : Option Holding) → Good s → HeldOr s.position.published o → Good (holding w o s)
good_holding s w o g is = record {
  published = g.published;
  held = λ v h e. ⊎_elim
      (λ (t : (v ≡ w) × (o ≡ Some h)). is h t.1)
      (λ (old : slice_get s.workers v ≡ Some (Some h)). g.held v h old)
      (get_set s.workers w v o (Some h) e);
  right = g.right;
}

none_right : (log : List Logged) → HeldOr log None
none_right log h e = cc

some_right : (log : List Logged) (k : Holding) → IsHeldIn log k → HeldOr log (Some k)
some_right log k is h e = let same : k ≡ h = cc in subst (IsHeldIn log) same is

held_at : (s : State) (w : ℕ) (h : Holding) → Good s → held_by w s ≡ Some h → IsHeldIn s.position.published h
held_at s w h g e = at_slot (slice_get s.workers w) refl e where
  at_slot : (o : Option (Option Holding)) → slice_get s.workers w ≡ o → held_by w s ≡ Some h → IsHeldIn s.position.published h
  at_slot None is e = (let n : ◌≡◌ {A = Option Holding} None (Some h) = cc in absurd cc)
  at_slot (Some k) is e = (let same : k ≡ Some h = cc in g.held w h (is ∙ ap Some same))

good_enter : (o : Option Holding) (w : ℕ) (q : Request) (s : State) → Good s → Good (after_enter o w q s)
good_enter (Some h) w q s g = g
good_enter None w q s g =
    let k = good_holding s w (Some (entered q s.entered s.position.published)) g
    (some_right s.position.published _ (record {
      begins = starts_here s.position.published;
      published = g.published;
      right = λ v e. cc;
    })) in
    record { published = k.published; held = k.held; right = k.right }

judged_right : (o : Option Verdict) (log : List Logged) (h : Holding) → h.verdict ≡ o → IsHeldIn log h → IsHeldIn log (judged o h)
judged_right None log h e is =
    record { begins = is.begins; published = is.published; right = λ v e. (let s : verdict_at h.log h.request ≡ v = cc in sym s) }
judged_right (Some v) log h e is = is

good_judge : (o : Option Holding) (w : ℕ) (s : State) → held_by w s ≡ o → Good s → Good (after_judge o w s)
good_judge None w s e g = g
good_judge (Some h) w s e g =
    good_holding s w (Some (judged h.verdict h)) g (some_right s.position.published _ (judged_right h.verdict s.position.published h refl
    (held_at s w h g e)))

good_entry : (s : State) (e : Entry) → Good s → IsRightIn s.position.published e → Good (with_entry e s)
good_entry s e g is = record {
  published = g.published;
  held = g.held;
  right = λ k d at. ⊎_elim (λ (same : e ≡ d). subst (IsRightIn s.position.published) same is) (λ (old : slice_get s.history k ≡ Some d).
      g.right k d old)
      (get_last s.history k e d at);
}

entry_right : (log : List Logged) (h : Holding) (v : Verdict) (w : ℕ) → h.verdict ≡ Some v → IsHeldIn log h → IsRightIn log (entry_of h v w)
entry_right log h v w e is = record {
  begins = is.begins;
  published = is.published;
  named = ap (λ (x : Verdict). x.revision) (is.right v e) ∙ verdict_revision h.log h.request;
  right = is.right v e;
}

good_if : (b : Bool) (s t : State) → Good s → Good t → Good (if b then t else s)
good_if true s t g h = h
good_if false s t g h = g

good_verdict : (o : Option Verdict) (h : Holding) (w : ℕ) (s : State) → h.verdict ≡ o → held_by w s ≡ Some h → Good s
    → Good (after_verdict o h w s)
good_verdict None h w s e at g = g
good_verdict (Some v) h w s e at g =
    good_if (nat_lt (length s.history) most_entries) s (with_entry (entry_of h v w) (holding w None s)) g
    (good_entry (holding w None s) (entry_of h v w) (good_holding s w None g (none_right s.position.published))
    (entry_right s.position.published h v w e (held_at s w h g at)))

good_record : (o : Option Holding) (w : ℕ) (s : State) → held_by w s ≡ o → Good s → Good (after_record o w s)
good_record None w s e g = g
good_record (Some h) w s e g = good_verdict h.verdict h w s refl e g

same_good : (s t : State) → t ≡ s → Good s → Good t
same_good s t e g = subst Good (sym e) g

good_published : (s : State) (p : Position) → Publishes s.position p → Good s → Good (moved p s)
good_published s p is g =
    let more = publication is.choice s.position.staged in
    subst (λ (q : Position). Good (moved q s)) (sym is.published) (record {
      published = published_more s.position.published is.choice s.position.staged g.published;
      held = λ w h at. (let k = g.held w h at in
          record { begins = starts_further s.position.published more h.log k.begins; published = k.published; right = k.right });
      right = λ n e at. (let k = g.right n e at in
          record {
            begins = starts_further s.position.published more e.log k.begins;
            published = k.published;
            named = k.named;
            right =
                k.right;
          });
    })

good_moved : (s : State) (p : Position) → p.published ≡ s.position.published → Good s → Good (moved p s)
good_moved s p e g = record {
  published = subst IsPublished (sym e) g.published;
  held = λ w h at. subst (λ (l : List Logged). IsHeldIn l h) (sym e) (g.held w h at);
  right = λ n d at. subst (λ (l : List Logged). IsRightIn l d) (sym e) (g.right n d at);
}

good_after : (x : Step) (s t : State) → After x s t → Good s → Good t
good_after (Stage e) s t a g = ⊎_elim
    (λ (is : HasRoomFor s.position e × (t ≡ moved (at s.position.published (s.position.staged ++ e ∷ [])) s)). same_good _ t is.1
    (good_moved s _ refl g))
    (λ (is : (HasRoomFor s.position e → ⊥) × (t ≡ s)). same_good s t is.1 g) a
good_after Publish s t a g = same_good _ t a.2 (⊎_elim
    (λ (is : Publishes s.position a.0). good_published s a.0 is g)
    (λ (is : a.0 ≡ s.position). good_moved s a.0 (ap (λ (p : Position). p.published) is) g) a.1)
good_after (Enter w q) s t a g = same_good _ t a (good_enter (held_by w s) w q s g)
good_after (Judge w) s t a g = ⊎_elim
    (λ (is : t ≡ after_judge (held_by w s) w s). same_good _ t is (good_judge (held_by w s) w s refl g))
    (λ (is : t ≡ s). same_good s t is g) a
good_after (Record w) s t a g = same_good _ t a (good_record (held_by w s) w s refl g)
good_after (GiveUp w) s t a g = same_good _ t a (good_holding s w None g (none_right s.position.published))

good_runs : (xs : List Step) (s t : State) → Runs xs s t → Good s → Good t
good_runs [] s t r g = same_good s t r g
good_runs (x ∷ xs) s t r g = good_runs xs r.0 t r.2 (good_after x s r.0 r.1 g)

good_opening : Good opening
good_opening = record {
  published = tt;
  held = λ w h at. absurd (none_held 256 w h at);
  right = λ k e at. cc;
}

abbrev revision_of : State → ℕ
revision_of s = length s.position.published

-- no step takes back what is published
enter_grows : (o : Option Holding) (w : ℕ) (q : Request) (s : State) → revision_of (after_enter o w q s) ≡ revision_of s
enter_grows None w q s = refl
enter_grows (Some h) w q s = refl

judge_grows : (o : Option Holding) (w : ℕ) (s : State) → revision_of (after_judge o w s) ≡ revision_of s
judge_grows None w s = refl
judge_grows (Some h) w s = refl

if_grows : (b : Bool) (s t : State) → revision_of t ≡ revision_of s → revision_of (if b then t else s) ≡ revision_of s
if_grows true s t e = e
if_grows false s t e = refl

verdict_grows : (o : Option Verdict) (h : Holding) (w : ℕ) (s : State) → revision_of (after_verdict o h w s) ≡ revision_of s
verdict_grows None h w s = refl
verdict_grows (Some v) h w s = if_grows (nat_lt (length s.history) most_entries) s (with_entry (entry_of h v w) (holding w None s)) refl

record_grows : (o : Option Holding) (w : ℕ) (s : State) → revision_of (after_record o w s) ≡ revision_of s
record_grows None w s = refl
record_grows (Some h) w s = verdict_grows h.verdict h w s

as_before : (s t u : State) → t ≡ u → revision_of u ≡ revision_of s → revision_of s ≤ revision_of t
as_before s t u e f = (let g = ap revision_of e in omega arith)

grows : (x : Step) (s t : State) → After x s t → revision_of s ≤ revision_of t
grows (Stage e) s t a = ⊎_elim
    (λ (is : HasRoomFor s.position e × (t ≡ moved (at s.position.published (s.position.staged ++ e ∷ [])) s)). as_before s t _ is.1 refl)
    (λ (is : (HasRoomFor s.position e → ⊥) × (t ≡ s)). as_before s t s is.1 refl) a
grows Publish s t a = ⊎_elim
    (λ (is : Publishes s.position a.0).
    (let e = ap revision_of a.2 in
    let f = ap (λ (p : Position). length p.published) is.published in
    let l = length-append s.position.published (publication is.choice s.position.staged) in omega arith))
    (λ (is : a.0 ≡ s.position). (let e = ap revision_of a.2 in let f = ap (λ (p : Position). length p.published) is in omega arith)) a.1
grows (Enter w q) s t a = as_before s t _ a (enter_grows (held_by w s) w q s)
grows (Judge w) s t a = ⊎_elim
    (λ (is : t ≡ after_judge (held_by w s) w s). as_before s t _ is (judge_grows (held_by w s) w s))
    (λ (is : t ≡ s). as_before s t s is refl) a
grows (Record w) s t a = as_before s t _ a (record_grows (held_by w s) w s)
grows (GiveUp w) s t a = as_before s t _ a refl

all_first : (P : ℕ → Type 0) (n : ℕ) (ns : List ℕ) → P n → All P ns → All P (n ∷ ns)
all_first P n ns p all zero d lt = p
all_first P n ns p all (suc k) d lt = all k d (omega arith)

all_above : (m n : ℕ) (ns : List ℕ) → m ≤ n → All (λ (k : ℕ). n ≤ k) ns → All (λ (k : ℕ). m ≤ k) ns
all_above m n ns le all k d lt = (let h = all k d lt in omega arith)

abbrev Forward : ℕ → List ℕ → Type 0
Forward n ns = All (λ (k : ℕ). n ≤ k) ns × NeverBack ns

forward_one : (n m : ℕ) (b : Bool) (o : Option Holding) (s : State) (ns : List ℕ) → n ≡ revision_of s → n ≤ m → Forward m ns
    → Forward n (enters_where b o s ++ ns)
forward_one n m true None s ns e le f = (
  all_first (λ (k : ℕ). n ≤ k) (revision_of s) ns (omega arith) (all_above n m ns le f.0),
  (all_above (revision_of s) m ns (omega arith) f.0, f.1),
)
forward_one n m true (Some h) s ns e le f = (all_above n m ns le f.0, f.1)
forward_one n m false o s ns e le f = (all_above n m ns le f.0, f.1)

forward_step : (w : ℕ) (x : Step) (s : State) (m : ℕ) (ns : List ℕ) → revision_of s ≤ m → Forward m ns
    → Forward (revision_of s) (enters_by w x s ++ ns)
forward_step w (Stage e) s m ns le f = (all_above _ m ns le f.0, f.1)
forward_step w Publish s m ns le f = (all_above _ m ns le f.0, f.1)
forward_step w (Enter v q) s m ns le f = forward_one (revision_of s) m _ (held_by v s) s ns refl le f
forward_step w (Judge v) s m ns le f = (all_above _ m ns le f.0, f.1)
forward_step w (Record v) s m ns le f = (all_above _ m ns le f.0, f.1)
forward_step w (GiveUp v) s m ns le f = (all_above _ m ns le f.0, f.1)

forward : (w : ℕ) (xs : List Step) (s t : State) (r : Runs xs s t) → Forward (revision_of s) (revisions w xs s t r)
forward w [] s t r = ((λ k d lt. absurd (omega arith)), tt)
forward w (x ∷ xs) s t r =
    forward_step w x s (revision_of r.0) (revisions w xs r.0 t r.2) (grows x s r.0 r.1) (forward w xs r.0 t r.2)

pub played : (xs : List Step) (t : State) → Runs xs opening t → Plays xs t
played xs t r = record {
  run = r;
  right = (good_runs xs opening t r good_opening).right;
  forward = λ w. (forward w xs opening t r).1;
}
