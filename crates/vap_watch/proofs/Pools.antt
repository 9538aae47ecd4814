-- The steps on the places that wait keep their rule.
use Rattle.std.proofs.Common.{◌≡◌, ℕ, zero, suc, ◌+◌, ◌<◌, ◌≤◌, ◌≢◌, ◌==◌, ◌⊎◌, Bool, true, false, List, [], ◌∷◌, ◌++◌, length, map, set}
use Rattle.std.proofs.Common.{refl, sym, subst, ap, ◌∙◌, ⊎_elim, arith, Option, Some, None, IsSome, slice_index}
use Rattle.std.specs.List.{All}
use Rattle.std.proofs.lemmas.List.{get_or-set_same, get_or-set_other, set-get_or}
use Rattle.std.proofs.lemmas.Bool.Decides.{nat_tests}
use native.Mathlib.Decide.{ℕ_discrete, dec_le}
use mathlib.Core.Bool.{true≢false}
use mathlib.Core.Option.{some, some-injective, some-ne-none}
use mathlib.Core.Option as maybe
use lib.ListN.{get_elem?}
use prog.Atomic.{either}
use Rattle.atomic_table.specs.Table.{State, Act, Valid, carried_after, keeps, takes, gives, step, stepped, opening, Allows, Enters}
use Rattle.atomic_table.proofs.Lists.{at_set, at_snoc, set_here, set_else}
use Rattle.vap_watch.specs.Shown.{Shown}
use Rattle.vap_watch.specs.Seen.{shown_in}
use Rattle.vap_watch.specs.Homes.{Waits, sits, claims, Sat}

abbrev Home : Type 0 → Type 0
Home X = maybe.Option (Option (Shown X))

one_inside : (ws : List ℕ) (i : ℕ) → slice_index ws i ≡ 1 → i < length ws
one_inside [] i e = absurd (omega (arith, e))
one_inside (w ∷ ws) zero e = omega arith
one_inside (w ∷ ws) (suc i) e = let r = one_inside ws i e in omega (arith, r)

module _ {X : Type 0} (key : Shown X) where
  -- all views are the key
  abbrev AllKey : List (Shown X) → Type 0
  AllKey views = (j : ℕ) (v : Shown X) → get_elem? views j ≡ some v → v ≡ key

  -- a place of the key's board is at home
  abbrev IsHome : List (Home X) → ℕ → Type 0
  IsHome homes i = (e : Shown X) × (get_elem? homes i ≡ some (some (Some e))) × (e.board ≡ key.board)

  -- so is one where a word is 1
  abbrev AreHome : List ℕ → List (Home X) → Type 0
  AreHome words homes = (i : ℕ) → slice_index words i ≡ 1 → IsHome homes i

  views_set : (views : List (Shown X)) (id : ℕ) (w : Shown X) → AllKey views → w ≡ key → AllKey (set views id w)
  views_set views id w all is j v at = ⊎_elim
      (λ (t : (j ≡ id) × (w ≡ v)). sym t.1 ∙ is)
      (λ (t : (j ≢ id) × (get_elem? views j ≡ some v)). all j v t.1)
      (at_set views id j w v at)

  -- a new seat knows which board it is
  pub sits_down : (slots i : ℕ) → Enters (Waits key) slots i (λ n w. sits (step slots i 0 0 maybe.none) (key, []) n (w, []))
  sits_down slots i s h deep small = (
    key,
    record { home = h.home; views = λ j v at. ⊎_elim (h.views j v) (λ (e : key ≡ v). sym e) (at_snoc s.views key v j at) },
    refl,
  )

  taken : (words : List ℕ) (homes : List (Home X)) (i x : ℕ) (y : Home X) → x ≢ 1 → i < length words → AreHome words homes
      → (j : ℕ) → slice_index (set words i x) j ≡ 1 → Dec (j ≡ i) → IsHome (set homes i y) j
  taken words homes i x y other h all j at (yes same) =
      let is = ap (λ (k : ℕ). slice_index (set words i x) k) same ∙ get_or-set_same words i x 0 h in
      absurd (other (sym is ∙ at))
  taken words homes i x y other h all j at (no n) =
      let was = all j (sym (get_or-set_other words i j x 0 n) ∙ at) in
      (was.0, set_else homes i j y n ∙ was.1, was.2)

  claim_goes : (slots i id : ℕ) (me : Sat X) (s : State (Option (Shown X)) (Shown X)) → Waits key s → get_elem? s.views id ≡ some me.0
      → (b : Bool) → (slice_index s.words i == 1) ≡ b
      → (w : Shown X) × (a : Act (Option (Shown X))) × Valid s.homes me.1 a
      × Waits key (stepped s i (either (slice_index s.words i == 1) 0 (slice_index s.words i)) id me.1 w a)
      × claims (step slots i 1 0 maybe.none) me (slice_index s.words i) (w, carried_after me.1 a)
  claim_goes slots i id me s h at true is =
      let one : slice_index s.words i ≡ 1 = grind (arith, nat_tests) in
      let found = h.home i one in
      let zer : 0 ≢ 1 = λ e. omega (arith, e) in
      let inside = one_inside s.words i one in
      let mine = h.views id me.0 at in (
        me.0,
        takes i (Some found.0),
        found.1,
        rw is (record {
          home = λ j t. taken s.words s.homes i 0 maybe.none zer inside h.home j t (ℕ_discrete j i);
          views = views_set s.views id me.0 h.views mine;
        }),
        ((λ _. (found.0, found.2 ∙ ap (λ k. k.board) (sym mine), refl)), λ n. absurd (n one)),
      )
  claim_goes slots i id me s h at false is =
      let other : slice_index s.words i ≢ 1 = λ e. grind (arith, nat_tests) in (
        me.0,
        keeps,
        tt,
        rw is (record {
          home = λ j t. h.home j (subst (λ (ws : List ℕ). slice_index ws j ≡ 1) (set-get_or s.words i 0) t);
          views = views_set s.views id me.0 h.views (h.views id me.0 at);
        }),
        ((λ e. absurd (other e)), λ _. refl),
      )

  -- takes the place i, if it is at home
  pub claimed : (slots i id : ℕ) (me : Sat X)
      → Allows (Waits key) slots id me i (λ n. either (n == 1) 0 n) (claims (step slots i 1 0 maybe.none) me)
  claimed slots i id me s h deep at small = claim_goes slots i id me s h at (slice_index s.words i == 1) refl

  given : (words : List ℕ) (homes : List (Home X)) (i : ℕ) (e : Shown X) → i < length homes → e.board ≡ key.board → AreHome words homes
      → (j : ℕ) → slice_index (set words i 1) j ≡ 1 → Dec (j ≡ i) → IsHome (set homes i (some (Some e))) j
  given words homes i e h of all j at (yes same) =
      let now = set homes i (some (Some e)) in
      (e, subst (λ (k : ℕ). get_elem? now k ≡ some (some (Some e))) (sym same) (set_here homes i (some (Some e)) h), of)
  given words homes i e h of all j at (no n) =
      let was = all j (sym (get_or-set_other words i j 1 0 n) ∙ at) in
      (was.0, set_else homes i j (some (Some e)) n ∙ was.1, was.2)

  freed : (slots i id : ℕ) (v e : Shown X) → i < slots → e.board ≡ key.board
      → Allows (Waits key) slots id (v, (i, Some e) ∷ []) i (λ _. 1) (λ _ _. Unit {0})
  freed slots i id v e h of s kept deep at small = (
    v,
    gives,
    tt,
    record {
      home = λ j t. given s.words s.homes i e (omega (arith, h, deep)) of kept.home j t (ℕ_discrete j i);
      views = views_set s.views id v kept.views (kept.views id v at);
    },
    tt,
  )

  -- puts the place i back
  pub freed_at : (slots i id : ℕ) (v : Shown X) (o : Option (Shown X)) → i < slots → IsSome o → (shown_in o).board ≡ key.board
      → Allows (Waits key) slots id (v, (i, o) ∷ []) i (λ _. 1) (λ _ _. Unit {0})
  freed_at slots i id v None h there of = absurd (true≢false (sym there))
  freed_at slots i id v (Some e) h there of = freed slots i id v e h of

  -- the places at the start
  waits : (words : List ℕ) (slots : List (Option (Shown X))) → length words ≡ length slots
      → ((i : ℕ) → i < length slots → IsHome (map some slots) i) → Waits key (opening words slots key)
  waits words slots len all = record {
    home = λ i one. all i (omega (arith, len, one_inside words i one));
    views = first_view;
  }
    where
      first_view : (j : ℕ) (v : Shown X) → get_elem? (key ∷ []) j ≡ some v → v ≡ key
      first_view zero v at = sym (some-injective key v at)
      first_view (suc j) v at = absurd (some-ne-none v (sym at))

  all_home : (slots : List (Option (Shown X))) → All (λ o. IsSome o × ((shown_in o).board ≡ key.board)) slots
      → (i : ℕ) → i < length slots → IsHome (map some slots) i
  all_home [] all i h = absurd (omega arith)
  all_home (None ∷ os) all zero h = absurd (true≢false (sym (all 0 None h).0))
  all_home (Some e ∷ os) all zero h = (e, refl, (all 0 (Some e) h).1)
  all_home (o ∷ os) all (suc i) h = all_home os (λ k d b. all (suc k) d (omega arith)) i (omega arith)

  pub waits_all : (words : List ℕ) (slots : List (Option (Shown X))) → length words ≡ length slots
      → All (λ o. IsSome o × ((shown_in o).board ≡ key.board)) slots → Waits key (opening words slots key)
  waits_all words slots len all = waits words slots len (all_home slots all)
