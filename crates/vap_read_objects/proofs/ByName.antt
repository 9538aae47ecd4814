-- Lists in the order of names.
use Rattle.std.proofs.Common.{◌≡◌, ◌<◌, ◌+◌, ◌-◌, ℕ, zero, suc, Bool, true, false, cond, List, [], ◌∷◌, ◌++◌, length, filter, arith}
use Rattle.std.proofs.Common.{Ordering, refl, sym, ap, ◌∙◌, subst, true≢false, get_or, Result, Ok, Err}
use Rattle.std.specs.Prelude.{IfOk}
use Rattle.std.specs.Cmp.Lexicographic.{slice_cmp}
use Rattle.std.specs.Cmp.{IsStrictWeakOrder}
use Rattle.std.specs.List.{AllByRecursion}
use Rattle.std.specs.List.Sorted.{IsSortedByKey}
use Rattle.std.specs.Ordering.{nat_cmp, is_eq, is_lt}
use Rattle.std.specs.declared.cmp.Ordering.TheVariants.{Less, Equal, Greater}
use Rattle.std.proofs.lemmas.Cmp.{nat_list_cmp_total}
use Rattle.std.proofs.lemmas.List.Sorted.{ranks_by}
use Rattle.std.proofs.lemmas.Map.Text.{is_eq-slice_cmp}
use Rattle.std.proofs.lemmas.Slice.Eq.{bytes_eq-Decides}
use Rattle.base_containers.specs.declared.text.Keyed.{Keyed}
use Rattle.base_containers.specs.Keys.{place_for, with_entry}
use Rattle.vap_read_objects.specs.ByName.{AreByName, before_greater, by_name, is_named}

-- ---- the order of names

-- the name of one entry is below that of another
abbrev pub below : {V : Type 0} → Keyed V → Keyed V → Bool
below a b = is_lt (slice_cmp nat_cmp a.key b.key)

weak : {V : Type 0} → IsStrictWeakOrder (below {V = V})
weak = ranks_by nat_list_cmp_total (λ e. e.key)

-- what is below one that is not above a third is below the third
below_both : {V : Type 0} (a b c : Keyed V) → below a b ≡ true → below b c ≡ true → (d : Bool) → below a c ≡ d → d ≡ true
below_both a b c h k true e = refl
below_both a b c h k false e = absurd (true≢false (sym h ∙ weak.chain a c b e (weak.one_way b c k)))

-- ---- one more

-- an entry that is put before the others of its name and one that is put after them may be put in any order
commute : {V : Type 0} (a b : Keyed V) (fs : List (Keyed V))
    → with_entry b.key b.value (before_greater a fs) ≡ before_greater a (with_entry b.key b.value fs)
commute a b [] = at (below b a) refl
  where
    at : (s : Bool) → below b a ≡ s → with_entry b.key b.value (a ∷ []) ≡ before_greater a (b ∷ [])
    at true s = rw s refl
    at false s = rw s refl
commute {V} a b (x ∷ r) = at (below x a) refl (below b x) refl (below b a) refl (commute a b r)
  where
    at : (p : Bool) → below x a ≡ p → (q : Bool) → below b x ≡ q → (s : Bool) → below b a ≡ s
        → with_entry b.key b.value (before_greater a r) ≡ before_greater a (with_entry b.key b.value r)
        → with_entry b.key b.value (before_greater a (x ∷ r)) ≡ before_greater a (with_entry b.key b.value (x ∷ r))
    at true p true q true s rest = rw p (rw q (rw s (rw p refl)))
    at true p true q false s rest = absurd (true≢false (sym (below_both b x a q p false s)))
    at true p false q s e rest = rw p (rw q (rw p (ap (λ xs. x ∷ xs) rest)))
    at false p true q true s rest = rw p (rw s (rw q (rw s (rw p refl))))
    at false p true q false s rest = rw p (rw s (rw q (rw s refl)))
    at false p false q s e rest = rw p (rw (weak.chain b x a q p) (rw q (rw p refl)))

-- one more entry goes after the others of its name
pub one_more : {V : Type 0} (es : List (Keyed V)) (e : Keyed V) → by_name (es ++ e ∷ []) ≡ with_entry e.key e.value (by_name es)
one_more [] e = refl
one_more (f ∷ es) e = ap (before_greater f) (one_more es e) ∙ sym (commute f e (by_name es))

-- ---- as many

longer : {V : Type 0} (e : Keyed V) (fs : List (Keyed V)) → length (before_greater e fs) ≡ suc (length fs)
longer e [] = refl
longer e (f ∷ fs) = at (below f e) (longer e fs)
  where
    at : (b : Bool) → length (before_greater e fs) ≡ suc (length fs)
        → length (cond b (f ∷ before_greater e fs) (e ∷ f ∷ fs)) ≡ suc (suc (length fs))
    at true more = ap suc more
    at false more = refl

pub as_many : {V : Type 0} (es : List (Keyed V)) → length (by_name es) ≡ length es
as_many [] = refl
as_many (e ∷ es) = longer e (by_name es) ∙ ap suc (as_many es)

-- ---- in order

abbrev Sorted : {V : Type 0} → List (Keyed V) → Type 0
Sorted es = IsSortedByKey (λ e. e.key) (slice_cmp nat_cmp) es

-- the first of a list, if there is one, is not below an entry
abbrev NotBelow : {V : Type 0} → List (Keyed V) → Keyed V → Type 0
NotBelow {V} es e = (d : Keyed V) → 0 < length es → below (get_or es 0 d) e ≡ false

sorted_cons : {V : Type 0} (e : Keyed V) (es : List (Keyed V)) → NotBelow es e → Sorted es → Sorted (e ∷ es)
sorted_cons e es first rest zero d low high = first d (omega (arith, high))
sorted_cons e es first rest (suc k) d low high =
    let same : suc k + 1 ≡ suc (k + 1) = omega arith in
    ap (λ n. below (get_or (e ∷ es) n d) (get_or es k d)) same ∙ rest k d (omega arith) (omega (arith, high))

sorted_rest : {V : Type 0} (e : Keyed V) (es : List (Keyed V)) → Sorted (e ∷ es) → Sorted es
sorted_rest e es whole k d low high =
    let same : suc (k + 1) ≡ suc k + 1 = omega arith in
    ap (λ n. below (get_or (e ∷ es) n d) (get_or es k d)) same ∙ whole (suc k) d (omega arith) (omega (arith, high))

first_of_rest : {V : Type 0} (e : Keyed V) (es : List (Keyed V)) → Sorted (e ∷ es) → NotBelow es e
first_of_rest e es whole d some = whole 0 d (omega arith) (omega (arith, some))

first_put : {V : Type 0} (e f : Keyed V) (fs : List (Keyed V)) → below e f ≡ false → NotBelow fs f → NotBelow (before_greater e fs) f
first_put e f [] own rest d some = own
first_put e f (g ∷ fs) own rest d some = at (below g e)
  where
    at : (b : Bool) → below (get_or (cond b (g ∷ before_greater e fs) (e ∷ g ∷ fs)) 0 d) f ≡ false
    at true = rest d (omega arith)
    at false = own

sorted_put : {V : Type 0} (e : Keyed V) (fs : List (Keyed V)) → Sorted fs → Sorted (before_greater e fs)
sorted_put e [] whole = sorted_cons e [] (λ d some. absurd (omega (arith, some))) whole
sorted_put e (f ∷ fs) whole = at (below f e) refl (sorted_put e fs (sorted_rest f fs whole))
  where
    at : (b : Bool) → below f e ≡ b → Sorted (before_greater e fs) → Sorted (cond b (f ∷ before_greater e fs) (e ∷ f ∷ fs))
    at true h rest =
        sorted_cons f (before_greater e fs) (first_put e f fs (weak.one_way f e h) (first_of_rest f fs whole)) rest
    at false h rest = sorted_cons e (f ∷ fs) (λ d some. h) whole

sorted_none : (V : Type 0) → Sorted {V = V} []
sorted_none V k d low high = absurd (omega (arith, high))

by_name_sorted : {V : Type 0} (es : List (Keyed V)) → Sorted (by_name es)
by_name_sorted {V} [] = sorted_none V
by_name_sorted (e ∷ es) = sorted_put e (by_name es) (by_name_sorted es)

-- ---- the same entries

-- of two entries with one name neither is below the other
not_apart : {V : Type 0} (name : List ℕ) (a b : Keyed V) → is_named name a ≡ true → is_named name b ≡ true → below a b ≡ false
not_apart name a b h k =
    at (slice_cmp nat_cmp a.key b.key)
    (is_eq-slice_cmp a.key b.key
    ∙ (bytes_eq-Decides a.key b.key).1 ((bytes_eq-Decides a.key name).0 h ∙ sym ((bytes_eq-Decides b.key name).0 k)))
  where
    at : (o : Ordering) → is_eq o ≡ true → is_lt o ≡ false
    at Less e = absurd (true≢false (sym e))
    at Equal e = refl
    at Greater e = refl

same_put : {V : Type 0} (name : List ℕ) (e : Keyed V) (fs : List (Keyed V))
    → filter (is_named name) (before_greater e fs) ≡ filter (is_named name) (e ∷ fs)
same_put name e [] = refl
same_put {V} name e (f ∷ fs) =
    at (below f e) refl (is_named name f) refl (is_named name e) refl (same_put name e fs)
  where
    rest : List (Keyed V)
    rest = filter (is_named name) fs

    at : (b : Bool) → below f e ≡ b → (p : Bool) → is_named name f ≡ p → (q : Bool) → is_named name e ≡ q
        → filter (is_named name) (before_greater e fs) ≡ cond (is_named name e) (e ∷ rest) rest
        → filter (is_named name) (cond b (f ∷ before_greater e fs) (e ∷ f ∷ fs)) ≡ filter (is_named name) (e ∷ f ∷ fs)
    at true b true p true q more = absurd (true≢false (sym b ∙ not_apart name f e p q))
    at true b true p false q more = rw p (rw q (ap (λ xs. f ∷ xs) (more ∙ rw q refl)))
    at true b false p q e more = rw p more
    at false b p h q k more = refl

by_name_same : {V : Type 0} (es : List (Keyed V)) (name : List ℕ) → filter (is_named name) (by_name es) ≡ filter (is_named name) es
by_name_same [] name = refl
by_name_same (e ∷ es) name =
    same_put name e (by_name es) ∙ ap (λ xs. cond (is_named name e) (e ∷ xs) xs) (by_name_same es name)

pub by_name_is : {V : Type 0} (es : List (Keyed V)) → AreByName es (by_name es)
by_name_is es = record { sorted = by_name_sorted es; same = by_name_same es }

-- this holds if there is a list
pub each_by_name : {V E : Type 0} (r : Result (List (Keyed V)) E) (es : List (Keyed V)) → IfOk r (λ list. list ≡ by_name es)
    → IfOk r (AreByName es)
each_by_name (Ok list) es is = subst (λ l. AreByName es l) (sym is) (by_name_is es)
each_by_name (Err e) es is = tt

-- ---- some of the entries

-- none of these is below an entry
abbrev NoneBelow : {V : Type 0} → List (Keyed V) → Keyed V → Type 0
NoneBelow es e = AllByRecursion (λ d. below d e ≡ false) es

none_below : {V : Type 0} (e f : Keyed V) (fs : List (Keyed V)) → Sorted (f ∷ fs) → below f e ≡ false → NoneBelow (f ∷ fs) e
none_below e f [] whole h = (h, tt)
none_below e f (g ∷ gs) whole h =
    (h, none_below e g gs (sorted_rest f (g ∷ gs) whole) (weak.chain g f e (first_of_rest f (g ∷ gs) whole g (omega arith)) h))

module _ {V : Type 0} (q : Keyed V → Bool) where
  put_first : (e : Keyed V) (fs : List (Keyed V)) → NoneBelow fs e → before_greater e (filter q fs) ≡ e ∷ filter q fs
  put_first e [] none = refl
  put_first e (f ∷ fs) none = at (q f) (put_first e fs none.1)
    where
      at : (b : Bool) → before_greater e (filter q fs) ≡ e ∷ filter q fs
          → before_greater e (cond b (f ∷ filter q fs) (filter q fs)) ≡ e ∷ cond b (f ∷ filter q fs) (filter q fs)
      at true rest = rw none.0 refl
      at false rest = rest

  filter_put : (e : Keyed V) (fs : List (Keyed V)) → Sorted fs
      → filter q (before_greater e fs) ≡ cond (q e) (before_greater e (filter q fs)) (filter q fs)
  filter_put e [] whole = refl
  filter_put e (f ∷ fs) whole =
      at (below f e) refl (q f) refl (q e) refl (filter_put e fs (sorted_rest f fs whole))
    where
      at : (b : Bool) → below f e ≡ b → (p : Bool) → q f ≡ p → (r : Bool) → q e ≡ r
          → filter q (before_greater e fs) ≡ cond (q e) (before_greater e (filter q fs)) (filter q fs)
          → filter q (cond b (f ∷ before_greater e fs) (e ∷ f ∷ fs))
          ≡ cond (q e) (before_greater e (filter q (f ∷ fs))) (filter q (f ∷ fs))
      at true h true p true r rest = rw p (rw r (rw h (ap (λ xs. f ∷ xs) (rest ∙ rw r refl))))
      at true h true p false r rest = rw p (rw r (ap (λ xs. f ∷ xs) (rest ∙ rw r refl)))
      at true h false p true r rest = rw p (rw r (rest ∙ rw r refl))
      at true h false p false r rest = rw p (rw r (rest ∙ rw r refl))
      at false h p k true r rest = rw r (sym (put_first e (f ∷ fs) (none_below e f fs whole h)))
      at false h p k false r rest = rw r refl

  -- some of the entries of a list by name are the list by name of some of its entries
  pub filter_by_name : (es : List (Keyed V)) → filter q (by_name es) ≡ by_name (filter q es)
  filter_by_name [] = refl
  filter_by_name (e ∷ es) = filter_put e (by_name es) (by_name_sorted es) ∙ at (q e) (filter_by_name es)
    where
      at : (b : Bool) → filter q (by_name es) ≡ by_name (filter q es)
          → cond b (before_greater e (filter q (by_name es))) (filter q (by_name es)) ≡ by_name (cond b (e ∷ filter q es) (filter q es))
      at true rest = ap (before_greater e) rest
      at false rest = rest

-- ---- after all

apart : (x y z : List ℕ) → is_lt (slice_cmp nat_cmp x y) ≡ false → is_lt (slice_cmp nat_cmp y z) ≡ false
    → is_lt (slice_cmp nat_cmp x z) ≡ false
apart x y z h k = (ranks_by nat_list_cmp_total (λ (n : List ℕ). n)).chain x y z h k

-- the first is not above the name, and the name goes after all
abbrev GoesLast : {V : Type 0} → List ℕ → List (Keyed V) → Type 0
GoesLast {V} name es =
    ((d : Keyed V) → 0 < length es → is_lt (slice_cmp nat_cmp name (get_or es 0 d).key) ≡ false) × (place_for name es ≡ length es)

behind_all : {V : Type 0} (name : List ℕ) (es : List (Keyed V)) → Sorted es
    → ((d : Keyed V) → 0 < length es → is_lt (slice_cmp nat_cmp name (get_or es (length es - 1) d).key) ≡ false) → GoesLast name es
behind_all name [] whole last = ((λ d some. absurd (omega (arith, some))), refl)
behind_all name (e ∷ []) whole last =
    let own = last e (omega arith) in
    ((λ d some. own), ap (λ b. cond b 0 1) own)
behind_all name (e ∷ f ∷ fs) whole last =
    let rest =
    behind_all name (f ∷ fs) (sorted_rest e (f ∷ fs) whole)
    (λ d some.
    let same : suc (length (f ∷ fs) - 1) ≡ length (e ∷ f ∷ fs) - 1 = omega arith in
    ap (λ n. is_lt (slice_cmp nat_cmp name (get_or (e ∷ f ∷ fs) n d).key)) same ∙ last d (omega arith)) in
    let own = apart name f.key e.key (rest.0 f (omega arith)) (first_of_rest e (f ∷ fs) whole f (omega arith)) in
    ((λ d some. own), ap (λ b. cond b 0 (suc (place_for name (f ∷ fs)))) own ∙ ap suc rest.1)

-- a name that is not below the last goes after all
pub goes_last : {V : Type 0} (name : List ℕ) (es : List (Keyed V)) → Sorted es
    → ((d : Keyed V) → 0 < length es → is_lt (slice_cmp nat_cmp name (get_or es (length es - 1) d).key) ≡ false)
    → length es ≡ place_for name es
goes_last name es whole last = sym (behind_all name es whole last).1
