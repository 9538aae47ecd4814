-- Members in the order of their names, and what one more above them does to them.
use Rattle.std.proofs.Common.{◌≡◌, ℕ, ◌+◌, ◌-◌, ◌≤◌, suc, List, [], ◌∷◌, ◌++◌, length, get_or, map, true, Bor}
use Rattle.std.proofs.Common.{Ordering, Less, Greater, String, Global, string_bytes, string_cmp, refl, sym, ap}
use Rattle.std.proofs.Common.{◌∙◌, arith}
use Rattle.std.specs.List.{AllByRecursion}
use Rattle.std.specs.List.Sorted.{IsStrictlySortedBy}
use Rattle.std.specs.Map.{keys_of}
use Rattle.std.specs.Ordering.{nat_cmp, is_lt, ordering_reverse}
use Rattle.std.specs.Cmp.Lexicographic.{slice_cmp}
use Rattle.std.proofs.lemmas.Cmp.{nat_list_cmp_total}
use Rattle.serde_json.specs.Data.{Data, Members, no_members, member, put}
use Rattle.serde_json.specs.View.{view, members_view}
use Rattle.serde_json.specs.declared.value.Value.{Value}
use Rattle.base_containers.specs.Gathered.{Member, members_of, names_of, is_above, AreInOrder}
use Rattle.base_containers.proofs.Order.{Below, lesser}

-- ---- one more

-- the last one decides
pub above_last : (name : List ℕ) (found : List Member) (d : Member) → 1 ≤ length found
    → is_above name found ≡ is_lt (slice_cmp nat_cmp (get_or found (length found - 1) d).0.now name)
above_last name [] d h = absurd (omega (arith, h))
above_last name (m ∷ []) d h = refl
above_last name (m ∷ n ∷ ms) d h =
    let e : length (m ∷ n ∷ ms) - 1 ≡ suc (length (n ∷ ms) - 1) = omega arith in
    above_last name (n ∷ ms) d (omega arith) ∙ ap (λ i. is_lt (slice_cmp nat_cmp (get_or (m ∷ n ∷ ms) i d).0.now name)) (sym e)

-- a name above the last one is above all
pub all_below : (name : List ℕ) (found : List Member) → AreInOrder found → is_above name found ≡ true
    → AllByRecursion (λ n. Below n name) (names_of found)
unfolding IsStrictlySortedBy
all_below name [] s h = tt
all_below name (m ∷ []) s h = (lesser (slice_cmp nat_cmp m.0.now name) h, tt)
all_below name (m ∷ n ∷ ms) s h =
    let rest = all_below name (n ∷ ms) s.1 h in
    (nat_list_cmp_total.trans m.0.now n.0.now name s.0.0 rest.0, rest)

-- it goes last
pub put_last : (name : List ℕ) (k : Bor (List ℕ)) (d : Data) (found : List Member) → k.now ≡ name
    → AllByRecursion (λ n. Below n name) (names_of found) → put name d (members_of found) ≡ members_of (found ++ (k, d) ∷ [])
put_last name k d [] is h = ap (λ n. member n d no_members) (sym is)
put_last name k d (m ∷ ms) is h =
    let above : slice_cmp nat_cmp name m.0.now ≡ Greater = nat_list_cmp_total.antisymm name m.0.now ∙ ap ordering_reverse h.0 in
    rw above (ap (member m.0.now m.1) (put_last name k d ms is h.1))

below_all : (a : List ℕ) (ms : List Member) (m : Member) → AllByRecursion (Below a) (names_of ms) → Below a m.0.now
    → AllByRecursion (Below a) (names_of (ms ++ m ∷ []))
below_all a [] m h b = (b, tt)
below_all a (x ∷ ms) m h b = (h.0, below_all a ms m h.1 b)

pub in_order_push : (found : List Member) (m : Member) → AreInOrder found → AllByRecursion (λ n. Below n m.0.now) (names_of found)
    → AreInOrder (found ++ m ∷ [])
unfolding IsStrictlySortedBy
in_order_push [] m s h = (tt, tt)
in_order_push (x ∷ found) m s h = (below_all x.0.now found m s.0 h.0, in_order_push found m s.1 h.1)

pub none_in_order : AreInOrder []
unfolding IsStrictlySortedBy
none_in_order = tt

-- ---- entries of maps

-- how names that are lent compare
abbrev pub by_text : Bor (List ℕ) → Bor (List ℕ) → Ordering
by_text a b = slice_cmp nat_cmp a.now b.now

lent_below : (k : Bor (List ℕ)) (ms : List Member) → AllByRecursion (λ y. by_text k y ≡ Less) (keys_of ms)
    → AllByRecursion (Below k.now) (names_of ms)
lent_below k [] h = tt
lent_below k (m ∷ ms) h = (h.0, lent_below k ms h.1)

pub lent_in_order : (ms : List Member) → IsStrictlySortedBy by_text (keys_of ms) → AreInOrder ms
unfolding IsStrictlySortedBy
lent_in_order [] s = tt
lent_in_order (m ∷ ms) s = (lent_below m.0 ms s.0, lent_in_order ms s.1)

abbrev pub Held : Type 0
Held = String Global × Value

-- the names of members that are held
abbrev pub held_names : List Held → List (List ℕ)
held_names es = map (λ e. string_bytes e.0) es

held_below : (k : String Global) (es : List Held) → AllByRecursion (λ y. string_cmp k y ≡ Less) (keys_of es)
    → AllByRecursion (Below (string_bytes k)) (held_names es)
held_below k [] h = tt
held_below k (e ∷ es) h = (h.0, held_below k es h.1)

pub held_in_order : (es : List Held) → IsStrictlySortedBy string_cmp (keys_of es) → IsStrictlySortedBy (slice_cmp nat_cmp) (held_names es)
unfolding IsStrictlySortedBy
held_in_order [] s = tt
held_in_order (e ∷ es) s = (held_below e.0 es s.0, held_in_order es s.1)

-- members before those of a tree
abbrev pub before_held : List Member → List Held → Members
before_held [] es = members_view es
before_held (m ∷ ms) es = member m.0.now m.1 (before_held ms es)

pub before_none : (ms : List Member) → before_held ms [] ≡ members_of ms
before_none [] = refl
before_none (m ∷ ms) = ap (member m.0.now m.1) (before_none ms)

pub before_push : (ms : List Member) (k : Bor (List ℕ)) (e : Held) (es : List Held) → k.now ≡ string_bytes e.0
    → before_held ms (e ∷ es) ≡ before_held (ms ++ (k, view e.1) ∷ []) es
before_push [] k e es is = ap (λ n. member n (view e.1) (members_view es)) (sym is)
before_push (m ∷ ms) k e es is = ap (member m.0.now m.1) (before_push ms k e es is)

pub names_push : (ms : List Member) (k : Bor (List ℕ)) (e : Held) (es : List Held) → k.now ≡ string_bytes e.0
    → names_of ms ++ held_names (e ∷ es) ≡ names_of (ms ++ (k, view e.1) ∷ []) ++ held_names es
names_push [] k e es is = ap (λ n. n ∷ held_names es) (sym is)
names_push (m ∷ ms) k e es is = ap (λ ns. m.0.now ∷ ns) (names_push ms k e es is)

pub names_none : (ms : List Member) → names_of ms ++ held_names [] ≡ names_of ms
names_none [] = refl
names_none (m ∷ ms) = ap (λ ns. m.0.now ∷ ns) (names_none ms)
