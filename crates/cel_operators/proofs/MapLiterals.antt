-- A map literal gives an error or a map of its type, for at most its greatest charge.
use Rattle.std.proofs.Common.{◌≡◌, ℕ, zero, suc, ◌+◌, ◌*◌, ◌^◌, ◌≤◌, cond, Bool, true, false, ◌&&◌, List, [], ◌∷◌, length, map}
use Rattle.std.proofs.Common.{Option, Some, None, refl, sym, ap, subst, arith, true≢false}
use Rattle.std.proofs.lemmas.Bool.{and_parts, and_from, le-leb}
use Rattle.std.proofs.lemmas.Option.{none-some, same_Some}
use Rattle.std.specs.Prelude.{Result, Ok, Err, nat_lt, nat_le, max, is_some}
use Rattle.std.specs.List.{list_all, insert}
use Rattle.base_containers.specs.declared.text.Keyed.{Keyed}
use Rattle.base_containers.specs.Keys.{value_under, with_entry, place_for}
use Rattle.cel_value.specs.declared.expr.Entry.{Entry}
use Rattle.cel_value.specs.declared.value.Value.{Value}
use Rattle.cel_value.specs.declared.cel_type.CelType.{CelType}
use Rattle.cel_value.specs.declared.cel_type.CelType as type
use Rattle.cel_value.specs.declared.cel_error.CelError.{CelError}
use Rattle.cel_value.specs.CelType.{fits}
use Rattle.cel_value.specs.Value.{code_points, tenths_of}
use Rattle.cel_operators.specs.declared.type_rule.TypeRule.{TypeRule}
use Rattle.cel_operators.specs.Outcomes.{Outcome, outcome_fits}
use Rattle.cel_operators.specs.Wants.{Store, in_store, limit_of, taken}
use Rattle.cel_operators.specs.declared.operands.Want.TheVariants.{Characters}
use Rattle.cel_operators.specs.Lists.{in_front, each_there, join_all}
use Rattle.cel_operators.specs.Maps.{keys_by_turns, values_by_turns, Entries, entry_in_front, entries_in, placed_among}
use Rattle.cel_value.specs.Turns.{by_turns}
use Rattle.cel_operators.specs.Maps.{map_or_duplicate, entries_charge, map_of, map_where_texts, map_made, map_where, greater_limit}
use Rattle.cel_operators.specs.Maps.{key_limit, map_type, entries_type, key_greatest, keys_greatest, entries_greatest}
use Rattle.cel_operators.proofs.Opened.{map_fits}
use Rattle.cel_operators.proofs.Taking.{Taken, taken_fits}
use Rattle.cel_operators.proofs.Rows.{MadeRight}
use Rattle.cel_operators.proofs.Literals.{EachFits, Below, joined_behind, narrower_fits, all_there}

-- things by turns: each first has its second
abbrev pub Paired : {A : Type 0} → List A → Type 0
Paired [] = Unit {0}
Paired (k ∷ []) = ⊥
Paired (k ∷ v ∷ xs) = Paired xs

pub paired_turns : {A : Type 0} (es : List (Entry A)) → Paired (by_turns es)
paired_turns [] = tt
paired_turns (e ∷ es) = paired_turns es

pub paired_mapped : {A B : Type 0} (f : A → B) (xs : List A) → Paired xs → Paired (map f xs)
paired_mapped f [] h = tt
paired_mapped f (k ∷ []) h = absurd h
paired_mapped f (k ∷ v ∷ xs) h = paired_mapped f xs h

-- twice as many things as there are firsts
pub paired_long : {A : Type 0} (n : ℕ) (xs : List A) → length xs ≡ 2 * n → Paired xs × (length (keys_by_turns xs) ≡ n)
paired_long zero [] h = (tt, refl)
paired_long zero (x ∷ xs) h = absurd (omega (arith, h))
paired_long (suc n) [] h = absurd (omega (arith, h))
paired_long (suc n) (k ∷ []) h = absurd (omega (arith, h))
paired_long (suc n) (k ∷ v ∷ xs) h = let r = paired_long n xs (omega (arith, h)) in (r.0, ap suc r.1)

pub turns_long : {A : Type 0} (es : List (Entry A)) → length (by_turns es) ≡ 2 * length es
turns_long [] = refl
turns_long (e ∷ es) = omega (arith, turns_long es)

-- keys and values by turns, taken apart again
pub keys_of_turns : {A : Type 0} (es : List (Entry A)) → keys_by_turns (by_turns es) ≡ map (λ e. e.key) es
keys_of_turns [] = refl
keys_of_turns (e ∷ es) = ap (λ xs. e.key ∷ xs) (keys_of_turns es)

pub values_of_turns : {A : Type 0} (es : List (Entry A)) → values_by_turns (by_turns es) ≡ map (λ e. e.value) es
values_of_turns [] = refl
values_of_turns (e ∷ es) = ap (λ xs. e.value ∷ xs) (values_of_turns es)

-- each type is one of texts of at most so many code points
abbrev pub AreKeys : ℕ → List CelType → Type 0
AreKeys most [] = Unit {0}
AreKeys most (t ∷ ts) = ((n : ℕ) × (limit_of Characters t ≡ Some n) × (n ≤ most)) × AreKeys most ts

pub key_limits : (ts : List CelType) (n most : ℕ) → key_limit ts ≡ Some n → n ≤ most → AreKeys most ts
key_limits [] n most e h = tt
key_limits (t ∷ ts) n most e h = by (limit_of Characters t) (key_limit ts) refl refl e (λ b r l. key_limits ts b most r l)
  where
    by : (o p : Option ℕ) → limit_of Characters t ≡ o → key_limit ts ≡ p → greater_limit o p ≡ Some n
        → ((b : ℕ) → key_limit ts ≡ Some b → b ≤ most → AreKeys most ts) → AreKeys most (t ∷ ts)
    by None p q r k more = absurd (none-some _ k)
    by (Some a) None q r k more = absurd (none-some _ k)
    by (Some a) (Some b) q r k more =
        let greater : max a b ≡ n = same_Some _ _ k in
        ((a, q, omega (arith, greater, h)), more b r (omega (arith, greater, h)))

-- so many entries of a store, which charge at most so much, or an error
abbrev AreIn : Store → ℕ → ℕ → Entries → Type 0
AreIn store n c (Err e) = Unit {0}
AreIn store n c (Ok es) = (length es ≡ n) × (list_all (in_store store) es ≡ true) × (entries_charge es ≤ c)

abbrev ThereIn : Store → ℕ → ℕ → Option Entries → Type 0
ThereIn store n c None = ⊥
ThereIn store n c (Some r) = AreIn store n c r

entry_there : (store : Store) (l n c most : ℕ) (k : Option (Result (List ℕ) CelError)) (v : Outcome) (r : Option Entries)
    → Taken Characters l k → l ≤ store.key_max → outcome_fits store.item (Some v) ≡ true → ThereIn store n c r
    → 1 + tenths_of l + c ≤ most → ThereIn store (suc n) most (entry_in_front k v r)
entry_there store l n c most None v r a h f b m = absurd a
entry_there store l n c most (Some k) v None a h f b m = absurd b
entry_there store l n c most (Some (Err e)) v (Some r) a h f b m = tt
entry_there store l n c most (Some (Ok k)) (Err e) (Some r) a h f b m = tt
entry_there store l n c most (Some (Ok k)) (Ok v) (Some (Err e)) a h f b m = tt
entry_there store l n c most (Some (Ok k)) (Ok v) (Some (Ok es)) a h f b m =
    let short : nat_le (code_points k) store.key_max ≡ true = le-leb (code_points k) store.key_max (omega (arith, a, h)) in (
      ap suc b.0,
      and_from (nat_le (code_points k) store.key_max && fits v store.item) (list_all (in_store store) es)
          (and_from (nat_le (code_points k) store.key_max) (fits v store.item) short f) b.1,
      omega (arith, a, b.2, m),
    )

-- entries of outcomes that are there
abbrev MadeIn : Store → ℕ → ℕ → Option (List Outcome) → Type 0
MadeIn store n c None = ⊥
MadeIn store n c (Some xs) = ThereIn store n c (entries_in xs)

pair_made : (store : Store) (t : CelType) (l n c most : ℕ) (k v : Option Outcome) (os : Option (List Outcome))
    → limit_of Characters t ≡ Some l → l ≤ store.key_max → outcome_fits t k ≡ true → outcome_fits store.item v ≡ true
    → MadeIn store n c os → 1 + tenths_of l + c ≤ most → MadeIn store (suc n) most (in_front k (in_front v os))
pair_made store t l n c most None v os q h f g b m = absurd (true≢false (sym f))
pair_made store t l n c most (Some k) None os q h f g b m = absurd (true≢false (sym g))
pair_made store t l n c most (Some k) (Some v) None q h f g b m = absurd b
pair_made store t l n c most (Some k) (Some v) (Some xs) q h f g b m =
    entry_there store l n c most (taken Characters (Some k)) v (entries_in xs) (taken_fits Characters t (Some k) l q f) h g b m

each_made : (store : Store) (ts : List CelType) (os : List (Option Outcome)) → Paired ts → AreKeys store.key_max (keys_by_turns ts)
    → Below (values_by_turns ts) store.item → EachFits ts os
    → MadeIn store (length (keys_by_turns ts)) (keys_greatest (keys_by_turns ts)) (each_there os)
each_made store [] [] p a b h = (refl, refl, omega arith)
each_made store [] (o ∷ os) p a b h = absurd h
each_made store (t ∷ []) os p a b h = absurd p
each_made store (t ∷ u ∷ ts) [] p a b h = absurd h
each_made store (t ∷ u ∷ ts) (o ∷ []) p a b h = absurd h.1
each_made store (t ∷ u ∷ ts) (k ∷ v ∷ os) p a b h =
    let key = a.0 in
    let charge : key_greatest (limit_of Characters t) ≡ 1 + tenths_of key.0 = ap key_greatest key.1 in
    pair_made store t key.0 (length (keys_by_turns ts)) (keys_greatest (keys_by_turns ts))
    (key_greatest (limit_of Characters t) + keys_greatest (keys_by_turns ts)) k v (each_there os) key.1 key.2 h.0
    (narrower_fits u store.item v b.0 h.1.0) (each_made store ts os p a.1 b.1 h.1.1) (omega (arith, charge))

-- one more entry
inserted : (store : Store) (x : Keyed Value) (n : ℕ) (es : List (Keyed Value)) → in_store store x ≡ true
    → list_all (in_store store) es ≡ true → (length (insert es n x) ≡ suc (length es)) × (list_all (in_store store) (insert es n x) ≡ true)
inserted store x zero es p h = (refl, and_from (in_store store x) (list_all (in_store store) es) p h)
inserted store x (suc n) [] p h = (refl, and_from (in_store store x) true p refl)
inserted store x (suc n) (e ∷ es) p h =
    let q = and_parts (in_store store e) (list_all (in_store store) es) h in
    let r = inserted store x n es p q.1 in
    (ap suc r.0, and_from (in_store store e) (list_all (in_store store) (insert es n x)) q.0 r.1)

-- entries that are placed are a map, unless a key comes twice
placed : (store : Store) (so_far es : List (Keyed Value)) → length so_far + length es ≤ store.max
    → list_all (in_store store) so_far ≡ true → list_all (in_store store) es ≡ true
    → outcome_fits (type.Map store.max store.key_max store.item) (Some (map_or_duplicate (placed_among so_far es))) ≡ true
placed store so_far [] h p q = map_fits so_far store (omega (arith, h)) p
placed store so_far (e ∷ es) h p q =
    let r = and_parts (in_store store e) (list_all (in_store store) es) q in
    let s = inserted store e (place_for e.key so_far) so_far r.0 p in
    once (is_some (value_under e.key so_far)) (placed_among (with_entry e.key e.value so_far) es)
    (placed store (with_entry e.key e.value so_far) es (omega (arith, h, s.0)) s.1 r.1)
  where
    once : (b : Bool) (o : Option (List (Keyed Value)))
        → outcome_fits (type.Map store.max store.key_max store.item) (Some (map_or_duplicate o)) ≡ true
        → outcome_fits (type.Map store.max store.key_max store.item) (Some (map_or_duplicate (cond b None o))) ≡ true
    once true o h = refl
    once false o h = h

least_charge : (ts : List CelType) → 1 ≤ keys_greatest ts
least_charge [] = omega arith
least_charge (t ∷ ts) = omega (arith, least_charge ts)

made_of : (store : Store) (c : ℕ) (r : Entries) → 1 ≤ c → AreIn store store.max c r
    → MadeRight (type.Map store.max store.key_max store.item) (Some (map_of r)) c
made_of store c (Err e) m h = (refl, m)
made_of store c (Ok es) m h = (placed store [] es (omega (arith, h.0)) refl h.1, h.2)

made_there : (store : Store) (c : ℕ) (r : Option Entries) → 1 ≤ c → ThereIn store store.max c r
    → MadeRight (type.Map store.max store.key_max store.item) (map_where_texts r) c
made_there store c None m h = absurd h
made_there store c (Some r) m h = made_of store c r m h

made_where : (store : Store) (c : ℕ) (os : Option (List Outcome)) → 1 ≤ c → MadeIn store store.max c os
    → MadeRight (type.Map store.max store.key_max store.item) (map_where os) c
made_where store c None m h = absurd h
made_where store c (Some xs) m h = made_there store c (entries_in xs) m h

-- a map literal whose keys and values fit their types gives what its type takes, for at most its greatest charge
pub literal_map_made : (ts : List CelType) (os : List (Option Outcome)) (s : CelType) → Paired ts → entries_type ts ≡ Ok s
    → EachFits ts os → MadeRight s (map_where (each_there os)) (entries_greatest ts)
literal_map_made ts os s p e h = by (key_limit (keys_by_turns ts)) (join_all (values_by_turns ts)) refl refl e
  where
    within : (n : ℕ) (u : CelType) (b : Bool) → key_limit (keys_by_turns ts) ≡ Some n → join_all (values_by_turns ts) ≡ Some u
        → cond b (Ok (type.Map (length (keys_by_turns ts)) n u)) (Err TypeRule.TooLarge) ≡ Ok s
        → MadeRight s (map_where (each_there os)) (entries_greatest ts)
    within n u false q r k = cc
    within n u true q r k =
        let same : type.Map (length (keys_by_turns ts)) n u ≡ s = cc in
        let store : Store = record { max = length (keys_by_turns ts); key_max = n; item = u } in
        let below = joined_behind (values_by_turns ts) type.Never u r in
        subst (λ t. MadeRight t (map_where (each_there os)) (entries_greatest ts)) same
        (made_where store (entries_greatest ts) (each_there os) (least_charge (keys_by_turns ts))
        (each_made store ts os p (key_limits (keys_by_turns ts) n n q (omega arith)) below.1 h))

    by : (o : Option ℕ) (j : Option CelType) → key_limit (keys_by_turns ts) ≡ o → join_all (values_by_turns ts) ≡ j
        → map_type (length (keys_by_turns ts)) o j ≡ Ok s → MadeRight s (map_where (each_there os)) (entries_greatest ts)
    by None j q r k = cc
    by (Some n) None q r k = cc
    by (Some n) (Some u) q r k = within n u (nat_lt (length (keys_by_turns ts)) (2 ^ 32)) q r k

-- the same of outcomes that are there
pub stacked_map_made : (ts : List CelType) (xs : List Outcome) (s : CelType) → Paired ts → entries_type ts ≡ Ok s
    → EachFits ts (map Some xs) → MadeRight s (map_made xs) (entries_greatest ts)
stacked_map_made ts xs s p e h =
    subst (λ o. MadeRight s (map_where o) (entries_greatest ts)) (all_there xs) (literal_map_made ts (map Some xs) s p e h)
