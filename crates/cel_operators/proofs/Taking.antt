-- An operand of a type, taken as one of the kind that the type is of, is within what the type says.
use Rattle.std.proofs.Common.{◌≡◌, ℕ, suc, ◌≤◌, cond, Bool, true, false, ◌&&◌, ◌||◌, List, [], ◌∷◌, length, Option, Some, None}
use Rattle.std.proofs.Common.{refl, ap, sym, ◌∙◌, subst, arith, rules, true≢false}
use Rattle.std.proofs.lemmas.Bool.{and_parts, and_from, leb-true}
use Rattle.std.proofs.lemmas.Option.{none-some, same_Some}
use Rattle.std.specs.Prelude.{Result, Ok, Err, ℤ, nat_le}
use Rattle.std.specs.List.{list_all}
use Rattle.std.specs.Option.{option_map}
use Rattle.cel_value.specs.declared.value.Value.{Value, out-Value, roll-Value, the_lemmas as value_lemmas}
use Rattle.cel_value.specs.declared.value.Value.TheOpen.{Value-F}
use Rattle.base_containers.specs.declared.text.Keyed.{Keyed}
use Rattle.cel_value.specs.declared.value.Value as value
use Rattle.cel_value.specs.declared.cel_type.CelType as type
use Rattle.cel_value.specs.declared.cel_type.CelType.{CelType, out-CelType}
use Rattle.cel_value.specs.declared.cel_type.CelType.TheOpen.{CelType-F}
use Rattle.cel_value.specs.declared.cel_error.CelError.{CelError}
use Rattle.cel_value.specs.declared.cel_error.CelError.TheVariants.{NullOperand}
use Rattle.cel_value.specs.CelType.{fits}
use Rattle.cel_value.specs.Fits.{fits_at, is_null}
use Rattle.cel_value.specs.Value.{code_points}
use Rattle.cel_operators.specs.Joined.{text_at, text_of, texts_of}
use Rattle.cel_operators.specs.Outcomes.{Outcome, outcome_fits}
use Rattle.cel_operators.specs.Wants.{Want, Any, Truth, Whole, Natural, Moment, Lapse, Ordered, Characters, Items, Entries, Indexed}
use Rattle.cel_operators.specs.Wants.{Sought, Wholes, Naturals}
use Rattle.cel_operators.specs.Wants.{Texts, Members, Ranged, Of, keys_of, kind_at, taken_value, taken, Limit, Shelf, limit_at, limit_of}
use Rattle.cel_operators.specs.Wants.{without_null_at, without_null, Within}
use Rattle.cel_operators.specs.Orders.{Order, OfBools, OfInts, OfUints, OfTexts, OfTimestamps, OfDurations, order_at}
use Rattle.cel_operators.specs.Orders.{Orders, Only, orders_at, orders_of}
use Rattle.cel_operators.specs.Wants.{each_of, whole_at, natural_at, wholes_of, naturals_of, wholes_limit, naturals_limit, texts_limit}
use Rattle.cel_operators.proofs.Opened.{opened, fits-out, fits-levels, text_fits}

-- an operand of the right type, taken as one of the kind, is an error or within the limit
abbrev pub Taken : (w : Want) → Limit w → Option (Result (Of w) CelError) → Type 0
Taken w l None = ⊥
Taken w l (Some (Err e)) = Unit {0}
Taken w l (Some (Ok a)) = Within w l a

-- a value is in the one order of its type
abbrev pub IsInOrder : Value-F Value → CelType-F CelType → Type 0
IsInOrder p o = (order : Order) × (order_at p ≡ Some order) × (orders_at o ≡ Some (Only order))

-- a value of a type whose values have an order is in that order
ordered_level : (o : CelType-F CelType) (p : Value-F Value) (orders : Orders) → fits_at (opened o) p ≡ true → orders_at o ≡ Some orders
    → IsInOrder p o
ordered_level CelType-F.Bool (Value-F.Bool b) orders h k = (OfBools, refl, refl)
ordered_level CelType-F.Int (Value-F.Int n) orders h k = (OfInts, refl, refl)
ordered_level CelType-F.Uint (Value-F.Uint n) orders h k = (OfUints, refl, refl)
ordered_level (CelType-F.Text max) (Value-F.Text bytes) orders h k = (OfTexts, refl, refl)
ordered_level CelType-F.Timestamp (Value-F.Timestamp n) orders h k = (OfTimestamps, refl, refl)
ordered_level CelType-F.Duration (Value-F.Duration n) orders h k = (OfDurations, refl, refl)
ordered_level CelType-F.Never p orders h k = absurd (true≢false (sym h))
ordered_level CelType-F.Bool _ orders h k = absurd (true≢false (sym h))
ordered_level CelType-F.Int _ orders h k = absurd (true≢false (sym h))
ordered_level CelType-F.Uint _ orders h k = absurd (true≢false (sym h))
ordered_level (CelType-F.Text max) _ orders h k = absurd (true≢false (sym h))
ordered_level CelType-F.Timestamp _ orders h k = absurd (true≢false (sym h))
ordered_level CelType-F.Duration _ orders h k = absurd (true≢false (sym h))
ordered_level _ p orders h k = absurd (none-some _ k)

-- what something is put in place of is there
option_map-some : {A B : Type 0} (x : Option A) (y z : B) → option_map (λ a. y) x ≡ Some z → (a : A) × (x ≡ Some a) × (y ≡ z)
option_map-some None y z e = absurd (none-some _ e)
option_map-some (Some a) y z e = (a, refl, same_Some _ _ e)

ordered_taken : (v : Value) (t : CelType) (l : Limit Ordered) → limit_at Ordered t (out-CelType t) ≡ Some l → fits v t ≡ true
    → Taken Ordered l (kind_at Ordered v (out-Value v))
ordered_taken v t l e h =
    let (orders, known, same) = option_map-some (orders_of t) t l e in
    let (order, is, only) = ordered_level (out-CelType t) (out-Value v) orders (sym (fits-out v t) ∙ h) known in
    subst (λ o. Taken Ordered l (option_map (λ order. Ok v) o)) (sym is)
    (subst (λ s. fits v s ≡ true) same h, order, is, subst (λ s. orders_of s ≡ Some (Only order)) same only)

-- each value of a list as what it is, if what fits is something that passes a test
each_there : {A : Type 0} (f : Value → Option A) (g : Value → Bool) (q : A → Bool)
    → ((v : Value) → g v ≡ true → (a : A) × (f v ≡ Some a) × (q a ≡ true)) → (vs : List Value) → list_all g vs ≡ true
    → (xs : List A) × (each_of f vs ≡ Some xs) × (length xs ≡ length vs) × (list_all q xs ≡ true)
each_there f g q h [] k = ([], refl, refl, refl)
each_there f g q h (v ∷ vs) k =
    let p = and_parts (g v) (list_all g vs) k in
    let a = h v p.0 in
    let rest = each_there f g q h vs p.1 in
    (a.0 ∷ rest.0, rw (a.1, rest.1) refl, ap suc rest.2, and_from (q a.0) (list_all q rest.0) a.2 rest.3)

texts-each : (vs : List Value) → each_of text_of vs ≡ texts_of vs
texts-each [] = refl
texts-each (v ∷ vs) = rw (texts-each vs) refl

-- an item of a list of integers, of unsigned ones, or of texts
whole_item : (o : CelType-F CelType) (p : Value-F Value) (max l : ℕ) → wholes_limit max o ≡ Some l → fits_at (opened o) p ≡ true
    → (n : ℤ) × (whole_at p ≡ Some n) × (true ≡ true)
whole_item CelType-F.Never p max l e h = absurd (true≢false (sym h))
whole_item CelType-F.Int (Value-F.Int n) max l e h = (n, refl, refl)
whole_item CelType-F.Int _ max l e h = absurd (true≢false (sym h))
whole_item _ p max l e h = absurd (none-some _ e)

natural_item : (o : CelType-F CelType) (p : Value-F Value) (max l : ℕ) → naturals_limit max o ≡ Some l → fits_at (opened o) p ≡ true
    → (n : ℕ) × (natural_at p ≡ Some n) × (true ≡ true)
natural_item CelType-F.Never p max l e h = absurd (true≢false (sym h))
natural_item CelType-F.Uint (Value-F.Uint n) max l e h = (n, refl, refl)
natural_item CelType-F.Uint _ max l e h = absurd (true≢false (sym h))
natural_item _ p max l e h = absurd (none-some _ e)

text_item : (o : CelType-F CelType) (p : Value-F Value) (max : ℕ) (l : Shelf) → texts_limit max o ≡ Some l → fits_at (opened o) p ≡ true
    → (t : List ℕ) × (text_at p ≡ Some t) × (nat_le (code_points t) l.text_max ≡ true)
text_item CelType-F.Never p max l e h = absurd (true≢false (sym h))
text_item (CelType-F.Text n) (Value-F.Text bytes) max l e h =
    (bytes, refl, subst (λ s. nat_le (code_points bytes) s.text_max ≡ true) (same_Some _ _ e) h)
text_item (CelType-F.Text n) _ max l e h = absurd (true≢false (sym h))
text_item _ p max l e h = absurd (none-some _ e)

-- such a list has as many items as its type allows
wholes_most : (o : CelType-F CelType) (max l : ℕ) → wholes_limit max o ≡ Some l → max ≡ l
wholes_most CelType-F.Never max l e = same_Some _ _ e
wholes_most CelType-F.Int max l e = same_Some _ _ e
wholes_most _ max l e = absurd (none-some _ e)

naturals_most : (o : CelType-F CelType) (max l : ℕ) → naturals_limit max o ≡ Some l → max ≡ l
naturals_most CelType-F.Never max l e = same_Some _ _ e
naturals_most CelType-F.Uint max l e = same_Some _ _ e
naturals_most _ max l e = absurd (none-some _ e)

texts_most : (o : CelType-F CelType) (max : ℕ) (l : Shelf) → texts_limit max o ≡ Some l → max ≡ l.max
texts_most CelType-F.Never max l e = ap (λ s. s.max) (same_Some _ _ e)
texts_most (CelType-F.Text n) max l e = ap (λ s. s.max) (same_Some _ _ e)
texts_most _ max l e = absurd (none-some _ e)

wholes_there : (vs : List Value) (max : ℕ) (item : CelType) (l : ℕ) → wholes_limit max (out-CelType item) ≡ Some l → length vs ≤ max
    → list_all (λ v. fits v item) vs ≡ true → Taken Wholes l (option_map Ok (wholes_of vs))
wholes_there vs max item l e h k =
    let there =
    each_there (λ v. whole_at (out-Value v)) (λ v. fits v item) (λ n. true)
    (λ v f. whole_item (out-CelType item) (out-Value v) max l e (sym (fits-out v item) ∙ f)) vs k in
    subst (λ ns. Taken Wholes l (option_map Ok ns)) (sym there.1) (omega (arith, h, there.2, wholes_most (out-CelType item) max l e))

naturals_there : (vs : List Value) (max : ℕ) (item : CelType) (l : ℕ) → naturals_limit max (out-CelType item) ≡ Some l → length vs ≤ max
    → list_all (λ v. fits v item) vs ≡ true → Taken Naturals l (option_map Ok (naturals_of vs))
naturals_there vs max item l e h k =
    let there =
    each_there (λ v. natural_at (out-Value v)) (λ v. fits v item) (λ n. true)
    (λ v f. natural_item (out-CelType item) (out-Value v) max l e (sym (fits-out v item) ∙ f)) vs k in
    subst (λ ns. Taken Naturals l (option_map Ok ns)) (sym there.1) (omega (arith, h, there.2, naturals_most (out-CelType item) max l e))

texts_there : (vs : List Value) (max : ℕ) (item : CelType) (l : Shelf) → texts_limit max (out-CelType item) ≡ Some l → length vs ≤ max
    → list_all (λ v. fits v item) vs ≡ true → Taken Texts l (option_map Ok (texts_of vs))
texts_there vs max item l e h k =
    let there =
    each_there text_of (λ v. fits v item) (λ t. nat_le (code_points t) l.text_max)
    (λ v f. text_item (out-CelType item) (out-Value v) max l e (sym (fits-out v item) ∙ f)) vs k in
    let texts : texts_of vs ≡ Some there.0 = sym (texts-each vs) ∙ there.1 in
    subst (λ ts. Taken Texts l (option_map Ok ts)) (sym texts)
    (omega (arith, h, there.2, texts_most (out-CelType item) max l e), there.3)

-- a value of a type, taken as one of the kind that the type's level is of
abbrev LevelTaken : Want → Type 0
LevelTaken w =
    (v : Value) (o : CelType-F CelType) (p : Value-F Value) (t : CelType) (l : Limit w) → limit_at w t o ≡ Some l
    → fits_at (opened o) p ≡ true → Taken w l (kind_at w v p)

truth_taken : LevelTaken Truth
truth_taken v CelType-F.Never p t l e h = absurd (true≢false (sym h))
truth_taken v CelType-F.Bool (Value-F.Bool b) t l e h = tt
truth_taken v CelType-F.Bool _ t l e h = absurd (true≢false (sym h))
truth_taken v _ p t l e h = absurd (none-some _ e)

whole_taken : LevelTaken Whole
whole_taken v CelType-F.Never p t l e h = absurd (true≢false (sym h))
whole_taken v CelType-F.Int (Value-F.Int n) t l e h = tt
whole_taken v CelType-F.Int _ t l e h = absurd (true≢false (sym h))
whole_taken v _ p t l e h = absurd (none-some _ e)

natural_taken : LevelTaken Natural
natural_taken v CelType-F.Never p t l e h = absurd (true≢false (sym h))
natural_taken v CelType-F.Uint (Value-F.Uint n) t l e h = tt
natural_taken v CelType-F.Uint _ t l e h = absurd (true≢false (sym h))
natural_taken v _ p t l e h = absurd (none-some _ e)

moment_taken : LevelTaken Moment
moment_taken v CelType-F.Never p t l e h = absurd (true≢false (sym h))
moment_taken v CelType-F.Timestamp (Value-F.Timestamp n) t l e h = tt
moment_taken v CelType-F.Timestamp _ t l e h = absurd (true≢false (sym h))
moment_taken v _ p t l e h = absurd (none-some _ e)

lapse_taken : LevelTaken Lapse
lapse_taken v CelType-F.Never p t l e h = absurd (true≢false (sym h))
lapse_taken v CelType-F.Duration (Value-F.Duration n) t l e h = tt
lapse_taken v CelType-F.Duration _ t l e h = absurd (true≢false (sym h))
lapse_taken v _ p t l e h = absurd (none-some _ e)

characters_taken : LevelTaken Characters
characters_taken v CelType-F.Never p t l e h = absurd (true≢false (sym h))
characters_taken v (CelType-F.Text max) (Value-F.Text bytes) t l e h =
    subst (λ n. code_points bytes ≤ n) (same_Some _ _ e) (leb-true (code_points bytes) max h)
characters_taken v (CelType-F.Text max) _ t l e h = absurd (true≢false (sym h))
characters_taken v _ p t l e h = absurd (none-some _ e)

items_taken : LevelTaken Items
items_taken v CelType-F.Never p t l e h = absurd (true≢false (sym h))
items_taken v (CelType-F.List max plain item) (Value-F.List vs) t l e h =
    let p = and_parts (nat_le (length vs) max) (list_all (λ v. fits v item) vs) h in
    subst (λ room. Within Items room vs) (same_Some _ _ e) (leb-true (length vs) max p.0, p.1)
items_taken v (CelType-F.List max plain item) _ t l e h = absurd (true≢false (sym h))
items_taken v _ p t l e h = absurd (none-some _ e)

entries_taken : LevelTaken Entries
entries_taken v CelType-F.Never p t l e h = absurd (true≢false (sym h))
entries_taken v (CelType-F.Map max key_max item) (Value-F.Map es) t l e h =
    let p = and_parts (nat_le (length es) max) (list_all (λ e. nat_le (code_points e.key) key_max && fits e.value item) es) h in
    subst (λ store. Within Entries store es) (same_Some _ _ e) (leb-true (length es) max p.0, p.1)
entries_taken v (CelType-F.Map max key_max item) _ t l e h = absurd (true≢false (sym h))
entries_taken v _ p t l e h = absurd (none-some _ e)

indexed_taken : LevelTaken Indexed
indexed_taken v (CelType-F.List max plain item) (Value-F.List vs) t l e h =
    let p = and_parts (nat_le (length vs) max) (list_all (λ v. fits v item) vs) h in
    subst (λ room. Within Indexed room vs) (same_Some _ _ e) (leb-true (length vs) max p.0, p.1)
indexed_taken v (CelType-F.List max plain item) _ t l e h = absurd (true≢false (sym h))
indexed_taken v _ p t l e h = absurd (none-some _ e)

sought_taken : LevelTaken Sought
sought_taken v (CelType-F.Map max key_max item) (Value-F.Map es) t l e h =
    let p = and_parts (nat_le (length es) max) (list_all (λ e. nat_le (code_points e.key) key_max && fits e.value item) es) h in
    subst (λ store. Within Sought store es) (same_Some _ _ e) (leb-true (length es) max p.0, p.1)
sought_taken v (CelType-F.Map max key_max item) _ t l e h = absurd (true≢false (sym h))
sought_taken v _ p t l e h = absurd (none-some _ e)

wholes_taken : LevelTaken Wholes
wholes_taken v CelType-F.Never p t l e h = absurd (true≢false (sym h))
wholes_taken v (CelType-F.List max plain item) (Value-F.List vs) t l e h =
    let p = and_parts (nat_le (length vs) max) (list_all (λ v. fits v item) vs) h in
    wholes_there vs max item l e (leb-true (length vs) max p.0) p.1
wholes_taken v (CelType-F.List max plain item) _ t l e h = absurd (true≢false (sym h))
wholes_taken v _ p t l e h = absurd (none-some _ e)

naturals_taken : LevelTaken Naturals
naturals_taken v CelType-F.Never p t l e h = absurd (true≢false (sym h))
naturals_taken v (CelType-F.List max plain item) (Value-F.List vs) t l e h =
    let p = and_parts (nat_le (length vs) max) (list_all (λ v. fits v item) vs) h in
    naturals_there vs max item l e (leb-true (length vs) max p.0) p.1
naturals_taken v (CelType-F.List max plain item) _ t l e h = absurd (true≢false (sym h))
naturals_taken v _ p t l e h = absurd (none-some _ e)

texts_taken : LevelTaken Texts
texts_taken v CelType-F.Never p t l e h = absurd (true≢false (sym h))
texts_taken v (CelType-F.List max plain item) (Value-F.List vs) t l e h =
    let p = and_parts (nat_le (length vs) max) (list_all (λ v. fits v item) vs) h in
    texts_there vs max item l e (leb-true (length vs) max p.0) p.1
texts_taken v (CelType-F.List max plain item) _ t l e h = absurd (true≢false (sym h))
texts_taken v _ p t l e h = absurd (none-some _ e)

members_taken : LevelTaken Members
members_taken v (CelType-F.Object fields) (Value-F.Object es) t l e h =
    subst (λ contents. Within Members contents es) (same_Some _ _ e) h
members_taken v (CelType-F.Object fields) _ t l e h = absurd (true≢false (sym h))
members_taken v (CelType-F.Map max key_max item) (Value-F.Map es) t l e h =
    let p = and_parts (nat_le (length es) max) (list_all (λ e. nat_le (code_points e.key) key_max && fits e.value item) es) h in
    subst (λ contents. Within Members contents es) (same_Some _ _ e) p.1
members_taken v (CelType-F.Map max key_max item) _ t l e h = absurd (true≢false (sym h))
members_taken v _ p t l e h = absurd (none-some _ e)

-- there are as many keys as entries, and each is a text of the length that is allowed
keys_fit : (es : List (Keyed Value)) (key_max : ℕ) (item : CelType)
    → list_all (λ e. nat_le (code_points e.key) key_max && fits e.value item) es ≡ true
    → (length (keys_of es) ≡ length es) × (list_all (λ v. fits v (type.Text key_max)) (keys_of es) ≡ true)
keys_fit [] key_max item h = (refl, refl)
keys_fit (e ∷ es) key_max item h =
    let p =
    and_parts (nat_le (code_points e.key) key_max && fits e.value item)
    (list_all (λ e. nat_le (code_points e.key) key_max && fits e.value item) es) h in
    let q = and_parts (nat_le (code_points e.key) key_max) (fits e.value item) p.0 in
    let rest = keys_fit es key_max item p.1 in (
      ap suc rest.0,
      and_from (fits (value.Text e.key) (type.Text key_max)) (list_all (λ v. fits v (type.Text key_max)) (keys_of es))
          (text_fits e.key key_max (leb-true (code_points e.key) key_max q.0)) rest.1,
    )

ranged_taken : LevelTaken Ranged
ranged_taken v (CelType-F.List max plain item) (Value-F.List vs) t l e h =
    let p = and_parts (nat_le (length vs) max) (list_all (λ v. fits v item) vs) h in
    subst (λ span. Within Ranged span vs) (same_Some _ _ e) (leb-true (length vs) max p.0, p.1)
ranged_taken v (CelType-F.List max plain item) _ t l e h = absurd (true≢false (sym h))
ranged_taken v (CelType-F.Map max key_max item) (Value-F.Map es) t l e h =
    let p = and_parts (nat_le (length es) max) (list_all (λ e. nat_le (code_points e.key) key_max && fits e.value item) es) h in
    let keys = keys_fit es key_max item p.1 in
    let few : length es ≤ max = leb-true (length es) max p.0 in
    subst (λ span. Within Ranged span (keys_of es)) (same_Some _ _ e) (omega (arith, keys.0, few), keys.1)
ranged_taken v (CelType-F.Map max key_max item) _ t l e h = absurd (true≢false (sym h))
ranged_taken v _ p t l e h = absurd (none-some _ e)

kind_taken : (w : Want) (t : CelType) (v : Value) (l : Limit w) → limit_at w t (out-CelType t) ≡ Some l → fits v t ≡ true
    → Taken w l (kind_at w v (out-Value v))
kind_taken Any t v l e h = subst (λ s. fits v s ≡ true) (same_Some _ _ e) h
kind_taken Ordered t v l e h = ordered_taken v t l e h
kind_taken Truth t v l e h = truth_taken v (out-CelType t) (out-Value v) t l e (sym (fits-out v t) ∙ h)
kind_taken Whole t v l e h = whole_taken v (out-CelType t) (out-Value v) t l e (sym (fits-out v t) ∙ h)
kind_taken Natural t v l e h = natural_taken v (out-CelType t) (out-Value v) t l e (sym (fits-out v t) ∙ h)
kind_taken Moment t v l e h = moment_taken v (out-CelType t) (out-Value v) t l e (sym (fits-out v t) ∙ h)
kind_taken Lapse t v l e h = lapse_taken v (out-CelType t) (out-Value v) t l e (sym (fits-out v t) ∙ h)
kind_taken Characters t v l e h = characters_taken v (out-CelType t) (out-Value v) t l e (sym (fits-out v t) ∙ h)
kind_taken Items t v l e h = items_taken v (out-CelType t) (out-Value v) t l e (sym (fits-out v t) ∙ h)
kind_taken Entries t v l e h = entries_taken v (out-CelType t) (out-Value v) t l e (sym (fits-out v t) ∙ h)
kind_taken Indexed t v l e h = indexed_taken v (out-CelType t) (out-Value v) t l e (sym (fits-out v t) ∙ h)
kind_taken Sought t v l e h = sought_taken v (out-CelType t) (out-Value v) t l e (sym (fits-out v t) ∙ h)
kind_taken Wholes t v l e h = wholes_taken v (out-CelType t) (out-Value v) t l e (sym (fits-out v t) ∙ h)
kind_taken Naturals t v l e h = naturals_taken v (out-CelType t) (out-Value v) t l e (sym (fits-out v t) ∙ h)
kind_taken Texts t v l e h = texts_taken v (out-CelType t) (out-Value v) t l e (sym (fits-out v t) ∙ h)
kind_taken Members t v l e h = members_taken v (out-CelType t) (out-Value v) t l e (sym (fits-out v t) ∙ h)
kind_taken Ranged t v l e h = ranged_taken v (out-CelType t) (out-Value v) t l e (sym (fits-out v t) ∙ h)

-- what is of a type and not null is of the type beside null
beside_null : (v : Value) (t : CelType) (o : CelType-F CelType) → out-CelType t ≡ o → is_null (out-Value v) ≡ false → fits v t ≡ true
    → fits v (without_null_at t o) ≡ true
beside_null v t (CelType-F.Nullable s) e n h =
    let here : (is_null (out-Value v) || fits (roll-Value (out-Value v)) s) ≡ true =
    sym (fits-levels v t (out-Value v) (CelType-F.Nullable s) refl e) ∙ h in
    let inside : fits (roll-Value (out-Value v)) s ≡ true = subst (λ b. (b || fits (roll-Value (out-Value v)) s) ≡ true) n here in
    let rolled : roll-Value (out-Value v) ≡ v = search (rules, value_lemmas) in
    subst (λ w. fits w s ≡ true) rolled inside
beside_null v t _ e n h = h

null_or : (w : Want) (l : Limit w) (b : Bool) (x : Option (Result (Of w) CelError)) → (b ≡ false → Taken w l x)
    → Taken w l (cond b (Some (Err NullOperand)) x)
null_or w l true x f = tt
null_or w l false x f = f refl

kind_or_null : (w : Want) (t : CelType) (v : Value) (l : Limit w) → limit_at w (without_null t) (out-CelType (without_null t)) ≡ Some l
    → fits v t ≡ true → Taken w l (cond (is_null (out-Value v)) (Some (Err NullOperand)) (kind_at w v (out-Value v)))
kind_or_null w t v l e h =
    null_or w l (is_null (out-Value v)) (kind_at w v (out-Value v))
    (λ n. kind_taken w (without_null t) v l e (beside_null v t (out-CelType t) refl n h))

value_taken : (w : Want) (t : CelType) (v : Value) (l : Limit w) → limit_of w t ≡ Some l → fits v t ≡ true → Taken w l (taken_value w v)
value_taken Any t v l e h = subst (λ s. fits v s ≡ true) (same_Some _ _ e) h
value_taken Truth t v l e h = kind_or_null Truth t v l e h
value_taken Whole t v l e h = kind_or_null Whole t v l e h
value_taken Natural t v l e h = kind_or_null Natural t v l e h
value_taken Moment t v l e h = kind_or_null Moment t v l e h
value_taken Lapse t v l e h = kind_or_null Lapse t v l e h
value_taken Ordered t v l e h = kind_or_null Ordered t v l e h
value_taken Characters t v l e h = kind_or_null Characters t v l e h
value_taken Items t v l e h = kind_or_null Items t v l e h
value_taken Entries t v l e h = kind_or_null Entries t v l e h
value_taken Indexed t v l e h = kind_or_null Indexed t v l e h
value_taken Sought t v l e h = kind_or_null Sought t v l e h
value_taken Wholes t v l e h = kind_or_null Wholes t v l e h
value_taken Naturals t v l e h = kind_or_null Naturals t v l e h
value_taken Texts t v l e h = kind_or_null Texts t v l e h
value_taken Members t v l e h = kind_or_null Members t v l e h
value_taken Ranged t v l e h = kind_or_null Ranged t v l e h

pub taken_fits : (w : Want) (t : CelType) (x : Option Outcome) (l : Limit w) → limit_of w t ≡ Some l → outcome_fits t x ≡ true
    → Taken w l (taken w x)
taken_fits w t None l e h = absurd (true≢false (sym h))
taken_fits w t (Some (Err f)) l e h = tt
taken_fits w t (Some (Ok v)) l e h = value_taken w t v l e h
