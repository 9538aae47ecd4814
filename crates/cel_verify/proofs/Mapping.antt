-- A map's keys and values, seen from the top of a stack down.
use Rattle.std.proofs.Common.{◌≡◌, ℕ, zero, suc, ◌+◌, ◌-◌, ◌<◌, ◌≤◌, ◌/◌, min, max, List, [], ◌∷◌, ◌++◌, length, take, get_or}
use Rattle.std.proofs.Common.{Option, Some, None, refl, sym, ap, ◌∙◌, arith, length-append}
use Rattle.std.specs.Prelude.{reverse}
use Rattle.std.proofs.lemmas.List.{reverse-append, length-reverse}
use Rattle.cel_value.specs.declared.cel_type.CelType.{CelType}
use Rattle.cel_operators.specs.Maps.{keys_by_turns, values_by_turns, greater_limit, key_limit, map_type, entries_type}
use Rattle.cel_operators.specs.Maps.{key_greatest, entries_greatest}
use Rattle.cel_operators.specs.Lists.{join_next, join_behind, join_all}
use Rattle.cel_operators.specs.declared.operands.Want.TheVariants.{Characters}
use Rattle.cel_operators.specs.Wants.{limit_of}
use Rattle.cel_code.specs.Machine.{taken_off}
use Rattle.cel_verify.specs.StackTypes.{StackTypes}
use Rattle.cel_verify.specs.Paths.{mapped_charge}
use Rattle.cel_verify.specs.Walked.{ceiling}

-- so many cannot be taken off a stack of fewer
pub taken_short : {A : Type 0} (n : ℕ) (taken stack : List A) → length stack < n → taken_off n taken stack ≡ None
taken_short zero taken stack h = absurd (omega (arith, h))
taken_short (suc n) taken [] h = refl
taken_short (suc n) taken (x ∷ stack) h = taken_short n (x ∷ taken) stack (omega (arith, h))

-- there are half as many keys as keys and values by turns
pub half_keys : {A : Type 0} (xs : List A) → length xs / 2 ≡ length (keys_by_turns xs)
half_keys [] = omega arith
half_keys (k ∷ []) = omega arith
half_keys (k ∷ v ∷ xs) = let r = half_keys xs in omega (arith, r)

-- a list by all but its last two
pub last_two : {A : Type 0} (n : ℕ) (xs : List A) (s t : A) → length xs ≡ n + 2 → s ≡ get_or xs n s → t ≡ get_or xs (suc n) t
    → xs ≡ take n xs ++ s ∷ t ∷ []
last_two zero [] s t e p q = absurd (omega (arith, e))
last_two zero (a ∷ []) s t e p q = absurd (omega (arith, e))
last_two zero (a ∷ b ∷ []) s t e p q = cc (p, q)
last_two zero (a ∷ b ∷ c ∷ xs) s t e p q = absurd (omega (arith, e))
last_two (suc n) [] s t e p q = absurd (omega (arith, e))
last_two (suc n) (x ∷ xs) s t e p q = ap (λ l. x ∷ l) (last_two n xs s t (omega (arith, e)) p q)

pub its_last_two : {A : Type 0} (xs : List A) (s t : A) → 2 ≤ length xs → s ≡ get_or xs (length xs - 2) s
    → t ≡ get_or xs (length xs - 1) t → xs ≡ take (length xs - 2) xs ++ s ∷ t ∷ []
its_last_two xs s t h p q =
    let e : length xs - 1 ≡ suc (length xs - 2) = omega (arith, h) in
    last_two (length xs - 2) xs s t (omega (arith, h)) p (q ∙ ap (λ m. get_or xs m t) e)

-- without its last two a list is shorter
pub fewer : (all below : StackTypes) (s t : CelType) → all ≡ below ++ s ∷ t ∷ [] → length below < length all
fewer all below s t e = omega (arith, ap (length {A = CelType}) e, length-append below (s ∷ t ∷ []))

-- of fewer than two types none is a key or a value
no_keys : (xs : StackTypes) → length xs < 2 → keys_by_turns (reverse xs) ≡ []
no_keys [] h = refl
no_keys (x ∷ []) h = refl
no_keys (x ∷ y ∷ xs) h = absurd (omega (arith, h))

no_values : (xs : StackTypes) → length xs < 2 → values_by_turns (reverse xs) ≡ []
no_values [] h = refl
no_values (x ∷ []) h = refl
no_values (x ∷ y ∷ xs) h = absurd (omega (arith, h))

-- the last two of a stack that is seen from its bottom are the first two from its top
pub top_two : {A : Type 0} (all below : List A) (s t : A) → all ≡ below ++ s ∷ t ∷ [] → reverse all ≡ t ∷ s ∷ reverse below
top_two all below s t e = ap reverse e ∙ reverse-append below (s ∷ t ∷ [])

greater_joins : (a b c : Option ℕ) → greater_limit (greater_limit a b) c ≡ greater_limit a (greater_limit b c)
greater_joins None b c = refl
greater_joins (Some l) None c = refl
greater_joins (Some l) (Some m) None = refl
greater_joins (Some l) (Some m) (Some n) = let e : max (max l m) n ≡ max l (max m n) = omega arith in ap Some e

pub least_limit : (a : Option ℕ) → greater_limit (Some 0) a ≡ a
least_limit None = refl
least_limit (Some n) = let e : max 0 n ≡ n = omega arith in ap Some e

last_limit : (a : Option ℕ) → greater_limit a (Some 0) ≡ a
last_limit None = refl
last_limit (Some n) = let e : max n 0 ≡ n = omega arith in ap Some e

-- one key and value more, from the top of a stack down
key_next : (so_far : Option ℕ) (all below : StackTypes) (s t : CelType) → all ≡ below ++ s ∷ t ∷ []
    → greater_limit (greater_limit so_far (limit_of Characters t)) (key_limit (keys_by_turns (reverse below)))
    ≡ greater_limit so_far (key_limit (keys_by_turns (reverse all)))
key_next so_far all below s t e =
    greater_joins so_far (limit_of Characters t) (key_limit (keys_by_turns (reverse below)))
    ∙ ap (λ ts. greater_limit so_far (key_limit (keys_by_turns ts))) (sym (top_two all below s t e))

pub limit_next : (so_far own next whole : Option ℕ) (all below : StackTypes) (s t : CelType) → own ≡ limit_of Characters t
    → next ≡ greater_limit so_far own → all ≡ below ++ s ∷ t ∷ []
    → greater_limit so_far (key_limit (keys_by_turns (reverse all))) ≡ whole
    → greater_limit next (key_limit (keys_by_turns (reverse below))) ≡ whole
limit_next so_far own next whole all below s t o n e w =
    ap (λ l. greater_limit l (key_limit (keys_by_turns (reverse below)))) (n ∙ ap (greater_limit so_far) o)
    ∙ key_next so_far all below s t e
    ∙ w

pub limit_all : (limit whole : Option ℕ) (rest : StackTypes) → length rest < 2
    → greater_limit limit (key_limit (keys_by_turns (reverse rest))) ≡ whole → limit ≡ whole
limit_all limit whole rest h w =
    sym (last_limit limit) ∙ ap (λ ks. greater_limit limit (key_limit ks)) (sym (no_keys rest h)) ∙ w

pub joined_next : (so_far next whole : Option CelType) (all below : StackTypes) (s t : CelType) → next ≡ join_next so_far s
    → all ≡ below ++ s ∷ t ∷ [] → join_behind so_far (values_by_turns (reverse all)) ≡ whole
    → join_behind next (values_by_turns (reverse below)) ≡ whole
joined_next so_far next whole all below s t n e w =
    ap (λ o. join_behind o (values_by_turns (reverse below))) n
    ∙ ap (λ ts. join_behind so_far (values_by_turns ts)) (sym (top_two all below s t e))
    ∙ w

pub joined_all : (joined whole : Option CelType) (rest : StackTypes) → length rest < 2
    → join_behind joined (values_by_turns (reverse rest)) ≡ whole → joined ≡ whole
joined_all joined whole rest h w = ap (join_behind joined) (sym (no_values rest h)) ∙ w

-- the type of a map by half as many keys as there are keys and values, the limit of its keys and the join of its values
pub entries_typed : (entries : StackTypes) (limit : Option ℕ) (joined : Option CelType)
    → limit ≡ key_limit (keys_by_turns (reverse entries)) → joined ≡ join_all (values_by_turns (reverse entries))
    → map_type (length entries / 2) limit joined ≡ entries_type (reverse entries)
entries_typed entries limit joined l j =
    let keys = keys_by_turns (reverse entries) in
    let n : length entries / 2 ≡ length keys = ap (λ k. k / 2) (sym (length-reverse entries)) ∙ half_keys (reverse entries) in
    ap (λ k. map_type k limit joined) n ∙ ap (λ o. map_type (length keys) o joined) l ∙ ap (map_type (length keys) (key_limit keys)) j

-- with so many keys and values still to take off the rest of a stack, the charge is that of those that were taken
pub record Charges (count : ℕ) (all rest : StackTypes) (left charge : ℕ) : Type 0 where
  pub taken : StackTypes
  pub same : taken_off (left + left) taken rest ≡ taken_off (count + count) [] all
  pub is : charge ≡ min (entries_greatest taken) ceiling

pub no_charge : (count : ℕ) (all : StackTypes) → Charges count all all count 1
no_charge count all = record { taken = []; same = refl; is = refl }

-- a sum up to a ceiling, added to up to the ceiling
added : (before more charge next most : ℕ) → charge ≡ min before most → next ≡ min (charge + more) most
    → next ≡ min (more + before) most
added before more charge next most e f = omega (arith, e, f)

pub charge_next : (count : ℕ) (all rest below : StackTypes) (left charge more next : ℕ) (s t : CelType)
    → Charges count (reverse all) (reverse rest) left charge → 0 < left → rest ≡ below ++ s ∷ t ∷ []
    → more ≡ key_greatest (limit_of Characters s) → next ≡ min (charge + more) ceiling
    → Charges count (reverse all) (reverse below) (left - 1) next
charge_next count all rest below left charge more next s t c h e m n =
    let two : left + left ≡ suc (suc (left - 1 + (left - 1))) = omega (arith, h) in
    let down : taken_off (left + left) c.taken (reverse rest) ≡ taken_off (left - 1 + (left - 1)) (s ∷ t ∷ c.taken) (reverse below) =
    ap (λ k. taken_off k c.taken (reverse rest)) two
    ∙ ap (taken_off (suc (suc (left - 1 + (left - 1)))) c.taken) (top_two rest below s t e) in
    record {
      taken = s ∷ t ∷ c.taken;
      same = sym down ∙ c.same;
      is = added (entries_greatest c.taken) (key_greatest (limit_of Characters s)) charge next ceiling c.is
          (n ∙ ap (λ k. min (charge + k) ceiling) m);
    }

pub charge_short : (count : ℕ) (all rest : StackTypes) (left charge : ℕ) → Charges count all rest left charge → 0 < left
    → length rest < 2 → min (mapped_charge (taken_off (count + count) [] all)) ceiling ≡ 0
charge_short count all rest left charge c h l =
    ap (λ o. min (mapped_charge o) ceiling) (sym c.same ∙ taken_short (left + left) c.taken rest (omega (arith, h, l)))

pub charge_all : (count : ℕ) (all rest : StackTypes) (left charge : ℕ) → Charges count all rest left charge → left ≡ 0
    → charge ≡ min (mapped_charge (taken_off (count + count) [] all)) ceiling
charge_all count all rest left charge c z =
    let none : left + left ≡ 0 = omega (arith, z) in
    c.is ∙ ap (λ o. min (mapped_charge o) ceiling) (ap (λ k. taken_off k c.taken rest) (sym none) ∙ c.same)
