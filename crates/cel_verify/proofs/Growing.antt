-- A list that fits a type still fits it with more items, if a list of them is assignable to it.
use Rattle.std.proofs.Common.{◌≡◌, ℕ, ◌+◌, ◌≤◌, Bool, true, ◌&&◌, ◌||◌, not, nat_le, List, [], ◌∷◌, ◌++◌, length}
use Rattle.std.proofs.Common.{ap, sym, ◌∙◌, subst, refl, arith, true≢false, length-append}
use Rattle.std.specs.List.{list_all}
use Rattle.std.proofs.lemmas.Bool.{and_parts, and_from, leb-true, le-leb}
use Rattle.cel_value.specs.declared.value.Value.{Value, roll-Value}
use Rattle.cel_value.specs.declared.value.Value as value
use Rattle.cel_value.specs.declared.value.Value.TheOpen.{Value-F}
use Rattle.cel_value.specs.declared.value.Value.TheVariants.{rolls-List as rolls-items}
use Rattle.cel_value.specs.declared.cel_type.CelType as type
use Rattle.cel_value.specs.declared.cel_type.CelType.{CelType, roll-CelType}
use Rattle.cel_value.specs.declared.cel_type.CelType.TheOpen.{CelType-F}
use Rattle.cel_value.specs.declared.cel_type.CelType.TheVariants.{rolls-List}
use Rattle.cel_value.specs.declared.cel_type.CelType.TheFolds.{fold-roll-CelType, ind-CelType, map-CelType}
use Rattle.cel_value.specs.Fits.{fits, fits_at, fits_step}
use Rattle.cel_value.specs.Assignable.{assignable, takes_at, takes_step}
use Rattle.cel_value.proofs.Soundness.{IsWithin-from_assignable}
use Rattle.cel_value.proofs.Levels.{fused, out_roll, out_roll-Value}

all_wider : {X : Type 0} (p q : X → Bool) → ((x : X) → p x ≡ true → q x ≡ true) → (xs : List X) → list_all p xs ≡ true
    → list_all q xs ≡ true
all_wider p q w [] h = refl
all_wider p q w (x ∷ xs) h = let r = and_parts (p x) (list_all p xs) h in and_from _ _ (w x r.0) (all_wider p q w xs r.1)

all_append : {X : Type 0} (p : X → Bool) (xs ys : List X) → list_all p xs ≡ true → list_all p ys ≡ true
    → list_all p (xs ++ ys) ≡ true
all_append p [] ys h k = k
all_append p (x ∷ xs) ys h k = let r = and_parts (p x) (list_all p xs) h in and_from _ _ r.0 (all_append p xs ys r.1 k)

-- more items that fit, if a list of so many of their type is assignable
abbrev Grows : CelType → Type 0
Grows r =
    (vs ws : List Value) (max : ℕ) (t : CelType) → assignable (roll-CelType (CelType-F.List max true t)) r ≡ true
    → fits (roll-Value (Value-F.List vs)) r ≡ true → list_all (λ v. fits v t) ws ≡ true → length vs + length ws ≤ max
    → fits (roll-Value (Value-F.List (vs ++ ws))) r ≡ true

abbrev Such : Type 0
Such = (t : CelType) × Grows t

-- one level of a type that takes lists
abbrev LevelGrows : CelType-F Such → Type 0
LevelGrows y =
    (vs ws : List Value) (max : ℕ) (t : CelType)
    → takes_at (map-CelType _ _ (λ e s. assignable s e.0) y) (CelType-F.List max true t) ≡ true
    → fits_at (map-CelType _ _ (λ e v. fits v e.0) y) (Value-F.List vs) ≡ true → list_all (λ v. fits v t) ws ≡ true
    → length vs + length ws ≤ max → fits_at (map-CelType _ _ (λ e v. fits v e.0) y) (Value-F.List (vs ++ ws)) ≡ true

level : (y : CelType-F Such) → LevelGrows y
level (CelType-F.List most plain item) vs ws max t a f g h =
    let p = and_parts (nat_le max most && (true || not plain)) (assignable t item.0) a in
    let l = and_parts (nat_le max most) (true || not plain) p.0 in
    let r = and_parts (nat_le (length vs) most) (list_all (λ v. fits v item.0) vs) f in
    let long : length (vs ++ ws) ≤ most = omega (arith, length-append vs ws, leb-true max most l.0) in
    let wide = all_wider (λ v. fits v t) (λ v. fits v item.0) (IsWithin-from_assignable item.0 t p.1).1 ws g in
    and_from _ _ (le-leb (length (vs ++ ws)) most long) (all_append (λ v. fits v item.0) vs ws r.1 wide)
level (CelType-F.Nullable e) vs ws max t a f g h = e.1 vs ws max t a f g h
level _ vs ws max t a f g h = absurd (true≢false (sym f))

abbrev bare : CelType-F Such → CelType
bare y = roll-CelType (map-CelType _ _ (λ e. e.0) y)

step : (y : CelType-F Such) → Grows (bare y)
step y = λ vs ws max t a f g h.
    let z = map-CelType _ _ (λ e. e.0) y in
    let given = CelType-F.List max true t in
    let takes : assignable (roll-CelType given) (bare y) ≡ takes_at (map-CelType _ _ (λ e s. assignable s e.0) y) given =
    ap (λ k. k (roll-CelType given))
    (fold-roll-CelType (CelType → Bool) takes_step z ∙ ap takes_step (fused (CelType → Bool) y (λ e. e.0) (λ u s. assignable s u)))
    ∙ ap (takes_at (map-CelType _ _ (λ e s. assignable s e.0) y)) (out_roll given) in
    let asks : (us : List Value)
    → fits (roll-Value (Value-F.List us)) (bare y) ≡ fits_at (map-CelType _ _ (λ e v. fits v e.0) y) (Value-F.List us) =
    λ us.
    ap (λ k. k (roll-Value (Value-F.List us)))
    (fold-roll-CelType (Value → Bool) fits_step z ∙ ap fits_step (fused (Value → Bool) y (λ e. e.0) (λ u v. fits v u)))
    ∙ ap (fits_at (map-CelType _ _ (λ e v. fits v e.0) y)) (out_roll-Value (Value-F.List us)) in
    asks (vs ++ ws) ∙ level y vs ws max t (sym takes ∙ a) (sym (asks vs) ∙ f) g h

grows : (r : CelType) → Grows r
grows = ind-CelType Grows (λ x y is. subst (λ z. Grows (roll-CelType z)) is (step y))

-- a list that fits still fits with more items, if a list of them is assignable
pub list_grows : (r : CelType) (vs ws : List Value) (max : ℕ) (t : CelType) → assignable (type.List max true t) r ≡ true
    → fits (value.List vs) r ≡ true → list_all (λ v. fits v t) ws ≡ true → length vs + length ws ≤ max
    → fits (value.List (vs ++ ws)) r ≡ true
list_grows r vs ws max t a f g h =
    let a' : assignable (roll-CelType (CelType-F.List max true t)) r ≡ true = ap (λ s. assignable s r) (rolls-List max true t) ∙ a in
    let f' : fits (roll-Value (Value-F.List vs)) r ≡ true = ap (λ v. fits v r) (rolls-items vs) ∙ f in
    ap (λ v. fits v r) (sym (rolls-items (vs ++ ws))) ∙ grows r vs ws max t a' f' g h
