-- Fields that were read are in the order of their names.
use Rattle.std.proofs.Common.{◌≡◌, ℕ, Bool, true, cond, List, [], ◌∷◌, ◌++◌, Option, Ok, Err, refl}
use Rattle.std.proofs.Common.{sym, ap, ◌∙◌, subst}
use Rattle.std.specs.List.Sorted.{IsStrictlySortedBy}
use Rattle.std.specs.Ordering.{nat_cmp, is_lt}
use Rattle.std.specs.declared.cmp.Ordering.TheVariants.{Less, Equal, Greater}
use Rattle.std.specs.Cmp.Lexicographic.{slice_cmp}
use Rattle.std.specs.declared.cmp.Ordering.{Ordering}
use Rattle.std.proofs.lemmas.Bool.{true≢false}
use Rattle.base_containers.specs.declared.text.Keyed.{Keyed}
use Rattle.base_containers.specs.Keys.{IsInKeyOrder}
use Rattle.base_containers.proofs.Order.{ordered_step}
use Rattle.cel_value.specs.declared.cel_type.Field.{Field}
use Rattle.cel_value.specs.declared.cel_type.CelType.{CelType}
use Rattle.cel_code.specs.declared.fault.ReadFault.TheVariants.{BadTable}
use Rattle.cel_code.specs.Spelling.{name_after}
use Rattle.cel_code.specs.Reading.{◌>>=◌, Reader, both, tested, last_of, text_at, truth_at, field_from, field_at}
use Rattle.cel_code.proofs.Laws.{bind_ok, test_ok, ok_is}

less : (o : Ordering) → is_lt o ≡ true → o ≡ Less
less Less h = refl
less Equal h = absurd (true≢false (sym h))
less Greater h = absurd (true≢false (sym h))

pub in_order_nil : {V : Type 0} (fs : List (Keyed V)) → fs ≡ [] → IsInKeyOrder fs
unfolding IsStrictlySortedBy
in_order_nil {V} fs e = subst (λ (gs : List (Keyed V)). IsInKeyOrder gs) (sym e) tt

pub in_order_push : {V : Type 0} (fs : List (Keyed V)) (f : Keyed V) → IsInKeyOrder fs → name_after (last_of fs) f.key ≡ true
    → IsInKeyOrder (fs ++ f ∷ [])
unfolding IsStrictlySortedBy
in_order_push [] f h k = (tt, tt)
in_order_push (a ∷ []) f h k = ((less (slice_cmp nat_cmp a.key f.key) k, tt), (tt, tt))
in_order_push (a ∷ b ∷ fs) f h k =
    let p = (ordered_step a b fs).0 h in
    (ordered_step a b (fs ++ f ∷ [])).1 (p.0, in_order_push (b ∷ fs) f p.1 k)

pub field_behind : (inside : Reader CelType) (last : Option (Keyed (Field CelType))) (bytes : List ℕ) (f : Keyed (Field CelType))
    (after : List ℕ) → field_at inside last bytes ≡ Ok (f, after) → name_after last f.key ≡ true
field_behind inside last bytes f after e =
    let a = bind_ok (both (tested (name_after last) text_at) (both truth_at inside) bytes) (λ x. Ok (field_from x.0, x.1)) (f, after) e in
    let b = bind_ok (tested (name_after last) text_at bytes) (λ x. both truth_at inside x.1 >>= λ y. Ok ((x.0, y.0), y.1)) a.0 a.1 in
    let c = bind_ok (text_at bytes) (λ x. cond (name_after last x.0) (Ok x) (Err BadTable)) b.0 b.1 in
    let g = test_ok (name_after last c.0.0) BadTable c.0 b.0 c.2 in
    let d = bind_ok (both truth_at inside b.0.1) (λ y. Ok ((b.0.0, y.0), y.1)) a.0 b.2 in
    let key_of : (List ℕ × (Bool × CelType)) × List ℕ → List ℕ = λ x. x.0.0 in
    let first : c.0.0 ≡ b.0.0 = ap (λ (x : List ℕ × List ℕ). x.0) g.1 in
    let second : b.0.0 ≡ a.0.0.0 = ap key_of (ok_is ((b.0.0, d.0.0), d.0.1) a.0 d.2) in
    let third : a.0.0.0 ≡ f.key = ap (λ (x : Keyed (Field CelType) × List ℕ). x.0.key) (ok_is (field_from a.0.0, a.0.1) (f, after) a.2) in
    subst (λ (n : List ℕ). name_after last n ≡ true) (first ∙ second ∙ third) g.0
