-- The equations of an estimate, level by level.
use Rattle.std.proofs.Common.{◌≡◌, ℕ, ◌+◌, ◌*◌, List, [], ◌∷◌, map, length, refl, sym, ap, ◌∙◌, arith}
use Rattle.cel_value.specs.declared.expr.Entry.{Entry}
use Rattle.cel_value.specs.declared.cel_type.CelType.{CelType}
use Rattle.cel_value.specs.declared.expr.Loop.{Loop}
use Rattle.cel_check.specs.declared.tree.TypedTree.{TypedTree, out-TypedTree}
use Rattle.cel_check.specs.declared.tree.TypedTree.TheFolds.{fold_out-TypedTree}
use Rattle.cel_check.specs.declared.tree.Form.{Form}
use Rattle.cel_check.specs.declared.tree.Form.TheVariants as form
use Rattle.cel_operators.specs.Maps.{keys_by_turns, keys_greatest, entries_greatest}
use Rattle.cel_check.specs.Meaning.{type_of, IsForm}
use Rattle.cel_value.specs.Turns.{by_turns}
use Rattle.cel_check.proofs.Levels.{part, parts, turns_parts}
use Rattle.cel_operators.proofs.MapLiterals.{keys_of_turns}
use Rattle.cel_estimate.specs.Estimate.{Rated, sum_of, types_rated, items_most, estimate_at, rated_step, rated_of, estimate_of}
use Rattle.cel_estimate.specs.Estimate.{estimates_of, keys_most}

pub rated_type : (t : TypedTree) → (rated_of t).type ≡ type_of t
rated_type t = ap (λ r. r.type) (fold_out-TypedTree Rated rated_step t)

-- one level
pub estimate_level : (t : TypedTree) (f : Form TypedTree) → IsForm t f
    → estimate_of t ≡ estimate_at (part rated_of (out-TypedTree t).cel_type f)
estimate_level t f h =
    ap (λ r. r.most) (fold_out-TypedTree Rated rated_step t)
    ∙ ap (λ g. estimate_at (part rated_of (out-TypedTree t).cel_type g)) h.is

pub sum_rated : (xs : List TypedTree) → sum_of (map rated_of xs) ≡ estimates_of xs
sum_rated [] = refl
sum_rated (x ∷ xs) = ap (λ n. estimate_of x + n) (sum_rated xs)

pub types_rated_of : (xs : List TypedTree) → types_rated (map rated_of xs) ≡ map type_of xs
types_rated_of [] = refl
types_rated_of (x ∷ xs) = ap (λ t. t ∷ types_rated (map rated_of xs)) (rated_type x) ∙ ap (λ ts. type_of x ∷ ts) (types_rated_of xs)

pub length_mapped : (A B : Type 0) (f : A → B) (xs : List A) → length (map f xs) ≡ length xs
length_mapped A B f [] = refl
length_mapped A B f (x ∷ xs) = omega (arith, length_mapped A B f xs)

pub estimate_of_list : (t : TypedTree) (xs : List TypedTree) → IsForm t (form.ListOf xs)
    → estimate_of t ≡ (estimates_of xs + 1) + length xs
estimate_of_list t xs h =
    let level = estimate_level t (form.ListOf xs) h in
    omega (arith, level, sum_rated xs, length_mapped TypedTree Rated rated_of xs)

-- the keys of a map literal, by their types
keys_mapped : (es : List (Entry TypedTree)) → keys_by_turns (map type_of (by_turns es)) ≡ map (λ e. type_of e.key) es
keys_mapped [] = refl
keys_mapped (e ∷ es) = ap (λ ts. type_of e.key ∷ ts) (keys_mapped es)

pub estimate_of_map : (t : TypedTree) (es : List (Entry TypedTree)) → IsForm t (form.MapOf es)
    → estimate_of t ≡ estimates_of (by_turns es) + keys_most es
estimate_of_map t es h =
    estimate_level t (form.MapOf es) h
    ∙ ap (λ xs. sum_of xs + entries_greatest (types_rated xs)) (turns_parts TypedTree Rated rated_of es)
    ∙ ap (λ n. n + entries_greatest (types_rated (map rated_of (by_turns es)))) (sum_rated (by_turns es))
    ∙ ap (λ ts. estimates_of (by_turns es) + keys_greatest (keys_by_turns ts)) (types_rated_of (by_turns es))
    ∙ ap (λ ts. estimates_of (by_turns es) + keys_greatest ts) (keys_mapped es)

pub estimate_of_loop : (t : TypedTree) (l : Loop) (a b : TypedTree) → IsForm t (form.Loop l a b)
    → estimate_of t ≡ (estimate_of a + 1) + items_most (type_of a) * (1 + estimate_of b)
estimate_of_loop t l a b h =
    estimate_level t (form.Loop l a b) h ∙ ap (λ s. (estimate_of a + 1) + items_most s * (1 + estimate_of b)) (rated_type a)

pub estimate_of_map_where : (t a p b : TypedTree) → IsForm t (form.MapWhere a p b)
    → estimate_of t ≡ (estimate_of a + 1) + items_most (type_of a) * (1 + (estimate_of p + estimate_of b))
estimate_of_map_where t a p b h =
    estimate_level t (form.MapWhere a p b) h
    ∙ ap (λ s. (estimate_of a + 1) + items_most s * (1 + (estimate_of p + estimate_of b))) (rated_type a)
