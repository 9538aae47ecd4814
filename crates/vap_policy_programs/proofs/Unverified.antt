-- One expression whose image is refused, among those of a policy.
use Rattle.std.proofs.Common.{◌≡◌, ◌<◌, ◌+◌, ℕ, zero, suc, List, [], ◌∷◌, ◌++◌, length, get_or, drop, map, ◌⊎◌, inl, inr, Result, Ok, Err}
use Rattle.std.proofs.Common.{subst, sym, ap, ◌∙◌, arith}
use Rattle.std.specs.List.{flat_map}
use Rattle.cel_expression.specs.Source.{Source}
use Rattle.cel_expression.specs.Faulty.{IsUnverified}
use Rattle.vap_read.specs.declared.policy.NamedExpression.{NamedExpression}
use Rattle.vap_policy_programs.specs.Scopes.{NoPatterns, Scope, source, with_variable}
use Rattle.vap_policy_programs.specs.declared.wanted.Wanted.TheVariants.{Whatever}
use Rattle.vap_policy_programs.specs.Wanted.{compiled_as}
use Rattle.vap_policy_programs.specs.Pairs.{Scoped, scoped_from}
use Rattle.vap_policy_programs.specs.Expressions.{next_names, names_behind, of_variables, IsOneUnverified}
use Rattle.vap_policy_programs.proofs.Standing.{stepped, compiled_source}
use Rattle.vap_policy_programs.proofs.Each.{next_is}

pub one_left : (at : ℕ) (xs ys : List Source) → IsOneUnverified at xs → IsOneUnverified at (xs ++ ys)
one_left at [] ys h = absurd h
one_left at (x ∷ xs) ys (inl h) = inl h
one_left at (x ∷ xs) ys (inr h) = inr (one_left at xs ys h)

pub one_right : (at : ℕ) (xs ys : List Source) → IsOneUnverified at ys → IsOneUnverified at (xs ++ ys)
one_right at [] ys h = h
one_right at (x ∷ xs) ys h = inr (one_right at xs ys h)

-- what one item has
pub one_of : {A : Type 0} (f : A → List Source) (at : ℕ) (xs : List A) (i : ℕ) (x : A) → i < length xs → x ≡ get_or xs i x
    → IsOneUnverified at (f x) → IsOneUnverified at (flat_map f xs)
one_of f at [] i x lt is h = absurd (omega arith)
one_of f at (y ∷ ys) zero x lt is h = one_left at (f y) (flat_map f ys) (subst (λ z. IsOneUnverified at (f z)) is h)
one_of f at (y ∷ ys) (suc i) x lt is h = one_right at (f y) (flat_map f ys) (one_of f at ys i x (omega arith) is h)

pub one_mapped : {A : Type 0} (f : A → Source) (at : ℕ) (xs : List A) (i : ℕ) (x : A) → i < length xs → x ≡ get_or xs i x
    → IsUnverified (f x) at → IsOneUnverified at (map f xs)
one_mapped f at [] i x lt is h = absurd (omega arith)
one_mapped f at (y ∷ ys) zero x lt is h = inl (subst (λ z. IsUnverified (f z) at) is h)
one_mapped f at (y ∷ ys) (suc i) x lt is h = inr (one_mapped f at ys i x (omega arith) is h)

-- a variable comes after those that are made
pub one_variable : (at : ℕ) (choice : NoPatterns) (names : Scope) (vs : List NamedExpression) (i : ℕ) (v : NamedExpression)
    (made all : List Source) → i < length vs → v ≡ get_or vs i v → IsUnverified (source choice names v.expression) at
    → made ++ of_variables choice names (drop i vs) ≡ all → IsOneUnverified at all
one_variable at choice names vs i v made all lt is h so_far =
    let d = ap (λ zs. made ++ of_variables choice names zs) (next_is vs i v lt is) in
    subst (IsOneUnverified at) (sym d ∙ so_far)
    (one_right at made (of_variables choice names (v ∷ drop (i + 1) vs)) (inl h))

-- the names after variables that can be compiled
pub scoped_names : (choice : NoPatterns) (names : Scope) (made : List Source) (vs : List NamedExpression) (d : Scoped)
    → scoped_from choice names made vs ≡ Ok d → d.names ≡ names_behind choice names vs
scoped_names choice names made [] d e = let h : record { variables = made; names = names } ≡ d = cc in ap (λ x. x.names) (sym h)
scoped_names choice names made (v ∷ vs) d e =
    let p = stepped (compiled_as Whatever (source choice names v.expression))
    (λ s. scoped_from choice (with_variable names v.name s) (made ++ s ∷ []) vs) d e in
    scoped_names choice (with_variable names v.name p.0) (made ++ p.0 ∷ []) vs d p.2
    ∙ ap (λ s. names_behind choice (with_variable names v.name s) vs) (compiled_source choice names v.expression Whatever p.0 p.1)
