-- One level of a tree, over what is known of the trees inside.
use Rattle.std.proofs.Common.{◌≡◌, List, [], ◌∷◌, map, refl, ap, subst, ◌∙◌}
use Rattle.cel_value.specs.declared.expr.Entry.{Entry}
use Rattle.cel_parse.specs.declared.tree.Tree.{Tree, roll-Tree, fold-Tree}
use Rattle.cel_parse.specs.declared.tree.Tree.TheOpen.{Tree-F}
use Rattle.cel_parse.specs.declared.tree.Tree.TheFolds.{map-Tree, fold-roll-Tree, ind-Tree}

-- a tree for which something holds
abbrev pub Such : (Tree → Type 0) → Type 0
Such P = (t : Tree) × P t

module _ (P : Tree → Type 0) (A : Type 0) (f : Tree → A) where
  twice : (xs : List (Such P)) → map f (map (λ (e : Such P). e.0) xs) ≡ map (λ (e : Such P). f e.0) xs
  twice [] = refl
  twice (x ∷ xs) = ap (λ (ys : List A). f x.0 ∷ ys) (twice xs)

  abbrev entry_of : Entry (Such P) → Entry A
  entry_of e = record { key = f e.key.0; value = f e.value.0 }

  twice_entries : (xs : List (Entry (Such P)))
      → map (λ (e : Entry Tree). record { key = f e.key; value = f e.value }) (map
      (λ (e : Entry (Such P)). record { key = e.key.0; value = e.value.0 }) xs) ≡ map entry_of xs
  twice_entries [] = refl
  twice_entries (x ∷ xs) = ap (λ (ys : List (Entry A)). entry_of x ∷ ys) (twice_entries xs)

  pub fused : (y : Tree-F (Such P)) → map-Tree Tree A f (map-Tree (Such P) Tree (λ e. e.0) y) ≡ map-Tree (Such P) A (λ e. f e.0) y
  fused (Tree-F.Null place) = refl
  fused (Tree-F.Truth place value) = refl
  fused (Tree-F.Number place negative n) = refl
  fused (Tree-F.Unsigned place n) = refl
  fused (Tree-F.Text place s) = refl
  fused (Tree-F.Name place) = refl
  fused (Tree-F.Call place xs) = ap (Tree-F.Call place) (twice xs)
  fused (Tree-F.Select place a) = refl
  fused (Tree-F.Method place a xs) = ap (Tree-F.Method place (f a.0)) (twice xs)
  fused (Tree-F.Index place a b) = refl
  fused (Tree-F.List place xs) = ap (Tree-F.List place) (twice xs)
  fused (Tree-F.Map place es) = ap (Tree-F.Map place) (twice_entries es)
  fused (Tree-F.Unary place o a) = refl
  fused (Tree-F.Binary place o a b) = refl
  fused (Tree-F.Conditional place c a b) = refl

-- a fold of one level that is rolled up again
pub fold_level : (P : Tree → Type 0) (A : Type 0) (at : Tree-F A → A) (y : Tree-F (Such P))
    → fold-Tree A at (roll-Tree (map-Tree (Such P) Tree (λ e. e.0) y)) ≡ at (map-Tree (Such P) A (λ e. fold-Tree A at e.0) y)
fold_level P A at y = fold-roll-Tree A at (map-Tree (Such P) Tree (λ e. e.0) y) ∙ ap at (fused P A (fold-Tree A at) y)

-- what holds of each level holds of each tree
pub every_tree : (P : Tree → Type 0) → ((y : Tree-F (Such P)) → P (roll-Tree (map-Tree (Such P) Tree (λ e. e.0) y))) → (t : Tree)
    → P t
every_tree P step = ind-Tree P (λ x y is. subst (λ z. P (roll-Tree z)) is (step y))
