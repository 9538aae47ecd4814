-- Calls of macros whose arguments are wrong (cel-spec, "Macros").
use Rattle.std.specs.Prelude.{ℕ, min, Bool, true, false, ◌&&◌, not, List}
use Rattle.std.specs.Prelude.{[], ◌∷◌, map, Option, Some, None, if◌then◌else◌, codes}
use Rattle.std.specs.Str.{bytes_eq}
use Rattle.cel_value.specs.declared.expr.Loop.{Loop}
use Rattle.cel_value.specs.declared.expr.Loop.TheVariants as loop
use Rattle.cel_value.specs.declared.expr.Entry.{Entry}
use Rattle.cel_parse.specs.declared.macros.Shape.{Shape}
use Rattle.cel_parse.specs.declared.macros.Shape.TheVariants as shape
use Rattle.cel_parse.specs.declared.tree.Tree.{Tree, fold-Tree}
use Rattle.cel_parse.specs.declared.tree.Tree.TheOpen.{Tree-F}
use Rattle.cel_parse.specs.Words.{word_at, is_has}

-- the macros on a list or map (cel-spec, "Macros")
unfoldable pub loop_of : List ℕ → Option Loop
loop_of word =
    if bytes_eq word (codes "all") then Some loop.All
    else (if bytes_eq word (codes "exists") then Some loop.Exists
    else (if bytes_eq word (codes "exists_one") then Some loop.ExistsOne
    else (if bytes_eq word (codes "filter") then Some loop.Filter
    else (if bytes_eq word (codes "map") then Some loop.Map
    else None))))

-- what a macro needs to know about a tree, and the least place of a wrong macro in it
pub record Mark : Type 0 where
  pub shape : Shape
  pub wrong : Option ℕ

-- the lesser of the places that there are
abbrev pub lesser : Option ℕ → Option ℕ → Option ℕ
lesser None b = b
lesser (Some a) None = Some a
lesser (Some a) (Some b) = Some (min a b)

-- the tree is a name
abbrev pub is_name : Mark → Bool
is_name m = elim m.shape [ shape.Name ↦ true | shape.Select ↦ false | shape.Other ↦ false ]

-- the tree selects a field
abbrev pub is_select : Mark → Bool
is_select m = elim m.shape [ shape.Name ↦ false | shape.Select ↦ true | shape.Other ↦ false ]

-- `has` takes the select of a field
abbrev pub suits_has : List Mark → Bool
suits_has (m ∷ []) = is_select m
suits_has _ = false

-- a loop takes a name and a body; `map` may have a predicate in between
abbrev pub suits_loop : Loop → List Mark → Bool
suits_loop l (m ∷ b ∷ []) = is_name m
suits_loop loop.Map (m ∷ p ∷ t ∷ []) = is_name m
suits_loop _ _ = false

-- a macro that its arguments do not suit is wrong, at its name
abbrev pub wrong_if : Bool → ℕ → Option ℕ
wrong_if true place = Some place
wrong_if false place = None

-- what a method of this name is, if it is no loop
abbrev pub wrong_method : Option Loop → ℕ → List Mark → Option ℕ
wrong_method None place ms = None
wrong_method (Some l) place ms = wrong_if (not (suits_loop l ms)) place

-- the least place in several trees
abbrev pub least : List Mark → Option ℕ
least [] = None
least (m ∷ ms) = lesser m.wrong (least ms)

-- the least place in keys and values
abbrev pub least_entry : List (Entry Mark) → Option ℕ
least_entry [] = None
least_entry (e ∷ es) = lesser e.key.wrong (lesser e.value.wrong (least_entry es))

-- the least place of a wrong macro in one level
abbrev pub wrong_at : List ℕ → Tree-F Mark → Option ℕ
wrong_at source (Tree-F.Null place) = None
wrong_at source (Tree-F.Truth place value) = None
wrong_at source (Tree-F.Number place negative magnitude) = None
wrong_at source (Tree-F.Unsigned place value) = None
wrong_at source (Tree-F.Text place value) = None
wrong_at source (Tree-F.Name place) = None
wrong_at source (Tree-F.Call place ms) = lesser (wrong_if (is_has source place && not (suits_has ms)) place) (least ms)
wrong_at source (Tree-F.Select place a) = a.wrong
wrong_at source (Tree-F.Method place a ms) = lesser (wrong_method (loop_of (word_at source place)) place ms) (lesser a.wrong (least ms))
wrong_at source (Tree-F.Index place a b) = lesser a.wrong b.wrong
wrong_at source (Tree-F.List place ms) = least ms
wrong_at source (Tree-F.Map place es) = least_entry es
wrong_at source (Tree-F.Unary place o a) = a.wrong
wrong_at source (Tree-F.Binary place o a b) = lesser a.wrong b.wrong
wrong_at source (Tree-F.Conditional place c a b) = lesser c.wrong (lesser a.wrong b.wrong)

-- what a macro needs to know about one level
abbrev pub shape_at : Tree-F Mark → Shape
shape_at (Tree-F.Name place) = shape.Name
shape_at (Tree-F.Select place a) = shape.Select
shape_at _ = shape.Other

-- what is known of a tree of a text
abbrev pub mark : List ℕ → Tree → Mark
mark source = fold-Tree Mark (λ t. record { shape = shape_at t; wrong = wrong_at source t })

-- the least place of a macro in a tree whose arguments are wrong
abbrev pub first_wrong : List ℕ → Tree → Option ℕ
first_wrong source e = (mark source e).wrong

-- what is known of keys and values
abbrev pub marks : List ℕ → List (Entry Tree) → List (Entry Mark)
marks source es = map (λ e. record { key = mark source e.key; value = mark source e.value }) es
