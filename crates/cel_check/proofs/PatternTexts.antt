-- The literal texts that `matches` is given in an expression, by its form.
use Rattle.std.proofs.Common.{◌≡◌, ℕ, List, [], ◌∷◌, ◌++◌, ap, sym, inl, inr, ◌⊎◌, ◌∙◌, append_assoc}
use Rattle.cel_value.specs.declared.expr.Entry.{Entry}
use Rattle.cel_value.specs.declared.expr.UnaryOperator.{UnaryOperator}
use Rattle.cel_value.specs.declared.expr.Expr.{Expr, out-Expr}
use Rattle.cel_value.specs.declared.expr.Expr.TheFolds.{map-Expr, fold_out-Expr}
use Rattle.cel_value.specs.declared.expr.Syntax.{Syntax}
use Rattle.cel_value.specs.declared.expr.Syntax.TheVariants as syntax
use Rattle.cel_value.specs.declared.expr.BinaryOperator.{BinaryOperator}
use Rattle.cel_value.specs.declared.expr.Loop.{Loop}
use Rattle.base_containers.specs.declared.text.Text.{Text}
use Rattle.cel_check.specs.PatternTexts.{Seen, seen, seen_step, patterns_at, of_each, of_entries, of_method, seen_each, seen_entries}
use Rattle.cel_check.specs.PatternTexts.{patterns_in}

-- a level, with what is seen of each part
abbrev pub level : Syntax Expr → Syntax Seen
level y = (map-Expr _ _ seen (record { place = 0; form = y })).form

pub patterns_is : (e : Expr) (y : Syntax Expr) → (out-Expr e).form ≡ y → patterns_in e ≡ patterns_at (level y)
patterns_is e y h = ap (λ (x : Seen). x.patterns) (fold_out-Expr Seen seen_step e) ∙ ap (λ (z : Syntax Expr). patterns_at (level z)) h

pub method_texts : (e a b : Expr) (f g : List ℕ) (xs ys zs : List Expr) → (out-Expr e).form ≡ syntax.Method a f xs → b ≡ a → g ≡ f
    → ys ≡ xs → zs ≡ xs → patterns_in e ≡ patterns_in b ++ (of_each (seen_each ys) ++ of_method g (seen_each zs))
method_texts e a b f g xs ys zs h p q r s =
    patterns_is e (syntax.Method a f xs) h
    ∙ sym
    (ap (λ (x : Expr). patterns_in x ++ (of_each (seen_each ys) ++ of_method g (seen_each zs))) p
    ∙ ap (λ (x : List ℕ). patterns_in a ++ (of_each (seen_each ys) ++ of_method x (seen_each zs))) q
    ∙ ap (λ (x : List Expr). patterns_in a ++ (of_each (seen_each x) ++ of_method f (seen_each zs))) r
    ∙ ap (λ (x : List Expr). patterns_in a ++ (of_each (seen_each xs) ++ of_method f (seen_each x))) s)

-- the forms with one part, with several in a list, and with entries
abbrev HasOne : Expr → Expr → Type 0
HasOne e a =
    ((f : Text) × ((out-Expr e).form ≡ syntax.Select a f))
    ⊎ (((f : Text) × ((out-Expr e).form ≡ syntax.Has a f)) ⊎ ((op : UnaryOperator) × ((out-Expr e).form ≡ syntax.Unary op a)))

one_at : (e a : Expr) → HasOne e a → patterns_in e ≡ patterns_in a
one_at e a (inl w) = patterns_is e (syntax.Select a w.0) w.1
one_at e a (inr (inl w)) = patterns_is e (syntax.Has a w.0) w.1
one_at e a (inr (inr w)) = patterns_is e (syntax.Unary w.0 a) w.1

pub one_texts : (e a b : Expr) → HasOne e a → b ≡ a → patterns_in e ≡ patterns_in b
one_texts e a b h p = one_at e a h ∙ sym (ap (λ (x : Expr). patterns_in x) p)

abbrev HasItems : Expr → List Expr → Type 0
HasItems e xs = ((f : Text) × ((out-Expr e).form ≡ syntax.Call f xs)) ⊎ ((out-Expr e).form ≡ syntax.List xs)

items_at : (e : Expr) (xs : List Expr) → HasItems e xs → patterns_in e ≡ of_each (seen_each xs)
items_at e xs (inl w) = patterns_is e (syntax.Call w.0 xs) w.1
items_at e xs (inr h) = patterns_is e (syntax.List xs) h

pub items_texts : (e : Expr) (xs ys : List Expr) → HasItems e xs → ys ≡ xs → patterns_in e ≡ of_each (seen_each ys)
items_texts e xs ys h p = items_at e xs h ∙ sym (ap (λ (zs : List Expr). of_each (seen_each zs)) p)

pub map_texts : (e : Expr) (es fs : List (Entry Expr)) → (out-Expr e).form ≡ syntax.Map es → fs ≡ es
    → patterns_in e ≡ of_entries (seen_entries fs)
map_texts e es fs h p = patterns_is e (syntax.Map es) h ∙ sym (ap (λ (gs : List (Entry Expr)). of_entries (seen_entries gs)) p)

-- the forms with two parts, and with three
abbrev HasTwo : Expr → Expr → Expr → Type 0
HasTwo e a b =
    ((out-Expr e).form ≡ syntax.Index a b)
    ⊎ (((op : BinaryOperator) × ((out-Expr e).form ≡ syntax.Binary op a b))
    ⊎ (((out-Expr e).form ≡ syntax.And a b)
    ⊎ (((out-Expr e).form ≡ syntax.Or a b) ⊎ ((l : Loop) × (x : Text) × ((out-Expr e).form ≡ syntax.Loop l a x b)))))

two_at : (e a b : Expr) → HasTwo e a b → patterns_in e ≡ patterns_in a ++ patterns_in b
two_at e a b (inl h) = patterns_is e (syntax.Index a b) h
two_at e a b (inr (inl w)) = patterns_is e (syntax.Binary w.0 a b) w.1
two_at e a b (inr (inr (inl h))) = patterns_is e (syntax.And a b) h
two_at e a b (inr (inr (inr (inl h)))) = patterns_is e (syntax.Or a b) h
two_at e a b (inr (inr (inr (inr w)))) = patterns_is e (syntax.Loop w.0 a w.1 b) w.2

pub two_texts : (e a b c d : Expr) → HasTwo e a b → c ≡ a → d ≡ b → patterns_in e ≡ patterns_in c ++ patterns_in d
two_texts e a b c d h p q =
    two_at e a b h ∙ sym (ap (λ (x : Expr). patterns_in x ++ patterns_in d) p ∙ ap (λ (x : Expr). patterns_in a ++ patterns_in x) q)

abbrev HasThree : Expr → Expr → Expr → Expr → Type 0
HasThree e a b c =
    ((out-Expr e).form ≡ syntax.Conditional a b c) ⊎ ((x : Text) × ((out-Expr e).form ≡ syntax.MapWhere a x b c))

three_at : (e a b c : Expr) → HasThree e a b c → patterns_in e ≡ patterns_in a ++ (patterns_in b ++ patterns_in c)
three_at e a b c (inl h) = patterns_is e (syntax.Conditional a b c) h
three_at e a b c (inr w) = patterns_is e (syntax.MapWhere a w.0 b c) w.1

pub three_texts : (e a b c d f g : Expr) → HasThree e a b c → d ≡ a → f ≡ b → g ≡ c
    → patterns_in e ≡ patterns_in d ++ (patterns_in f ++ patterns_in g)
three_texts e a b c d f g h p q r =
    three_at e a b c h
    ∙ sym
    (ap (λ (x : Expr). patterns_in x ++ (patterns_in f ++ patterns_in g)) p
    ∙ ap (λ (x : Expr). patterns_in a ++ (patterns_in x ++ patterns_in g)) q
    ∙ ap (λ (x : Expr). patterns_in a ++ (patterns_in b ++ patterns_in x)) r)

-- texts that are put after others in two steps, and in three
pub two_behind : (old mid new all xs ys : List (List ℕ)) → all ≡ xs ++ ys → mid ≡ old ++ xs → new ≡ mid ++ ys → new ≡ old ++ all
two_behind old mid new all xs ys whole one two =
    two ∙ ap (λ zs. zs ++ ys) one ∙ append_assoc old xs ys ∙ ap (λ zs. old ++ zs) (sym whole)

pub three_behind : (old mid next new all xs ys zs : List (List ℕ)) → all ≡ xs ++ (ys ++ zs) → mid ≡ old ++ xs → next ≡ mid ++ ys
    → new ≡ next ++ zs → new ≡ old ++ all
three_behind old mid next new all xs ys zs whole one two three =
    two_behind old mid new all xs (ys ++ zs) whole one
    (three ∙ ap (λ ws. ws ++ zs) two ∙ append_assoc mid ys zs)
