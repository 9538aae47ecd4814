-- A text has one first token with which no text of the grammar goes on.
use Rattle.std.proofs.Common.{◌≡◌, ℕ, List, [], ◌∷◌, ◌++◌, refl, sym, ap, subst, ◌∙◌, append_assoc}
use Rattle.cel_lex.specs.declared.token.Token.{Token}
use Rattle.cel_parse.specs.Grammar.{Derives, Expression, place_at}
use Rattle.cel_parse.specs.Trees.{Agrees, same_first, IsUnexpected}

-- one front goes on into another
pub record GoesInto (a b c d : List Token) : Type 0 where
  pub token : Token
  pub middle : List Token
  pub longer : c ≡ a ++ token ∷ middle
  pub behind : b ≡ token ∷ (middle ++ d)

data Fronts (a b c d : List Token) : Type 0 where
  same_front : b ≡ d → Fronts a b c d
  first_shorter : GoesInto a b c d → Fronts a b c d
  second_shorter : GoesInto c d a b → Fronts a b c d

behind_token : (t u : Token) (a b c d : List Token) → t ≡ u → Fronts a b c d → Fronts (t ∷ a) b (u ∷ c) d
behind_token t u a b c d e (same_front h) = same_front h
behind_token t u a b c d e (first_shorter g) =
    first_shorter
    (record {
      token = g.token;
      middle = g.middle;
      longer = ap (λ (x : Token). x ∷ c) (sym e)
          ∙ ap (λ (x : List Token). t ∷ x) g.longer;
      behind = g.behind;
    })
behind_token t u a b c d e (second_shorter g) =
    second_shorter
    (record {
      token = g.token;
      middle = g.middle;
      longer = ap (λ (x : Token). x ∷ a) e ∙ ap (λ (x : List Token). u ∷ x) g.longer;
      behind =
          g.behind;
    })

fronts : (a b c d : List Token) → a ++ b ≡ c ++ d → Fronts a b c d
fronts [] b [] d e = same_front e
fronts [] b (u ∷ c) d e = first_shorter (record { token = u; middle = c; longer = refl; behind = e })
fronts (t ∷ a) b [] d e = second_shorter (record { token = t; middle = a; longer = refl; behind = sym e })
fronts (t ∷ a) b (u ∷ c) d e = behind_token t u a b c d (cc) (fronts a b c d (cc))

-- a text goes on past the first token with which none goes on
past_it : {finish : ℕ} {ts : List Token} {p q : ℕ} (x : IsUnexpected finish ts p) (y : IsUnexpected finish ts q)
    → GoesInto x.before x.rest y.before y.rest → ⊥
past_it x y g =
    let other : List Token = g.token ∷ (g.middle ++ y.more) in
    let same : y.before ++ y.more ≡ x.before ++ other =
    ap (λ (l : List Token). l ++ y.more) g.longer ∙ append_assoc x.before (g.token ∷ g.middle) y.more in
    let agrees : Agrees x.rest other = subst (λ (l : List Token). Agrees l other) (sym g.behind) same_first in
    x.stops other agrees y.tree (subst (λ (l : List Token). Derives Expression l [] y.tree) same y.goes_on)

place_by : {finish : ℕ} {ts : List Token} {p q : ℕ} (x : IsUnexpected finish ts p) (y : IsUnexpected finish ts q)
    → Fronts x.before x.rest y.before y.rest → p ≡ q
place_by {finish} x y (same_front h) = x.here ∙ ap (place_at finish) h ∙ sym y.here
place_by x y (first_shorter g) = absurd (past_it x y g)
place_by x y (second_shorter g) = absurd (past_it y x g)

pub one_place : {finish : ℕ} {ts : List Token} {p q : ℕ} → IsUnexpected finish ts p → IsUnexpected finish ts q → p ≡ q
one_place x y = place_by x y (fronts x.before x.rest y.before y.rest (sym x.tokens ∙ y.tokens))
