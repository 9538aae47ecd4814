-- What is read is in the grammar and within the limits, and what is too deep exceeds them.
use Rattle.std.proofs.Common.{◌≡◌, ℕ, zero, suc, ◌+◌, ◌≤◌, List, ◌∷◌, Some, Ok, refl, sym, ap, subst, ◌∙◌, inl, inr, arith}
use Rattle.std.specs.Prelude.{max, ◌⊎◌}
use Rattle.cel_lex.specs.declared.token.TokenKind.TheVariants as kind
use Rattle.cel_lex.specs.declared.token.Token.{Token}
use Rattle.cel_parse.specs.declared.tree.Joint.{Joint}
use Rattle.cel_parse.specs.declared.tree.Tree.{Tree}
use Rattle.cel_parse.specs.Grammar.{Expression, ConditionalOr, Joins, Derives, whole, chosen}
use Rattle.cel_parse.specs.Limits.{depth, open_after, nests, whole_text, behind, Conditionals, no_conditional, conditional_more}
use Rattle.cel_parse.specs.Limits.{brackets as too_many, conditionals}
use Rattle.cel_parse.specs.Descent.{◌>>=◌, Found, Reader, unexpected as not_expected, head_if, is_question, is_colon, if_at}
use Rattle.cel_parse.specs.Descent.{operator_at, joined, join, picked, operators, conditional_at, expression}
use Rattle.cel_parse.proofs.Depths.{depth-binary, depth-conditional}
use Rattle.cel_parse.proofs.Spans.{nests_ge, joint_plain}
use Rattle.cel_parse.proofs.Steps.{head_cases, operator_cases, question_is, colon_is, part, one_operand, two_operands}
use Rattle.cel_parse.proofs.Told.{Told, found, exceeded, unexpected, Over, exceeds, over_from, over_behind, told_then}
use Rattle.cel_parse.proofs.Told.{told_past, told_node}
use Rattle.cel_parse.proofs.PartsTold.{behind_plain, from_plain, within_then, two_deep, three_deep, Tells, Longer, TellsLonger}
use Rattle.cel_parse.proofs.PartsTold.{ToldPast, on_plain, plain, read_told}
use Rattle.cel_parse.proofs.SignsTold.{unary_told}

module _ (source : List ℕ) (inner : Reader) (brackets opened : ℕ) (room : opened + brackets ≡ 100) (few : opened ≤ 100)
    (inner_told : (ts : List Token) → Told (Over source (opened + 1) ts) (Derives Expression) (depth source) (opened + 1) (opened + 1) ts
    (inner ts)) where
  -- an operator and its right operand
  module _ (operand : Reader) (n : ℕ) (operand_told : (ts : List Token) → Tells source opened (part n) ts (operand ts)) where
    right_told : (ts mid : List Token) (t : Token) (o : Joint) (left : Tree) (deep : ℕ) → Derives (part (suc n)) ts (t ∷ mid) left
        → Joins t o (suc n) → deep ≡ depth source left → nests opened ts ≤ max 100 (nests opened (t ∷ mid))
        → TellsLonger source opened (part (suc n)) ts deep
        (join operand (o, t.start, mid) (record { what = left; deep = deep; rest = t ∷ mid }))
    unfolding joined
    right_told ts mid t o left deep d j e w =
        let same = ap (open_after opened) j.kind ∙ joint_plain o opened in
        told_then _ (operand_told mid) (λ x. over_behind d (over_from (behind whole_text) (from_plain opened t mid same) x))
        (λ right q r.
        let size = depth-binary source t.start o left right.what in
        told_node {D = λ us rest e. Longer source (part (suc n)) ts deep rest e} (max deep right.deep) (two_operands n d j r.derives)
        (two_operands n d j r.derives, omega arith) (two_deep _ _ _ _ e r.deep ∙ sym size) few
        (within_then _ _ _ w (within_then _ _ _ (behind_plain opened t mid few same) r.within)) (λ x. x))

    join_told : (ts : List Token) (left : Tree) (deep : ℕ) → deep ≡ depth source left → deep ≤ 100 → (rest : List Token)
        → Derives (part (suc n)) ts rest left → nests opened ts ≤ max 100 (nests opened rest) → (x : Joint × ℕ × List Token)
        → operator_at (suc n) rest ≡ Some x
        → TellsLonger source opened (part (suc n)) ts deep (join operand x (record { what = left; deep = deep; rest = rest }))
    join_told ts left deep e le =
        operator_cases (suc n)
        (λ us o. Derives (part (suc n)) ts us left → nests opened ts ≤ max 100 (nests opened us) → (x : Joint × ℕ × List Token)
        → o ≡ Some x → TellsLonger source opened (part (suc n)) ts deep (join operand x (record { what = left; deep = deep; rest = us })))
        (λ us d w x h. absurd cc)
        (λ t o mid j d w x h. subst (λ (y : Joint × ℕ × List Token). TellsLonger source opened (part (suc n)) ts deep
        (join operand y (record { what = left; deep = deep; rest = t ∷ mid }))) (let s : (o, t.start, mid) ≡ x = cc in s)
        (right_told ts mid t o left deep d j e w))

  operators_told : (n : ℕ) (ts : List Token) → Tells source opened (part n) ts (operators inner source brackets n ts)
  unfolding operators
  operators_told zero ts = unary_told source inner brackets opened room few inner_told ts
  operators_told (suc n) ts =
      read_told source opened few (part (suc n)) (operator_at (suc n)) (join (operators inner source brackets n))
      (join_told (operators inner source brackets n) n (operators_told n)) ts (operators_told n ts) (λ rest e d. one_operand n d)

  abbrev Chosen : ℕ → List Token → Type 0
  Chosen turns ts = Over source opened ts ⊎ Conditionals turns ts

  -- what follows "?" and ":" of a conditional
  module _ (turns : ℕ)
      (last_told : (ts : List Token) → ToldPast source opened (Chosen turns ts) Expression ts
      (conditional_at inner source brackets turns ts)) where
    no_told : {ts mid last : List Token} {q k : Token} (c a : Found Tree) → Derives ConditionalOr ts (q ∷ mid) c.what
        → q.kind ≡ kind.Question → Derives ConditionalOr mid (k ∷ last) a.what → k.kind ≡ kind.Colon
        → c.deep ≡ depth source c.what → a.deep ≡ depth source a.what → nests opened ts ≤ max 100 (nests opened (q ∷ mid))
        → nests opened mid ≤ max 100 (nests opened (k ∷ last))
        → ToldPast source opened (Chosen (suc turns) ts) Expression ts
        (conditional_at inner source brackets turns last >>= picked q.start c a)
    no_told {ts} {mid} {last} {q} {k} c a dc hq da hk ec ea wc wa =
        told_then _ (last_told last)
        (λ x. elim x [
          | inl y ↦
              inl
              (over_behind dc
              (over_from (behind whole_text) (on_plain opened q mid hq refl)
              (over_behind da (over_from (behind whole_text) (on_plain opened k last hk refl) y))))
          | inr y ↦ inr (conditional_more dc hq da hk y)
        ])
        (λ b e r. told_node (max c.deep (max a.deep b.deep)) (chosen dc hq da hk r.derives) (chosen dc hq da hk r.derives)
        (three_deep _ _ _ _ _ _ ec ea r.deep ∙ sym (depth-conditional source _ _ _ _)) few
        (within_then _ _ _ wc
        (within_then _ _ _ (plain opened few q mid hq refl)
        (within_then _ _ _ wa (within_then _ _ _ (plain opened few k last hk refl) r.within)))) inl)

    yes_told : {ts mid : List Token} {q : Token} (c : Found Tree) (tree : Tree) (deep : ℕ) → Derives ConditionalOr ts (q ∷ mid) c.what
        → q.kind ≡ kind.Question → c.deep ≡ depth source c.what → deep ≡ depth source tree
        → nests opened ts ≤ max 100 (nests opened (q ∷ mid)) → (rest : List Token) → Derives ConditionalOr mid rest tree
        → nests opened mid ≤ max 100 (nests opened rest) → ToldPast source opened (Chosen (suc turns) ts) Expression ts
        (if_at (head_if is_colon rest) (not_expected source rest)
        (λ k. conditional_at inner source brackets turns k.1 >>= picked q.start c (record { what = tree; deep = deep; rest = rest })))
    yes_told {ts} {mid} {q} c tree deep dc hq ec ea wc =
        head_cases is_colon
        (λ us x. Derives ConditionalOr mid us tree → nests opened mid ≤ max 100 (nests opened us)
        → ToldPast source opened (Chosen (suc turns) ts) Expression ts
        (if_at x (not_expected source us)
        (λ k. conditional_at inner source brackets turns k.1 >>= picked q.start c (record { what = tree; deep = deep; rest = us }))))
        (λ us d w. unexpected)
        (λ k last h d w. no_told c (record { what = tree; deep = deep; rest = k ∷ last }) dc hq d (colon_is k.kind h) ec ea wc w)

    test_told : {ts : List Token} (tree : Tree) (deep : ℕ) → deep ≡ depth source tree → deep ≤ 100 → (rest : List Token)
        → Derives ConditionalOr ts rest tree → nests opened ts ≤ max 100 (nests opened rest) → ToldPast source opened
        (Chosen (suc turns) ts) Expression ts
        (if_at (head_if is_question rest) (Ok (record { what = tree; deep = deep; rest = rest }))
        (λ q. operators inner source brackets 5 q.1 >>= λ a. if_at (head_if is_colon a.rest) (not_expected source a.rest)
        (λ k. conditional_at inner source brackets turns k.1 >>= picked q.0 (record { what = tree; deep = deep; rest = rest }) a)))
    test_told {ts} tree deep e le =
        head_cases is_question
        (λ us x. Derives ConditionalOr ts us tree → nests opened ts ≤ max 100 (nests opened us)
        → ToldPast source opened (Chosen (suc turns) ts) Expression ts
        (if_at x (Ok (record { what = tree; deep = deep; rest = us }))
        (λ q. operators inner source brackets 5 q.1 >>= λ a. if_at (head_if is_colon a.rest) (not_expected source a.rest)
        (λ k. conditional_at inner source brackets turns k.1 >>= picked q.0 (record { what = tree; deep = deep; rest = us }) a))))
        (λ us d w. found (record { derives = whole d; deep = e; shallow = le; few = few; within = w }))
        (λ q mid h d w.
        let hq = question_is q.kind h in
        told_then _ (operators_told 5 mid) (λ x. inl (over_behind d (over_from (behind whole_text) (on_plain opened q mid hq refl) x)))
        (λ a f r. yes_told (record { what = tree; deep = deep; rest = q ∷ mid }) a.what a.deep d hq e r.deep w a.rest r.derives r.within))

  conditional_told : (turns : ℕ) (ts : List Token)
      → ToldPast source opened (Chosen turns ts) Expression ts (conditional_at inner source brackets turns ts)
  unfolding conditional_at
  conditional_told zero ts = exceeded (inr no_conditional)
  conditional_told (suc turns) ts =
      told_then _ (operators_told 5 ts) inl
      (λ c e r. test_told turns (conditional_told turns) c.what c.deep r.deep r.shallow c.rest r.derives r.within)

chosen_past : {source : List ℕ} {n : ℕ} (ts : List Token) → Over source n ts ⊎ Conditionals 100 ts → Over source n ts
chosen_past ts (inl x) = x
chosen_past ts (inr c) = exceeds (conditionals whole_text c)

-- an expression with brackets open in front of it
pub expression_told : (source : List ℕ) (brackets opened : ℕ) → opened + brackets ≡ 101 → (ts : List Token)
    → Told (Over source opened ts) (Derives Expression) (depth source) opened opened ts (expression source brackets ts)
unfolding expression
expression_told source zero opened e ts = let least = nests_ge opened ts in exceeded (exceeds (too_many (omega arith)))
expression_told source (suc brackets) opened e ts =
    told_past (chosen_past ts)
    (conditional_told source (expression source brackets) brackets opened (omega arith) (omega arith)
    (expression_told source brackets (opened + 1) (omega arith)) 100 ts)
