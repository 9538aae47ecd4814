-- What reads after signs is a stage: it reads the same if the text goes on in another way.
use Rattle.std.proofs.Common.{◌≡◌, ℕ, zero, suc, ◌+◌, ◌<◌, ◌≤◌, true, false, List, [], ◌∷◌, ◌++◌, length, Option, Some, None}
use Rattle.std.proofs.Common.{Result, Ok, refl, sym, ap, subst, ◌∙◌, arith}
use Rattle.std.proofs.lemmas.List.{length-append}
use Rattle.cel_lex.specs.declared.token.Infix.TheVariants as op
use Rattle.cel_lex.specs.declared.token.TokenKind.{TokenKind}
use Rattle.cel_lex.specs.declared.token.TokenKind.TheVariants as kind
use Rattle.cel_lex.specs.declared.token.Token.{Token}
use Rattle.cel_value.specs.declared.expr.UnaryOperator.{UnaryOperator}
use Rattle.cel_value.specs.declared.expr.UnaryOperator.TheVariants.{Not, Negate}
use Rattle.cel_parse.specs.declared.fault.ParseFault.{ParseFault}
use Rattle.cel_parse.specs.declared.tree.Tree.{Tree, Number as number, Unary as unary}
use Rattle.cel_parse.specs.Grammar.{Expression, Unary, Nots, Minuses, Member, IsLone, Derives, bare, nots, minuses, not_one}
use Rattle.cel_parse.specs.Grammar.{not_more, negative, minus_one, minus_more, alone, int}
use Rattle.cel_parse.specs.Trees.{Agrees, both_end, same_first}
use Rattle.cel_parse.specs.Descent.{◌>>=◌, Found, Reader, leaf, head_if, is_bang, is_minus, number_of, number_at, suffix_at}
use Rattle.cel_parse.specs.Descent.{lone_at, if_at, go_on_member, more, member, wrapped, nots_at, minuses_at, unary_at}
use Rattle.cel_parse.proofs.Steps.{bang_is, minus_is, more_ends}
use Rattle.cel_parse.proofs.Told.{Relation}
use Rattle.cel_parse.proofs.Stages.{IsStage, Front, nothing, first, behind_front, Stage, again, gave_up, stage_then, stage_node}
use Rattle.cel_parse.proofs.Stages.{stuck, stage_behind, stage_map, stage_like, stage_front, stage_head, suffix_none}
use Rattle.cel_parse.proofs.Endings.{from_first, from_end}
use Rattle.cel_parse.proofs.PrimaryStages.{primary_by_kind}
use Rattle.cel_parse.proofs.MemberStages.{more_member_stage, member_stage}

-- another first token than a number
no_number : (t : Token) (from rest : List Token) (k : TokenKind) → t.kind ≡ k → ((n : ℕ) → k ≡ kind.Int n → ⊥)
    → ¬ (IsLone (t ∷ from) rest)
no_number t from rest k q no_int l =
    let same : t ≡ l.token = (let a = l.alone in cc) in
    let h : t.kind ≡ l.token.kind = ap (λ (x : Token). x.kind) same in
    let i = l.kind in
    no_int l.magnitude (sym q ∙ h ∙ i)

-- two tokens or more
not_lone : (from rest : List Token) → length rest + 1 < length from → ¬ (IsLone from rest)
not_lone from rest lt l = let e : length from ≡ suc (length rest) = ap length l.alone in omega arith

-- a text is no shorter with what is in front of it
front_longer : (F : Front) (rest : List Token) → length rest ≤ length (F.onto rest)
front_longer F rest =
    let e : length (F.onto rest) ≡ length (F.onto [] ++ rest) = ap length (F.before rest) in
    let s = length-append (F.onto []) rest in omega arith

module _ (source : List ℕ) (inner : Reader) (brackets : ℕ)
    (inner_stage : (us : List Token) → Stage (length source) (Derives Expression) inner us (inner us)) where
  abbrev finish : ℕ
  finish = length source

  -- a sign and its operand
  sign_stage : {D D' : Relation Tree} {K : Reader} {us : List Token} (place : ℕ) (o : UnaryOperator) → IsStage finish D K us
      → ((from rest : List Token) (e : Tree) → D from rest e → D' from rest (unary place o e))
      → IsStage finish D' (λ ws. K ws >>= wrapped place o) us
  sign_stage place o s rule =
      stage_then finish (wrapped place o) nothing (λ e. unary place o e) s rule
      (λ f F d. stage_node finish (unary place o f.what) f.deep f.rest (λ rest. rule (F.onto rest) rest f.what (d rest)))

  nots_stage : (turns : ℕ) (t : Token) (us : List Token) → t.kind ≡ kind.Bang
      → IsStage finish (λ ws rest e. Derives Nots (t ∷ ws) rest e) (λ ws. nots_at inner source brackets turns ws >>= wrapped t.start Not) us
  unfolding nots_at
  nots_stage zero t us q = gave_up
  nots_stage (suc turns) t us q =
      stage_head finish (λ ws r. r >>= wrapped t.start Not) (member inner source brackets) is_bang
      (λ place ws. nots_at inner source brackets turns ws >>= wrapped place Not)
      (λ vs h. sign_stage t.start Not (member_stage source inner brackets inner_stage vs) (λ from rest e d. not_one q d))
      (λ u vs h. sign_stage t.start Not (nots_stage turns u vs (bang_is u.kind h)) (λ from rest e d. not_more q d))
      us

  -- whether tokens in front are one number
  data IsNumber (pre : List Token) : Type 0 where
    one_number : (n : Token) (m : ℕ) → pre ≡ n ∷ [] → n.kind ≡ kind.Int m → IsNumber pre
    no_lone : ((rest : List Token) → ¬ (IsLone (pre ++ rest) rest)) → IsNumber pre

  number_by : (k : TokenKind) (t : Token) → t.kind ≡ k → IsNumber (t ∷ [])
  number_by (kind.Int m) t q = one_number t m refl q
  number_by k t q = no_lone (λ rest. no_number t rest rest k q (λ n e. cc))

  number_or_not : (pre : List Token) → IsNumber pre
  number_or_not [] = no_lone (λ rest l. let e : length rest ≡ suc (length rest) = ap length l.alone in omega arith)
  number_or_not (t ∷ []) = number_by t.kind t refl
  number_or_not (t ∷ u ∷ pre) =
      no_lone (λ rest. not_lone (t ∷ u ∷ (pre ++ rest)) rest (let s = length-append pre rest in omega arith))

  abbrev Single : Front → List Token → Found Tree → Type 0
  Single P us f =
      (F : Front) → F.onto f.rest ≡ us → (n : Token) (m : ℕ) → P.onto (F.onto []) ≡ n ∷ [] → n.kind ≡ kind.Int m → ⊥

  -- the operand of a "-", if what was read is no number alone
  module _ (t : Token) (q : t.kind ≡ kind.Operator op.Subtract) (P : Front) (K : Reader) (us : List Token) where
    operand_by : (f : Found Tree) (F : Front) → ((rest : List Token) → Derives Member (P.onto (F.onto rest)) rest f.what)
        → IsNumber (P.onto (F.onto [])) → ((n : Token) (m : ℕ) → P.onto (F.onto []) ≡ n ∷ [] → n.kind ≡ kind.Int m → ⊥)
        → (rest : List Token) → Derives Minuses (t ∷ P.onto (F.onto rest)) rest (unary t.start Negate f.what)
    operand_by f F d (one_number n m e k) single rest = absurd (single n m e k)
    operand_by f F d (no_lone h) single rest =
        minus_one q (λ l. h rest (subst (λ x. IsLone x rest) ((behind_front P F).before rest) l)) (d rest)

    ended_minus : (F C : Front) (e : Tree) → ((rest : List Token) → Derives Member (P.onto (F.onto (C.onto rest))) rest e)
        → IsNumber (P.onto (F.onto (C.onto [])))
        → (x : Tree) × ((rest : List Token) → Derives Minuses (t ∷ P.onto (F.onto (C.onto rest))) rest x)
    ended_minus F C e d (one_number n m h k) = (
      number t.start true m,
      λ rest. subst (λ x. Derives Minuses (t ∷ x) rest (number t.start true m))
          (sym ((behind_front P (behind_front F C)).before rest ∙ ap (λ (x : List Token). x ++ rest) h)) (negative q k),
    )
    ended_minus F C e d (no_lone h) = (
      unary t.start Negate e,
      λ rest. minus_one q
          (λ l. h rest (subst (λ x. IsLone x rest) ((behind_front P (behind_front F C)).before rest) l)) (d rest),
    )

    minus_wrap : {r : Result (Found Tree) ParseFault} → Stage finish (λ ws rest e. Derives Member (P.onto ws) rest e) K us r
        → ((f : Found Tree) → r ≡ Ok f → Single P us f) → Stage finish (λ ws rest e. Derives Minuses (t ∷ P.onto ws) rest e)
        (λ ws. K ws >>= wrapped t.start Negate) us (r >>= wrapped t.start Negate)
    minus_wrap (again {f} F e d k) single =
        stage_behind finish us (λ ws. K ws >>= wrapped t.start Negate) F e
        (λ rest a. ap (λ (o : Result (Found Tree) ParseFault). o >>= wrapped t.start Negate) (k rest a))
        (stage_node finish (unary t.start Negate f.what) f.deep f.rest
        (operand_by f F d (number_or_not (P.onto (F.onto []))) (single f refl F e)))
    minus_wrap gave_up single = gave_up
    minus_wrap (stuck F w C e z p d k) single =
        let x = ended_minus F C e d (number_or_not (P.onto (F.onto (C.onto [])))) in
        stuck F w C x.0 z p x.1 (λ rest a. ap (λ (o : Result (Found Tree) ParseFault). o >>= wrapped t.start Negate) (k rest a))

  front_token : (F : Front) (n : Token) (rest : List Token) → F.onto [] ≡ n ∷ [] → F.onto rest ≡ n ∷ rest
  front_token F n rest h = F.before rest ∙ ap (λ (x : List Token). x ++ rest) h

  -- after the last "-"
  module _ (t : Token) (q : t.kind ≡ kind.Operator op.Subtract) where
    abbrev M : Reader
    M ws = if_at (lone_at ws) (member inner source brackets ws >>= wrapped t.start Negate) (λ n. leaf (number t.start true n.0) n.1)

    abbrev M_by : Option (ℕ × List Token) → Reader
    M_by o ws =
        if_at (if_at o None (λ n. if_at (suffix_at n.1) (Some n) (λ s. None)))
        (member inner source brackets ws >>= wrapped t.start Negate) (λ n. leaf (number t.start true n.0) n.1)

    no_first : (us : List Token) → number_at us ≡ None → (f : Found Tree) → Single nothing us f
    no_first us h f F e n m z k =
        let first_is : us ≡ n ∷ f.rest = sym e ∙ front_token F n f.rest z in
        let num : number_at us ≡ Some (m, f.rest) = ap number_at first_is ∙ ap (λ (j : TokenKind). number_of j f.rest) k in
        cc

    other_last : (us : List Token) → number_at us ≡ None → ((vs : List Token) → Agrees us vs → number_at vs ≡ None)
        → IsStage finish (λ ws rest e. Derives Minuses (t ∷ ws) rest e) M us
    other_last us h same =
        stage_like finish M (λ ws. member inner source brackets ws >>= wrapped t.start Negate) us
        (λ vs a. ap (λ (o : Option (ℕ × List Token)). M_by o vs) (same vs a))
        (minus_wrap t q nothing (member inner source brackets) us (member_stage source inner brackets inner_stage us)
        (λ f e. no_first us h f))

    -- a number first
    module _ (n : Token) (m : ℕ) (h : n.kind ≡ kind.Int m) where
      abbrev N : Reader
      N ws =
          if_at {A = ℕ × List Token} (if_at (suffix_at ws) (Some (m, ws)) (λ s. None))
          (member inner source brackets (n ∷ ws) >>= wrapped t.start Negate) (λ x. leaf (number t.start true x.0) x.1)

      reads : (ws : List Token) → M (n ∷ ws) ≡ N ws
      reads ws = ap (λ (k : TokenKind). M_by (number_of k ws) (n ∷ ws)) h

      behind_number : Reader
      behind_number ws =
          more suffix_at (go_on_member inner source brackets) 100 (record { what = number n.start false m; deep = 1; rest = ws })

      member_is : (ws : List Token) → member inner source brackets (n ∷ ws) ≡ behind_number ws
      unfolding member behind_number
      member_is ws =
          ap (λ (r : Result (Found Tree) ParseFault). r >>= more suffix_at (go_on_member inner source brackets) 100)
          (primary_by_kind source inner brackets inner_stage (kind.Int m) n ws h)

      behind_ends : (us : List Token) (f : Found Tree) → behind_number us ≡ Ok f → suffix_at f.rest ≡ None
      unfolding behind_number
      behind_ends us f e = more_ends suffix_at (go_on_member inner source brackets) 100 _ f e

      behind_stage : (us : List Token) → IsStage finish (λ ws rest e. Derives Member (n ∷ ws) rest e) behind_number us
      unfolding behind_number
      behind_stage us =
          more_member_stage source inner brackets inner_stage 100 (first n nothing) (number n.start false m) 1 (λ rest. alone (int h)) us

      lone_last : (us : List Token) → suffix_at us ≡ None → IsStage finish (λ ws rest e. Derives Minuses (t ∷ n ∷ ws) rest e) N us
      lone_last us z =
          stage_like finish N (leaf (number t.start true m)) us
          (λ vs a. ap (λ (o : Option (Rattle.cel_parse.specs.declared.heads.Suffix.Suffix × ℕ × List Token)). if_at {A = ℕ × List Token}
          (if_at o (Some (m, vs)) (λ s. None)) (member inner source brackets (n ∷ vs) >>= wrapped t.start Negate)
          (λ x. leaf (number t.start true x.0) x.1)) (suffix_none finish us vs a z))
          (again nothing refl (λ rest. negative q h) (λ rest a. refl))

      still_suffixed : (o p : Option (Rattle.cel_parse.specs.declared.heads.Suffix.Suffix × ℕ × List Token)) (ws : List Token)
          → (o ≡ None → ⊥) → if_at {A = ℕ × List Token} (if_at o (Some (m, ws)) (λ s. None))
          (member inner source brackets (n ∷ ws) >>= wrapped t.start Negate) (λ x. leaf (number t.start true x.0) x.1)
          ≡ (behind_number ws >>= wrapped t.start Negate)
      still_suffixed None p ws z = absurd (z refl)
      still_suffixed (Some x) p ws z = ap (λ (r : Result (Found Tree) ParseFault). r >>= wrapped t.start Negate) (member_is ws)

      agrees_back : (us vs : List Token) → Agrees us vs → Agrees vs us
      agrees_back us vs both_end = both_end
      agrees_back us vs same_first = same_first

      suffixed_last : (us : List Token) → (suffix_at us ≡ None → ⊥)
          → IsStage finish (λ ws rest e. Derives Minuses (t ∷ n ∷ ws) rest e) N us
      suffixed_last us z =
          stage_like finish N (λ ws. behind_number ws >>= wrapped t.start Negate) us
          (λ vs a. still_suffixed (suffix_at vs) None vs (λ e. z (suffix_none finish vs us (agrees_back us vs a) e)))
          (minus_wrap t q (first n nothing) behind_number us (behind_stage us)
          (λ f e F w k j y i. z (ap suffix_at (sym w ∙ F.before f.rest ∙ ap (λ (x : List Token). x ++ f.rest) (empty F y))
          ∙ behind_ends us f e)))
        where
          empty : (F : Front) {k : Token} → n ∷ F.onto [] ≡ k ∷ [] → F.onto [] ≡ []
          empty F y = let e = y in cc

      number_last : (us : List Token) (o : Option (Rattle.cel_parse.specs.declared.heads.Suffix.Suffix × ℕ × List Token))
          → suffix_at us ≡ o → IsStage finish (λ ws rest e. Derives Minuses (t ∷ ws) rest e) M (n ∷ us)
      number_last us None z = stage_front finish n M N us reads (lone_last us z)
      number_last us (Some x) z = stage_front finish n M N us reads (suffixed_last us (λ e. let f : None ≡ Some x = sym e ∙ z in cc))

    last_by : (k : TokenKind) (u : Token) (us : List Token) → u.kind ≡ k
        → IsStage finish (λ ws rest e. Derives Minuses (t ∷ ws) rest e) M (u ∷ us)
    last_by (kind.Int m) u us h = number_last u m h us (suffix_at us) refl
    last_by k u us h =
        other_last (u ∷ us) (ap (λ (j : TokenKind). number_of j us) h)
        (from_first (λ vs. number_at vs ≡ None) (λ ws. ap (λ (j : TokenKind). number_of j ws) h))

    last_stage : (us : List Token) → IsStage finish (λ ws rest e. Derives Minuses (t ∷ ws) rest e) M us
    last_stage [] = other_last [] refl (from_end (λ vs. number_at vs ≡ None) refl)
    last_stage (u ∷ us) = last_by u.kind u us refl

  minuses_stage : (turns : ℕ) (t : Token) (us : List Token) → t.kind ≡ kind.Operator op.Subtract
      → IsStage finish (λ ws rest e. Derives Minuses (t ∷ ws) rest e) (minuses_at inner source brackets turns t.start) us
  unfolding minuses_at
  minuses_stage zero t us q = gave_up
  minuses_stage (suc turns) t us q =
      stage_head finish (λ ws r. r)
      (λ ws. if_at (lone_at ws) (member inner source brackets ws >>= wrapped t.start Negate) (λ n. leaf (number t.start true n.0) n.1))
      is_minus
      (λ place ws. minuses_at inner source brackets turns place ws >>= wrapped t.start Negate)
      (λ vs h. last_stage t q vs)
      (λ u vs h. sign_stage t.start Negate (minuses_stage turns u vs (minus_is u.kind h)) (λ from rest e d. minus_more q d))
      us

  pub unary_stage : (us : List Token) → IsStage finish (Derives Unary) (unary_at inner source brackets) us
  unfolding unary_at
  unary_stage =
      stage_head finish (λ ws r. r)
      (λ ws. if_at (head_if is_minus ws) (member inner source brackets ws) (λ x. minuses_at inner source brackets 100 x.0 x.1)) is_bang
      (λ place ws. nots_at inner source brackets 100 ws >>= wrapped place Not)
      (λ vs h. stage_head finish (λ ws r. r) (member inner source brackets) is_minus (minuses_at inner source brackets 100)
      (λ ws i. stage_map finish (λ from rest e d. bare d) (member_stage source inner brackets inner_stage ws))
      (λ u ws i. stage_map finish (λ from rest e d. minuses d) (minuses_stage 100 u ws (minus_is u.kind i))) vs)
      (λ u vs h. stage_map finish (λ from rest e d. nots d) (nots_stage 100 u vs (bang_is u.kind h)))
