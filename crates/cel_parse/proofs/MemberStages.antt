-- What reads a member is a stage: it reads the same if the text goes on in another way.
use Rattle.std.proofs.Common.{◌≡◌, ℕ, zero, suc, true, List, ◌∷◌, length, Result, Ok, Err, refl, sym}
use Rattle.std.specs.Prelude.{max}
use Rattle.cel_lex.specs.declared.token.TokenKind.TheVariants as kind
use Rattle.cel_lex.specs.declared.token.Token.{Token}
use Rattle.cel_parse.specs.declared.fault.ParseFault.{ParseFault}
use Rattle.cel_parse.specs.declared.fault.ParseFault.TheVariants.{Unexpected}
use Rattle.cel_parse.specs.declared.heads.Closer.TheVariants as closer
use Rattle.cel_parse.specs.declared.heads.Suffix.TheVariants as suffix
use Rattle.cel_parse.specs.declared.tree.Tree.{Tree, Select as select, Method as method_tree, Index as index}
use Rattle.cel_parse.specs.Grammar.{Expression, Member, is_selector, closes, Derives, alone, selected, method_called, indexed}
use Rattle.cel_parse.specs.Grammar.{place_at}
use Rattle.cel_parse.specs.Descent.{◌>>=◌, Found, Reader, node, head_if, is_open, suffix_at, if_at, closed, items as items_at}
use Rattle.cel_parse.specs.Descent.{method as method_at, indexed as indexed_at, suffixed, go_on_member, more, member}
use Rattle.cel_parse.proofs.Steps.{open_is, bracket_is}
use Rattle.cel_parse.proofs.Stages.{IsStage, Front, nothing, first, behind_front, Stage, again, gave_up, stage_then, stage_node}
use Rattle.cel_parse.proofs.Stages.{stage_stuck, stage_at, stage_same, stage_head, stage_suffix}
use Rattle.cel_parse.proofs.Endings.{a_name}
use Rattle.cel_parse.proofs.PrimaryStages.{list_stage, inside_stage, primary_stage}

module _ (source : List ℕ) (inner : Reader) (brackets : ℕ)
    (inner_stage : (us : List Token) → Stage (length source) (Derives Expression) inner us (inner us)) where
  abbrev finish : ℕ
  finish = length source

  -- what goes on a member
  module _ (F : Front) (left : Tree) (deep : ℕ) (member_left : (rest : List Token) → Derives Member (F.onto rest) rest left) where
    abbrev at_left : List Token → Found Tree
    at_left ws = record { what = left; deep = deep; rest = ws }

    index_stage : (o : Token) (us : List Token) → o.kind ≡ kind.OpenBracket → IsStage finish
        (λ ws rest e. Derives Member (F.onto (o ∷ ws)) rest e)
        (λ ws. inner ws >>= λ i. closed source closer.Bracket i >>= indexed_at o.start (at_left (o ∷ ws))) us
    unfolding indexed_at
    index_stage o us q =
        stage_same' (stage_then finish (λ i. node (index o.start left i.what) (max deep i.deep) i.rest) nothing (λ i. index o.start left i)
        (inside_stage source inner brackets inner_stage
        {D = λ ws rest e. (k : Token) × (closes closer.Bracket k.kind ≡ true) × Derives Expression ws (k ∷ rest) e} closer.Bracket
        (λ k from rest e h d. (k, h, d)) us)
        (λ from rest e x. indexed (member_left (o ∷ from)) q x.2 (bracket_is x.0.kind x.1))
        (λ f E x. stage_node finish (index o.start left f.what) (max deep f.deep) f.rest
        (λ rest. indexed (member_left (o ∷ E.onto rest)) q (x rest).2 (bracket_is (x rest).0.kind (x rest).1))))
      where
        regroup : (r : Result (Found Tree) ParseFault)
            → ((r >>= closed source closer.Bracket) >>= λ i. node (index o.start left i.what) (max deep i.deep) i.rest)
            ≡ (r >>= λ i. closed source closer.Bracket i >>= λ i. node (index o.start left i.what) (max deep i.deep) i.rest)
        regroup (Ok f) = refl
        regroup (Err f) = refl

        stage_same' : IsStage finish (λ ws rest e. Derives Member (F.onto (o ∷ ws)) rest e)
            (λ ws. (inner ws >>= closed source closer.Bracket) >>= λ i. node (index o.start left i.what) (max deep i.deep) i.rest) us
            → IsStage finish (λ ws rest e. Derives Member (F.onto (o ∷ ws)) rest e)
            (λ ws. inner ws >>= λ i. closed source closer.Bracket i >>= λ i. node (index o.start left i.what) (max deep i.deep) i.rest)
            us
        stage_same' s =
            stage_at finish (regroup (inner us))
            (stage_same finish
            (λ ws. inner ws >>= λ i. closed source closer.Bracket i >>= λ i. node (index o.start left i.what) (max deep i.deep) i.rest)
            (λ vs a. sym (regroup (inner vs))) s)

    method_stage : (d f : Token) (us : List Token) → d.kind ≡ kind.Dot → is_selector f.kind ≡ true → IsStage finish
        (λ ws rest e. Derives Member (F.onto (d ∷ f ∷ ws)) rest e)
        (λ ws. if_at (head_if is_open ws) (node (select f.start left) deep ws)
        (λ o. items_at inner source brackets closer.Parenthesis o.1 >>= λ g. node (method_tree f.start left g.what) (max deep g.deep)
        g.rest))
        us
    method_stage d f us q h =
        stage_head finish (λ ws r. r) (node (select f.start left) deep) is_open
        (λ place ws. items_at inner source brackets closer.Parenthesis ws >>= λ g. node (method_tree f.start left g.what) (max deep g.deep)
        g.rest)
        (λ vs z. stage_node finish (select f.start left) deep vs (λ rest. selected (member_left (d ∷ f ∷ rest)) q h))
        (λ o vs z. stage_then finish (λ g. node (method_tree f.start left g.what) (max deep g.deep) g.rest) nothing
        (λ es. method_tree f.start left es) (list_stage source inner brackets inner_stage closer.Parenthesis vs)
        (λ from rest es x. method_called (member_left (d ∷ f ∷ o ∷ from)) q h (open_is o.kind z) x)
        (λ g E x. stage_node finish (method_tree f.start left g.what) (max deep g.deep) g.rest
        (λ rest. method_called (member_left (d ∷ f ∷ o ∷ E.onto rest)) q h (open_is o.kind z) (x rest))))
        us

    dot_stage : (d : Token) (us : List Token) → d.kind ≡ kind.Dot → IsStage finish (λ ws rest e. Derives Member (F.onto (d ∷ ws)) rest e)
        (λ ws. suffixed inner source brackets suffix.Selector d.start (at_left (d ∷ ws)) ws) us
    unfolding suffixed method_at
    dot_stage d us q =
        stage_head finish (λ ws r. r) (λ ws. Err (Unexpected (place_at finish ws))) is_selector
        (λ place ws. if_at (head_if is_open ws) (node (select place left) deep ws)
        (λ o. items_at inner source brackets closer.Parenthesis o.1 >>= λ g. node (method_tree place left g.what) (max deep g.deep)
        g.rest))
        (λ vs h. stage_stuck finish vs (first a_name nothing) (select 0 left) (λ rest. selected (member_left (d ∷ a_name ∷ rest)) q refl))
        (λ f vs h. method_stage d f vs q h)
        us

  -- a member and what goes on it
  pub more_member_stage : (turns : ℕ) (F : Front) (left : Tree) (deep : ℕ)
      → ((rest : List Token) → Derives Member (F.onto rest) rest left) → (us : List Token) → Stage finish
      (λ ws rest e. Derives Member (F.onto ws) rest e)
      (λ ws. more suffix_at (go_on_member inner source brackets) turns (record { what = left; deep = deep; rest = ws })) us
      (more suffix_at (go_on_member inner source brackets) turns (record { what = left; deep = deep; rest = us }))
  unfolding more suffixed
  more_member_stage zero F left deep d us = gave_up
  more_member_stage (suc turns) F left deep d us =
      stage_suffix finish (λ ws. Ok (record { what = left; deep = deep; rest = ws }))
      (λ all x place ws. suffixed inner source brackets x place (record { what = left; deep = deep; rest = all }) ws >>= more suffix_at
      (go_on_member inner source brackets) turns)
      (λ vs h. again nothing refl d (λ rest a. refl))
      (λ t vs q. stage_then finish (more suffix_at (go_on_member inner source brackets) turns) nothing (λ e. e)
      (dot_stage F left deep d t vs q) (λ from rest e x. x)
      (λ f E x. more_member_stage turns (behind_front F (first t E)) f.what f.deep x f.rest))
      (λ t vs q. stage_then finish (more suffix_at (go_on_member inner source brackets) turns) nothing (λ e. e)
      (index_stage F left deep d t vs q) (λ from rest e x. x)
      (λ f E x. more_member_stage turns (behind_front F (first t E)) f.what f.deep x f.rest))
      us

  pub member_stage : (us : List Token) → IsStage finish (Derives Member) (member inner source brackets) us
  unfolding member
  member_stage us =
      stage_then finish (more suffix_at (go_on_member inner source brackets) 100) nothing (λ e. e)
      (primary_stage source inner brackets inner_stage us)
      (λ from rest e x. alone x)
      (λ f F x. more_member_stage 100 F f.what f.deep (λ rest. alone (x rest)) f.rest)
