-- What is read of a member is in the grammar and within the limits, and what is too deep exceeds them.
use Rattle.std.proofs.Common.{◌≡◌, ℕ, true, ◌+◌, ◌≤◌, List, ◌∷◌, Some, None, Ok, Err, refl, sym, ap, subst, ◌∙◌, arith, le_trans}
use Rattle.std.specs.Prelude.{max}
use Rattle.cel_lex.specs.declared.token.TokenKind.TheVariants as kind
use Rattle.cel_lex.specs.declared.token.Token.{Token}
use Rattle.cel_parse.specs.declared.heads.Closer.TheVariants as closer
use Rattle.cel_parse.specs.declared.heads.Suffix.{Suffix}
use Rattle.cel_parse.specs.declared.heads.Suffix.TheVariants as suffix
use Rattle.cel_parse.specs.declared.tree.Tree.{Tree}
use Rattle.cel_parse.specs.Grammar.{Expression, Member, is_selector, Derives, alone, selected, method_called, indexed}
use Rattle.cel_parse.specs.Limits.{depth, open_after, nests, whole_text, behind}
use Rattle.cel_parse.specs.Descent.{◌>>=◌, Found, Read, Reader, unexpected as not_expected, head_if, is_open, if_at, suffix_at}
use Rattle.cel_parse.specs.Descent.{closed, primary, items as items_at, method, indexed as indexed_at, suffixed, go_on_member}
use Rattle.cel_parse.specs.Descent.{more, member}
use Rattle.cel_parse.proofs.Depths.{depth-select, depth-method, depth-index}
use Rattle.cel_parse.proofs.Spans.{selector_plain}
use Rattle.cel_parse.proofs.Steps.{head_cases, suffix_cases, open_is, bracket_is, more_ends, bind_ok}
use Rattle.cel_parse.proofs.Told.{Told, unexpected, Over, over_from, over_behind, told_then, told_node}
use Rattle.cel_parse.proofs.PartsTold.{behind_plain, from_plain, within_then, two_deep, Tells, Longer, TellsLonger, on_plain}
use Rattle.cel_parse.proofs.PartsTold.{plain, read_told}
use Rattle.cel_parse.proofs.PrimariesTold.{inside_told, items_told, primary_told}

module _ (source : List ℕ) (inner : Reader) (brackets opened : ℕ) (room : opened + brackets ≡ 100) (few : opened ≤ 100)
    (inner_told : (ts : List Token) → Told (Over source (opened + 1) ts) (Derives Expression) (depth source) (opened + 1) (opened + 1) ts
    (inner ts)) where
  -- what goes on a member
  module _ (ts : List Token) (left : Tree) (deep : ℕ) (sz : deep ≡ depth source left) (le : deep ≤ 100) where
    abbrev at_left : List Token → Found Tree
    at_left us = record { what = left; deep = deep; rest = us }

    index_told : (o : Token) (us : List Token) → o.kind ≡ kind.OpenBracket → Derives Member ts (o ∷ us) left
        → nests opened ts ≤ max 100 (nests opened (o ∷ us))
        → TellsLonger source opened Member ts deep
        (inner us >>= λ i. closed source closer.Bracket i >>= indexed_at o.start (at_left (o ∷ us)))
    unfolding indexed_at
    index_told o us q d w =
        told_at (told_then _ (inside_told source inner brackets opened room few inner_told o (ap (open_after opened) q) closer.Bracket us)
        (over_behind d)
        (λ i e r.
        let x = r.derives in
        let size = depth-index source o.start left i.what in
        let rd = r.deep in
        told_node {D = λ us rest e. Longer source Member ts deep rest e} (max deep i.deep) (indexed d q x.2 (bracket_is x.0.kind x.1))
        (indexed d q x.2 (bracket_is x.0.kind x.1), omega arith) (two_deep _ _ _ _ sz r.deep ∙ sym size) few
        (within_then _ _ _ w r.within) (λ x. x)))
      where
        told_at : TellsLonger source opened Member ts deep
            ((inner us >>= closed source closer.Bracket) >>= indexed_at o.start (at_left (o ∷ us)))
            → TellsLonger source opened Member ts deep
            (inner us >>= λ i. closed source closer.Bracket i >>= indexed_at o.start (at_left (o ∷ us)))
        told_at x = subst (λ (r : Read). TellsLonger source opened Member ts deep r) (regroup (inner us)) x
          where
            regroup : (r : Read) → ((r >>= closed source closer.Bracket) >>= indexed_at o.start (at_left (o ∷ us)))
                ≡ (r >>= λ i. closed source closer.Bracket i >>= indexed_at o.start (at_left (o ∷ us)))
            regroup (Ok f) = refl
            regroup (Err f) = refl

    -- after the dot and the selector
    method_told : (d f o : Token) (us : List Token) → d.kind ≡ kind.Dot → is_selector f.kind ≡ true → o.kind ≡ kind.Open
        → Derives Member ts (d ∷ f ∷ o ∷ us) left → nests opened ts ≤ max 100 (nests opened (d ∷ f ∷ o ∷ us))
        → TellsLonger source opened Member ts deep
        (items_at inner source brackets closer.Parenthesis us >>= method f.start (at_left (d ∷ f ∷ o ∷ us)))
    unfolding method
    method_told d f o us q h z m w =
        told_then _ (items_told source inner brackets opened room few inner_told o (ap (open_after opened) z) closer.Parenthesis us)
        (λ x. over_behind m (over_from (behind (behind whole_text))
        (le_trans (from_plain opened f (o ∷ us) (selector_plain f.kind opened h)) (on_plain opened d (f ∷ o ∷ us) q refl)) x))
        (λ g e r.
        let size = depth-method source f.start left g.what in
        let rd = r.deep in
        told_node {D = λ us rest e. Longer source Member ts deep rest e} (max deep g.deep) (method_called m q h z r.derives)
        (method_called m q h z r.derives, omega arith) (two_deep _ _ _ _ sz r.deep ∙ sym size) few
        (within_then _ _ _ w (within_then _ _ _ (plain opened few d (f ∷ o ∷ us) q refl)
        (within_then _ _ _ (behind_plain opened f (o ∷ us) few (selector_plain f.kind opened h)) r.within))) (λ x. x))

    select_told : (d f : Token) (us : List Token) → d.kind ≡ kind.Dot → is_selector f.kind ≡ true
        → Derives Member ts (d ∷ f ∷ us) left → nests opened ts ≤ max 100 (nests opened (d ∷ f ∷ us))
        → TellsLonger source opened Member ts deep
        (if_at (head_if is_open us) (Rattle.cel_parse.specs.Descent.selected f.start (at_left (d ∷ f ∷ us)) us)
        (λ o. items_at inner source brackets closer.Parenthesis o.1 >>= method f.start (at_left (d ∷ f ∷ us))))
    select_told d f us q h =
        head_cases is_open
        (λ vs x. Derives Member ts (d ∷ f ∷ vs) left → nests opened ts ≤ max 100 (nests opened (d ∷ f ∷ vs))
        → TellsLonger source opened Member ts deep
        (if_at x (Rattle.cel_parse.specs.Descent.selected f.start (at_left (d ∷ f ∷ vs)) vs)
        (λ o. items_at inner source brackets closer.Parenthesis o.1 >>= method f.start (at_left (d ∷ f ∷ vs)))))
        (λ vs m w.
        let size = depth-select source f.start left in
        told_node {D = λ us rest e. Longer source Member ts deep rest e} deep (selected m q h) (selected m q h, omega arith)
        (ap (λ (n : ℕ). n + 1) sz ∙ sym size) few
        (within_then _ _ _ w (within_then _ _ _ (plain opened few d (f ∷ vs) q refl)
        (behind_plain opened f vs few (selector_plain f.kind opened h))))
        (λ x. x))
        (λ o vs z m w. method_told d f o vs q h (open_is o.kind z) m w)
        us

    dot_told : (d : Token) (us : List Token) → d.kind ≡ kind.Dot → Derives Member ts (d ∷ us) left
        → nests opened ts ≤ max 100 (nests opened (d ∷ us))
        → TellsLonger source opened Member ts deep (suffixed inner source brackets suffix.Selector d.start (at_left (d ∷ us)) us)
    unfolding suffixed
    dot_told d us q =
        head_cases is_selector
        (λ vs x. Derives Member ts (d ∷ vs) left → nests opened ts ≤ max 100 (nests opened (d ∷ vs))
        → TellsLonger source opened Member ts deep
        (if_at x (not_expected source vs)
        (λ s. if_at (head_if is_open s.1) (Rattle.cel_parse.specs.Descent.selected s.0 (at_left (d ∷ vs)) s.1)
        (λ o. items_at inner source brackets closer.Parenthesis o.1 >>= method s.0 (at_left (d ∷ vs))))))
        (λ vs m w. unexpected)
        (λ f vs h m w. select_told d f vs q h m w)
        us

    suffix_told : (rest : List Token) → Derives Member ts rest left → nests opened ts ≤ max 100 (nests opened rest)
        → (x : Suffix × ℕ × List Token) → suffix_at rest ≡ Some x
        → TellsLonger source opened Member ts deep (go_on_member inner source brackets x (at_left rest))
    unfolding suffixed
    suffix_told =
        suffix_cases
        (λ us o. Derives Member ts us left → nests opened ts ≤ max 100 (nests opened us) → (x : Suffix × ℕ × List Token) → o ≡ Some x
        → TellsLonger source opened Member ts deep (go_on_member inner source brackets x (at_left us)))
        (λ us h m w x e. absurd cc)
        (λ d us q m w x e. subst (λ (y : Suffix × ℕ × List Token). TellsLonger source opened Member ts deep
        (go_on_member inner source brackets y (at_left (d ∷ us)))) (let s : (suffix.Selector, d.start, us) ≡ x = cc in s)
        (dot_told d us q m w))
        (λ o us q m w x e. subst (λ (y : Suffix × ℕ × List Token). TellsLonger source opened Member ts deep
        (go_on_member inner source brackets y (at_left (o ∷ us)))) (let s : (suffix.Index, o.start, us) ≡ x = cc in s)
        (index_told o us q m w))

  pub member_told : (ts : List Token) → Tells source opened Member ts (member inner source brackets ts)
  unfolding member
  member_told ts =
      read_told source opened few Member suffix_at (go_on_member inner source brackets) suffix_told ts
      (primary_told source inner brackets opened room few inner_told ts) (λ rest e d. alone d)

-- nothing goes on a member that was read
module _ (source : List ℕ) (inner : Reader) (brackets : ℕ) where
  pub member_ends : (ts : List Token) (f : Found Tree) → member inner source brackets ts ≡ Ok f → suffix_at f.rest ≡ None
  unfolding member
  member_ends ts f e =
      let b = bind_ok (primary inner source brackets ts) (more suffix_at (go_on_member inner source brackets) 100) f e in
      more_ends suffix_at (go_on_member inner source brackets) 100 b.0 f b.2
