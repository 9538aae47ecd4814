-- What reads between brackets is a stage: it reads the same if the text goes on in another way.
use Rattle.std.proofs.Common.{◌≡◌, ℕ, zero, suc, Bool, true, false, List, [], ◌∷◌, length, Option, Some, None, Ok, Err, refl, ap}
use Rattle.std.proofs.Common.{◌∙◌}
use Rattle.std.specs.Prelude.{max}
use Rattle.cel_lex.specs.declared.token.TokenKind.{TokenKind}
use Rattle.cel_lex.specs.declared.token.TokenKind.TheVariants as kind
use Rattle.cel_lex.specs.declared.token.Token.{Token}
use Rattle.cel_parse.specs.declared.fault.ParseFault.TheVariants.{Unexpected}
use Rattle.cel_parse.specs.declared.heads.Closer.{Closer}
use Rattle.cel_parse.specs.Grammar.{closes, takes_comma, end, comma_end, place_at}
use Rattle.cel_parse.specs.Trees.{Agrees}
use Rattle.cel_parse.specs.Descent.{◌>>=◌, Found, ReadOf, kept, head_if, is_comma, if_at, comma_if, spare_comma_at}
use Rattle.cel_parse.specs.Descent.{opened as opened_at, stop, go_on, step_at, with_first, moved, items_from, any_items}
use Rattle.cel_parse.proofs.Steps.{comma_is}
use Rattle.cel_parse.proofs.Told.{Relation}
use Rattle.cel_parse.proofs.RowsTold.{IsRow}
use Rattle.cel_parse.proofs.Stages.{Front, nothing, first, Stage, again, gave_up, stage_then, stage_stuck, stage_map}
use Rattle.cel_parse.proofs.Stages.{stage_like, stage_front, stage_head}
use Rattle.cel_parse.proofs.Endings.{a_closer, closes_it, from_first, from_end}

-- lists of items, or of entries
module _ {A : Type 0} (source : List ℕ) (c : Closer) (item : List Token → ReadOf A) (D : Relation A) (size : A → ℕ)
    (DI DL : Relation (List A)) (sizes : List A → ℕ) (rules : IsRow c D size DI DL sizes)
    (item_stage : (us : List Token) → Stage (length source) D item us (item us)) where
  abbrev finish : ℕ
  finish = length source

  abbrev ended_by : Front
  ended_by = first (a_closer c) nothing

  -- after an item
  module _ (turns : ℕ)
      (others_stage : (us : List Token) → Stage finish DI (items_from source c item turns) us (items_from source c item turns us))
      (F : Front) (what : A) (deep : ℕ) (d : (rest : List Token) → D (F.onto rest) rest what) where
    abbrev here : List Token → Found A
    here ws = record { what = what; deep = deep; rest = ws }

    abbrev K : List Token → ReadOf (List A)
    K ws = step_at source c ws >>= moved (items_from source c item turns) (here ws)

    abbrev IsStep : List Token → Type 0
    IsStep us = Stage finish (λ ws. DI (F.onto ws)) K us (K us)

    abbrev by_end : Option (ℕ × List Token) → List Token → ReadOf (List A)
    by_end o ws =
        if_at o (if_at (head_if is_comma ws) (Err (Unexpected (place_at finish ws))) (λ x. Ok (go_on x.1))) (λ x. Ok (stop x.1)) >>= moved
        (items_from source c item turns) (here ws)

    abbrev by_comma : Option (ℕ × List Token) → List Token → ReadOf (List A)
    by_comma o ws =
        if_at o (Err (Unexpected (place_at finish ws))) (λ x. Ok (go_on x.1)) >>= moved (items_from source c item turns) (here ws)

    refused_step : (us : List Token) → ((vs : List Token) → Agrees us vs → K vs ≡ Err (Unexpected (place_at finish vs)))
        → IsStep us
    refused_step us h =
        stage_like finish K (λ ws. Err (Unexpected (place_at finish ws))) us h
        (stage_stuck finish us ended_by (what ∷ []) (λ rest. rules.last (d (a_closer c ∷ rest)) (end (closes_it c))))

    ended_step : (t : Token) (us : List Token) → closes c t.kind ≡ true → IsStep (t ∷ us)
    ended_step t us h =
        stage_front finish t K (λ ws. Ok (record { what = what ∷ []; deep = deep; rest = ws })) us
        (λ ws. ap (λ (b : Bool). by_end (if_at (kept b t ws) (if_at (spare_comma_at c (t ∷ ws)) None (λ x. head_if (closes c) x.1)) Some)
        (t ∷ ws)) h)
        (again nothing refl (λ rest. rules.last (d (t ∷ rest)) (end h)) (λ rest a. refl))

    others_step : (t : Token) (us : List Token) → t.kind ≡ kind.Comma → Stage finish (λ ws. DI (F.onto (t ∷ ws)))
        (λ ws. items_from source c item turns ws >>= with_first (here (t ∷ ws))) us
        (items_from source c item turns us >>= with_first (here (t ∷ us)))
    others_step t us h =
        stage_then finish (λ f. Ok (record { what = what ∷ f.what; deep = max deep f.deep; rest = f.rest })) nothing (λ es. what ∷ es)
        (others_stage us)
        (λ from rest es x. rules.next (d (t ∷ from)) h x)
        (λ f E x. again nothing refl (λ rest. rules.next (d (t ∷ E.onto rest)) h (x rest)) (λ rest a. refl))

    -- after a comma
    comma_by : (b : Bool) (t : Token) (us : List Token) → takes_comma c ≡ b → closes c t.kind ≡ false → t.kind ≡ kind.Comma
        → IsStep (t ∷ us)
    comma_by false t us z n h =
        stage_front finish t K (λ ws. items_from source c item turns ws >>= with_first (here (t ∷ ws))) us
        (λ ws. ap (λ (b : Bool). by_end (if_at (kept b t ws) (if_at (spare_comma_at c (t ∷ ws)) None (λ x. head_if (closes c) x.1)) Some)
        (t ∷ ws)) n
        ∙ ap (λ (b : Bool). by_end (if_at (comma_if b (t ∷ ws)) None (λ x. head_if (closes c) x.1)) (t ∷ ws)) z
        ∙ ap (λ (k : TokenKind). by_comma (kept (is_comma k) t ws) (t ∷ ws)) h)
        (others_step t us h)
    comma_by true t us z n h =
        stage_front finish t K
        (λ ws. if_at (head_if (closes c) ws) (items_from source c item turns ws >>= with_first (here (t ∷ ws)))
        (λ x. Ok (record { what = what ∷ []; deep = deep; rest = x.1 }))) us
        (λ ws. ap (λ (b : Bool). by_end (if_at (kept b t ws) (if_at (spare_comma_at c (t ∷ ws)) None (λ x. head_if (closes c) x.1)) Some)
        (t ∷ ws)) n
        ∙ ap (λ (b : Bool). by_end (if_at (comma_if b (t ∷ ws)) None (λ x. head_if (closes c) x.1)) (t ∷ ws)) z
        ∙ ap (λ (k : TokenKind). by_end (if_at (kept (is_comma k) t ws) None (λ x. head_if (closes c) x.1)) (t ∷ ws)) h
        ∙ by_closing t ws h (head_if (closes c) ws))
        (stage_head finish (λ ws r. r) (λ ws. items_from source c item turns ws >>= with_first (here (t ∷ ws))) (closes c)
        (λ place ws. Ok (record { what = what ∷ []; deep = deep; rest = ws }))
        (λ vs q. others_step t vs h)
        (λ k vs q. again nothing refl (λ rest. rules.last (d (t ∷ k ∷ rest)) (comma_end z h q)) (λ rest a. refl))
        us)
      where
        by_closing : (t : Token) (ws : List Token) → t.kind ≡ kind.Comma → (o : Option (ℕ × List Token)) → by_end o (t ∷ ws)
            ≡ if_at o (items_from source c item turns ws >>= with_first (here (t ∷ ws)))
            (λ x. Ok (record { what = what ∷ []; deep = deep; rest = x.1 }))
        by_closing t ws h None = ap (λ (k : TokenKind). by_comma (kept (is_comma k) t ws) (t ∷ ws)) h
        by_closing t ws h (Some x) = refl

    no_spare : (b : Bool) (t : Token) (ws : List Token) → is_comma t.kind ≡ false → comma_if b (t ∷ ws) ≡ None
    no_spare true t ws h = ap (λ (b : Bool). kept b t ws) h
    no_spare false t ws h = refl

    other_by : (b : Bool) (t : Token) (us : List Token) → is_comma t.kind ≡ b → closes c t.kind ≡ false → IsStep (t ∷ us)
    other_by true t us h n = comma_by (takes_comma c) t us refl n (comma_is t.kind h)
    other_by false t us h n =
        refused_step (t ∷ us) (from_first (λ vs. K vs ≡ Err (Unexpected (place_at finish vs)))
        (λ ws. ap (λ (b : Bool). by_end (if_at (kept b t ws) (if_at (spare_comma_at c (t ∷ ws)) None (λ x. head_if (closes c) x.1)) Some)
        (t ∷ ws)) n
        ∙ ap (λ (o : Option (ℕ × List Token)). by_end (if_at o None (λ x. head_if (closes c) x.1)) (t ∷ ws))
        (no_spare (takes_comma c) t ws h)
        ∙ ap (λ (b : Bool). by_comma (kept b t ws) (t ∷ ws)) h))

    token_by : (b : Bool) (t : Token) (us : List Token) → closes c t.kind ≡ b → IsStep (t ∷ us)
    token_by true t us h = ended_step t us h
    token_by false t us h = other_by (is_comma t.kind) t us refl h

    no_comma_end : (b : Bool) → by_end (if_at (comma_if b []) None (λ x. head_if (closes c) x.1)) [] ≡ Err (Unexpected finish)
    no_comma_end true = refl
    no_comma_end false = refl

    step_stage : (us : List Token) → IsStep us
    step_stage [] = refused_step [] (from_end (λ vs. K vs ≡ Err (Unexpected (place_at finish vs))) (no_comma_end (takes_comma c)))
    step_stage (t ∷ us) = token_by (closes c t.kind) t us refl

  items_stage : (turns : ℕ) (us : List Token) → Stage finish DI (items_from source c item turns) us (items_from source c item turns us)
  unfolding items_from
  items_stage zero us = gave_up
  items_stage (suc turns) us =
      stage_then finish (λ e. step_at source c e.rest >>= moved (items_from source c item turns) e) ended_by (λ e. e ∷ [])
      (item_stage us)
      (λ from rest e x. rules.last x (end (closes_it c)))
      (λ f F x. step_stage turns (items_stage turns) F f.what f.deep x f.rest)

  -- after an opening bracket
  module _ (brackets : ℕ) where
    abbrev R : List Token → ReadOf (List A)
    R ws = opened_at source (suc brackets) c ws >>= any_items source c item ws

    abbrev by_found : Option (ℕ × List Token) → List Token → ReadOf (List A)
    by_found o ws =
        if_at o (if_at (spare_comma_at c ws) (Ok None) (λ x. Err (Unexpected (place_at finish x.1))))
        (λ x. Ok (Some x)) >>= any_items source c item ws

    abbrev by_spare : Option (ℕ × List Token) → List Token → ReadOf (List A)
    by_spare o ws = if_at o (Ok None) (λ x. Err (Unexpected (place_at finish x.1))) >>= any_items source c item ws

    abbrev IsOpen : List Token → Type 0
    IsOpen us = Stage finish DL R us (R us)

    items_row : (us : List Token) → ((vs : List Token) → Agrees us vs → R vs ≡ items_from source c item 16384 vs) → IsOpen us
    items_row us h =
        stage_like finish R (items_from source c item 16384) us h
        (stage_map finish (λ from rest es x. rules.some x) (items_stage 16384 us))

    empty_row : (t : Token) (us : List Token) → closes c t.kind ≡ true → IsOpen (t ∷ us)
    unfolding opened_at
    empty_row t us h =
        stage_front finish t R (λ ws. Ok (record { what = []; deep = 0; rest = ws })) us
        (λ ws. ap (λ (b : Bool). by_found (if_at (kept b t ws) (if_at (spare_comma_at c (t ∷ ws)) None (λ x. head_if (closes c) x.1)) Some)
        (t ∷ ws)) h)
        (again nothing refl (λ rest. rules.none (end h)) (λ rest a. refl))

    spare_row : (t : Token) (us : List Token) → takes_comma c ≡ true → closes c t.kind ≡ false → t.kind ≡ kind.Comma
        → IsOpen (t ∷ us)
    unfolding opened_at
    spare_row t us z n h =
        stage_front finish t R
        (λ ws. if_at (head_if (closes c) ws) (Err (Unexpected (place_at finish ws)))
        (λ x. Ok (record { what = []; deep = 0; rest = x.1 }))) us
        (λ ws. ap (λ (b : Bool). by_found (if_at (kept b t ws) (if_at (spare_comma_at c (t ∷ ws)) None (λ x. head_if (closes c) x.1)) Some)
        (t ∷ ws)) n
        ∙ ap (λ (b : Bool). by_found (if_at (comma_if b (t ∷ ws)) None (λ x. head_if (closes c) x.1)) (t ∷ ws)) z
        ∙ ap (λ (k : TokenKind). by_found (if_at (kept (is_comma k) t ws) None (λ x. head_if (closes c) x.1)) (t ∷ ws)) h
        ∙ by_closing t ws z h (head_if (closes c) ws))
        (stage_head finish (λ ws r. r) (λ ws. Err (Unexpected (place_at finish ws))) (closes c)
        (λ place ws. Ok (record { what = []; deep = 0; rest = ws }))
        (λ vs q. stage_stuck finish vs ended_by [] (λ rest. rules.none (comma_end z h (closes_it c))))
        (λ k vs q. again nothing refl (λ rest. rules.none (comma_end z h q)) (λ rest a. refl))
        us)
      where
        by_closing : (t : Token) (ws : List Token) → takes_comma c ≡ true → t.kind ≡ kind.Comma → (o : Option (ℕ × List Token))
            → by_found o (t ∷ ws)
            ≡ if_at o (Err (Unexpected (place_at finish ws))) (λ x. Ok (record { what = []; deep = 0; rest = x.1 }))
        by_closing t ws z h None =
            ap (λ (b : Bool). by_spare (comma_if b (t ∷ ws)) (t ∷ ws)) z
            ∙ ap (λ (k : TokenKind). by_spare (kept (is_comma k) t ws) (t ∷ ws)) h
        by_closing t ws z h (Some x) = refl

    plain_row : (t : Token) (us : List Token) → closes c t.kind ≡ false → ((ws : List Token) → spare_comma_at c (t ∷ ws) ≡ None)
        → IsOpen (t ∷ us)
    unfolding opened_at
    plain_row t us n h =
        items_row (t ∷ us) (from_first (λ vs. R vs ≡ items_from source c item 16384 vs)
        (λ ws. ap (λ (b : Bool). by_found (if_at (kept b t ws) (if_at (spare_comma_at c (t ∷ ws)) None (λ x. head_if (closes c) x.1)) Some)
        (t ∷ ws)) n
        ∙ ap (λ (o : Option (ℕ × List Token)). by_found (if_at o None (λ x. head_if (closes c) x.1)) (t ∷ ws)) (h ws)
        ∙ ap (λ (o : Option (ℕ × List Token)). by_spare o (t ∷ ws)) (h ws)))

    no_spare_comma : (b : Bool) (t : Token) (ws : List Token) → is_comma t.kind ≡ false → comma_if b (t ∷ ws) ≡ None
    no_spare_comma true t ws h = ap (λ (b : Bool). kept b t ws) h
    no_spare_comma false t ws h = refl

    comma_row : (b e : Bool) (t : Token) (us : List Token) → takes_comma c ≡ b → is_comma t.kind ≡ e → closes c t.kind ≡ false
        → IsOpen (t ∷ us)
    comma_row true true t us z h n = spare_row t us z n (comma_is t.kind h)
    comma_row false e t us z h n = plain_row t us n (λ ws. ap (λ (b : Bool). comma_if b (t ∷ ws)) z)
    comma_row true false t us z h n = plain_row t us n (λ ws. no_spare_comma (takes_comma c) t ws h)

    token_row : (b : Bool) (t : Token) (us : List Token) → closes c t.kind ≡ b → IsOpen (t ∷ us)
    token_row true t us h = empty_row t us h
    token_row false t us h = comma_row (takes_comma c) (is_comma t.kind) t us refl refl h

    no_end_row : (b : Bool) → if_at (if_at (comma_if b []) None (λ x. head_if (closes c) x.1))
        (if_at (comma_if b []) (Ok None) (λ x. Err (Unexpected (place_at finish x.1)))) (λ x. Ok (Some x)) >>= any_items source c item []
        ≡ items_from source c item 16384 []
    no_end_row true = refl
    no_end_row false = refl

    row_stage : (us : List Token) → IsOpen us
    unfolding opened_at
    row_stage [] = items_row [] (from_end (λ vs. R vs ≡ items_from source c item 16384 vs) (no_end_row (takes_comma c)))
    row_stage (t ∷ us) = token_row (closes c t.kind) t us refl

  pub rows_stage : (brackets : ℕ) (us : List Token) → Stage finish DL
      (λ ws. opened_at source brackets c ws >>= any_items source c item ws) us
      (opened_at source brackets c us >>= any_items source c item us)
  unfolding opened_at
  rows_stage zero us = gave_up
  rows_stage (suc brackets) us = row_stage brackets us
