-- What reading does again if the text goes on in another way: it depends on no token after the first that it
-- leaves, and what is not finished can be.
use Rattle.std.proofs.Common.{◌≡◌, ℕ, ◌+◌, Bool, true, false, cond, List, [], ◌∷◌, ◌++◌}
use Rattle.std.proofs.Common.{Option, None, Ok, Err, refl, sym, ap, subst, ◌∙◌, append_assoc}
use Rattle.std.specs.Prelude.{nat_lt, nat_eq}
use Rattle.std.proofs.lemmas.Bool.{eqb-true}
use Rattle.cel_lex.specs.declared.token.TokenKind.{TokenKind}
use Rattle.cel_lex.specs.declared.token.TokenKind.TheVariants as kind
use Rattle.cel_lex.specs.declared.token.Token.{Token}
use Rattle.cel_parse.specs.declared.fault.ParseFault.TheVariants.{Unexpected, TooDeep}
use Rattle.cel_parse.specs.declared.heads.Suffix.{Suffix}
use Rattle.cel_parse.specs.declared.heads.Suffix.TheVariants as suffix
use Rattle.cel_parse.specs.declared.tree.Joint.{Joint}
use Rattle.cel_parse.specs.declared.tree.Joint.TheVariants as joint
use Rattle.cel_parse.specs.declared.tree.Tree.{Tree}
use Rattle.cel_parse.specs.Grammar.{looseness, joint_kind, Joins, place_at}
use Rattle.cel_parse.specs.Trees.{Agrees, both_end, same_first}
use Rattle.cel_parse.specs.Descent.{◌>>=◌, Found, ReadOf, Reader, node, kept, head_if}
use Rattle.cel_parse.specs.Descent.{suffix_of, suffix_at, chosen_operator, joint_of, operator_at, if_at}
use Rattle.cel_parse.proofs.Told.{Relation}

pub agrees_self : (ts : List Token) → Agrees ts ts
agrees_self [] = both_end
agrees_self (t ∷ ts) = same_first

-- tokens in front of what follows them
pub record Front : Type 0 where
  pub onto : List Token → List Token
  pub agrees : (us vs : List Token) → Agrees us vs → Agrees (onto us) (onto vs)
  pub before : (rest : List Token) → onto rest ≡ onto [] ++ rest

abbrev pub nothing : Front
nothing = record { onto = λ rest. rest; agrees = λ us vs a. a; before = λ rest. refl }

abbrev pub first : Token → Front → Front
first t f = record {
  onto = λ rest. t ∷ f.onto rest;
  agrees = λ us vs a. same_first;
  before =
      λ rest. ap (λ (r : List Token). t ∷ r) (f.before rest);
}

abbrev pub behind_front : Front → Front → Front
behind_front f g = record {
  onto = λ rest. f.onto (g.onto rest);
  agrees = λ us vs a. f.agrees (g.onto us) (g.onto vs) (g.agrees us vs a);
  before = λ rest. f.before (g.onto rest) ∙ ap (λ (r : List Token). f.onto [] ++ r) (g.before rest)
      ∙ sym (append_assoc (f.onto []) (g.onto []) rest) ∙ ap (λ (r : List Token). r ++ rest) (sym (f.before (g.onto [])));
}

-- What a reader gives for us, it gives again for what goes on in another way after the first token that it leaves: a
-- tree that has D, or the same fault, with an end that has D after what was read.
pub data Stage {A : Type 0} (finish : ℕ) (D : Relation A) (K : List Token → ReadOf A) (us : List Token) : ReadOf A → Type 0 where
  again : {f : Found A} (F : Front) → F.onto f.rest ≡ us → ((rest : List Token) → D (F.onto rest) rest f.what)
      → ((rest : List Token) → Agrees f.rest rest → K (F.onto rest) ≡ Ok (record { what = f.what; deep = f.deep; rest = rest }))
      → Stage finish D K us (Ok f)
  gave_up : Stage finish D K us (Err TooDeep)
  stuck : {place : ℕ} (F : Front) (w : List Token) (C : Front) (e : A) → F.onto w ≡ us → place ≡ place_at finish w
      → ((rest : List Token) → D (F.onto (C.onto rest)) rest e)
      → ((rest : List Token) → Agrees w rest → K (F.onto rest) ≡ Err (Unexpected (place_at finish rest)))
      → Stage finish D K us (Err (Unexpected place))

module _ (finish : ℕ) where
  -- a reader is a stage at us
  abbrev pub IsStage : {A : Type 0} → Relation A → (List Token → ReadOf A) → List Token → Type 0
  IsStage D K us = Stage finish D K us (K us)

  -- a reader that reads the same from what begins the same
  pub stage_same : {A : Type 0} {D : Relation A} {K : List Token → ReadOf A} {us : List Token} {r : ReadOf A}
      (K' : List Token → ReadOf A) → ((vs : List Token) → Agrees us vs → K' vs ≡ K vs) → Stage finish D K us r
      → Stage finish D K' us r
  stage_same K' h (again {f} F e d k) =
      again F e d (λ rest a. h (F.onto rest) (subst (λ x. Agrees x (F.onto rest)) e (F.agrees f.rest rest a)) ∙ k rest a)
  stage_same K' h gave_up = gave_up
  stage_same K' h (stuck F w C e q p d k) =
      stuck F w C e q p d (λ rest a. h (F.onto rest) (subst (λ x. Agrees x (F.onto rest)) q (F.agrees w rest a)) ∙ k rest a)

  -- a reader after tokens
  pub stage_behind : {A : Type 0} {D : Relation A} {G : List Token → ReadOf A} {vs : List Token} {r : ReadOf A} (us : List Token)
      (K : List Token → ReadOf A) (F : Front) → F.onto vs ≡ us
      → ((rest : List Token) → Agrees vs rest → K (F.onto rest) ≡ G rest) → Stage finish (λ ws. D (F.onto ws)) G vs r
      → Stage finish D K us r
  stage_behind us K F q h (again {f} E e d k) =
      again (behind_front F E) (ap F.onto e ∙ q) d
      (λ rest a. h (E.onto rest) (subst (λ x. Agrees x (E.onto rest)) e (E.agrees f.rest rest a)) ∙ k rest a)
  stage_behind us K F q h gave_up = gave_up
  stage_behind us K F q h (stuck E w C e z p d k) =
      stuck (behind_front F E) w C e (ap F.onto z ∙ q) p d
      (λ rest a. h (E.onto rest) (subst (λ x. Agrees x (E.onto rest)) z (E.agrees w rest a)) ∙ k rest a)

  -- a step and what comes after it
  pub stage_then : {A B : Type 0} {D : Relation A} {D' : Relation B} {K : List Token → ReadOf A} {us : List Token} {r : ReadOf A}
      (go : Found A → ReadOf B) (C : Front) (grow : A → B) → Stage finish D K us r
      → ((from rest : List Token) (e : A) → D from (C.onto rest) e → D' from rest (grow e)) →
      ((f : Found A) (F : Front) → ((rest : List Token) → D (F.onto rest) rest f.what)
      → Stage finish (λ ws. D' (F.onto ws)) (λ rest. go (record { what = f.what; deep = f.deep; rest = rest })) f.rest (go f))
      → Stage finish D' (λ vs. K vs >>= go) us (r >>= go)
  stage_then {A} {K = K} {us} go C grow (again {f} F e d k) end next =
      stage_behind us (λ vs. K vs >>= go) F e (λ rest a. ap (λ (o : ReadOf A). o >>= go) (k rest a)) (next f F d)
  stage_then go C grow gave_up end next = gave_up
  stage_then {A} go C grow (stuck F w E e q p d k) end next =
      stuck F w (behind_front E C) (grow e) q p (λ rest. end (F.onto (E.onto (C.onto rest))) rest e (d (C.onto rest)))
      (λ rest a. ap (λ (o : ReadOf A). o >>= go) (k rest a))

  node_by : {D : Relation Tree} (b : Bool) (tree : Tree) (below : ℕ) (us : List Token) → ((rest : List Token) → D rest rest tree)
      → Stage finish D (λ rest. cond b (Ok (record { what = tree; deep = below + 1; rest = rest })) (Err TooDeep)) us
      (cond b (Ok (record { what = tree; deep = below + 1; rest = us })) (Err TooDeep))
  node_by true tree below us d = again nothing refl d (λ rest a. refl)
  node_by false tree below us d = gave_up

  pub stage_node : {D : Relation Tree} (tree : Tree) (below : ℕ) (us : List Token) → ((rest : List Token) → D rest rest tree)
      → Stage finish D (node tree below) us (node tree below us)
  unfolding node
  stage_node tree below us d = node_by (nat_lt below 100) tree below us d

  -- what comes first is not expected, but an end is
  pub stage_stuck : {A : Type 0} {D : Relation A} (us : List Token) (C : Front) (e : A) → ((rest : List Token) → D (C.onto rest) rest e)
      → Stage finish D (λ ws. Err (Unexpected (place_at finish ws))) us (Err (Unexpected (place_at finish us)))
  stage_stuck us C e d = stuck nothing us C e refl refl d (λ rest a. refl)

  pub stage_at : {A : Type 0} {D : Relation A} {K : List Token → ReadOf A} {us : List Token} {r s : ReadOf A} → r ≡ s
      → Stage finish D K us r → Stage finish D K us s
  stage_at {A} {D} {K} {us} e x = subst (λ o. Stage finish D K us o) e x

  pub stage_map : {A : Type 0} {D D' : Relation A} {K : List Token → ReadOf A} {us : List Token} {r : ReadOf A}
      → ((from rest : List Token) (e : A) → D from rest e → D' from rest e) → Stage finish D K us r → Stage finish D' K us r
  stage_map m (again {f} F e d k) = again F e (λ rest. m (F.onto rest) rest f.what (d rest)) k
  stage_map m gave_up = gave_up
  stage_map m (stuck F w C e q p d k) = stuck F w C e q p (λ rest. m (F.onto (C.onto rest)) rest e (d rest)) k

  -- one reader, which reads as another does from what begins as us
  pub stage_like : {X : Type 0} {D : Relation X} (K A : List Token → ReadOf X) (us : List Token)
      → ((vs : List Token) → Agrees us vs → K vs ≡ A vs) → Stage finish D A us (A us) → Stage finish D K us (K us)
  stage_like K A us h s = stage_at (sym (h us (agrees_self us))) (stage_same K h s)

  -- one reader, which reads after a token as another does
  pub stage_front : {A : Type 0} {D : Relation A} (t : Token) (K G : List Token → ReadOf A) (us : List Token)
      → ((vs : List Token) → K (t ∷ vs) ≡ G vs) → Stage finish (λ ws. D (t ∷ ws)) G us (G us)
      → Stage finish D K (t ∷ us) (K (t ∷ us))
  stage_front t K G us h s = stage_at (sym (h us)) (stage_behind (t ∷ us) K (first t nothing) refl (λ rest a. h rest) s)

  kept_none : (b : Bool) (t : Token) (us vs : List Token) → kept b t us ≡ None → kept b t vs ≡ None
  kept_none true t us vs h = absurd cc
  kept_none false t us vs h = refl

  head_none : (test : TokenKind → Bool) (us vs : List Token) → Agrees us vs → head_if test us ≡ None → head_if test vs ≡ None
  head_none test us vs both_end h = refl
  head_none test us vs (same_first {t} {us = ws} {vs = xs}) h = kept_none (test t.kind) t ws xs h

  chosen_none : (b : Bool) (o : Joint) (place : ℕ) (us vs : List Token) → chosen_operator b o place us ≡ None
      → chosen_operator b o place vs ≡ None
  chosen_none true o place us vs h = absurd cc
  chosen_none false o place us vs h = refl

  abbrev chosen_of : ℕ → TokenKind → ℕ → List Token → Option (Joint × ℕ × List Token)
  chosen_of n k place ts = if_at (joint_of k place ts) None (λ x. chosen_operator (nat_eq (looseness x.0) n) x.0 x.1 x.2)

  joint_of_none : (n : ℕ) (k : TokenKind) (place : ℕ) (us vs : List Token) → chosen_of n k place us ≡ None
      → chosen_of n k place vs ≡ None
  joint_of_none n (kind.Operator o) place us vs h = chosen_none (nat_eq (looseness (joint.Infix o)) n) (joint.Infix o) place us vs h
  joint_of_none n kind.In place us vs h = chosen_none (nat_eq (looseness joint.In) n) joint.In place us vs h
  joint_of_none n _ place us vs h = refl

  operator_none : (n : ℕ) (us vs : List Token) → Agrees us vs → operator_at n us ≡ None → operator_at n vs ≡ None
  operator_none n us vs both_end h = refl
  operator_none n us vs (same_first {t} {us = ws} {vs = xs}) h = joint_of_none n t.kind t.start ws xs h

  suffix_of_none : (k : TokenKind) (place : ℕ) (us vs : List Token) → suffix_of k place us ≡ None → suffix_of k place vs ≡ None
  suffix_of_none kind.Dot place us vs h = absurd cc
  suffix_of_none kind.OpenBracket place us vs h = absurd cc
  suffix_of_none _ place us vs h = refl

  pub suffix_none : (us vs : List Token) → Agrees us vs → suffix_at us ≡ None → suffix_at vs ≡ None
  suffix_none us vs both_end h = refl
  suffix_none us vs (same_first {t} {us = ws} {vs = xs}) h = suffix_of_none t.kind t.start ws xs h

  -- one reader or another, by the first token
  abbrev if_head : {A B : Type 0} → (List Token → B → ReadOf A) → (List Token → B) → (TokenKind → Bool)
      → (ℕ → List Token → B) → List Token → ReadOf A
  if_head after otherwise test go ws = after ws (if_at (head_if test ws) (otherwise ws) (λ x. go x.0 x.1))

  abbrev if_operator : ℕ → Reader → (Joint → ℕ → Reader) → Reader
  if_operator n otherwise go ws = if_at (operator_at n ws) (otherwise ws) (λ x. go x.0 x.1 x.2)

  abbrev if_suffix : Reader → (List Token → Suffix → ℕ → Reader) → Reader
  if_suffix otherwise go ws = if_at (suffix_at ws) (otherwise ws) (λ x. go ws x.0 x.1 x.2)

  module _ {A B : Type 0} {D : Relation A} (after : List Token → B → ReadOf A) (otherwise : List Token → B) (test : TokenKind → Bool)
      (go : ℕ → List Token → B) (if_not : (vs : List Token) → head_if test vs ≡ None
      → Stage finish D (λ ws. after ws (otherwise ws)) vs (after vs (otherwise vs)))
      (if_so : (t : Token) (vs : List Token) → test t.kind ≡ true
      → Stage finish (λ ws. D (t ∷ ws)) (λ ws. after (t ∷ ws) (go t.start ws)) vs (after (t ∷ vs) (go t.start vs))) where
    head_not : (us : List Token) → head_if test us ≡ None
        → Stage finish D (if_head after otherwise test go) us (if_head after otherwise test go us)
    head_not us h =
        stage_like (if_head after otherwise test go) (λ ws. after ws (otherwise ws)) us
        (λ vs a. ap (λ x. after vs (if_at x (otherwise vs) (λ x. go x.0 x.1))) (head_none test us vs a h)) (if_not us h)

    head_by : (b : Bool) (t : Token) (us : List Token) → test t.kind ≡ b
        → Stage finish D (if_head after otherwise test go) (t ∷ us) (if_head after otherwise test go (t ∷ us))
    head_by true t us h =
        stage_front t (if_head after otherwise test go) (λ ws. after (t ∷ ws) (go t.start ws)) us
        (λ rest. ap (λ b. after (t ∷ rest) (if_at (kept b t rest) (otherwise (t ∷ rest)) (λ x. go x.0 x.1))) h) (if_so t us h)
    head_by false t us h = head_not (t ∷ us) (ap (λ b. kept b t us) h)

    -- whether the first token is of a kind
    pub stage_head : (us : List Token) → Stage finish D (if_head after otherwise test go) us (if_head after otherwise test go us)
    stage_head [] = head_not [] refl
    stage_head (t ∷ us) = head_by (test t.kind) t us refl

  module _ {D : Relation Tree} (n : ℕ) (otherwise : Reader) (go : Joint → ℕ → Reader)
      (if_not : (vs : List Token) → operator_at n vs ≡ None → Stage finish D otherwise vs (otherwise vs))
      (if_so : (t : Token) (o : Joint) (vs : List Token) → Joins t o n → Stage finish (λ ws. D (t ∷ ws)) (go o t.start) vs
      (go o t.start vs)) where
    operator_not : (us : List Token) → operator_at n us ≡ None
        → Stage finish D (if_operator n otherwise go) us (if_operator n otherwise go us)
    operator_not us h =
        stage_like (if_operator n otherwise go) otherwise us
        (λ vs a. ap (λ x. if_at x (otherwise vs) (λ x. go x.0 x.1 x.2)) (operator_none n us vs a h)) (if_not us h)

    chosen_by : (b : Bool) (o : Joint) (t : Token) (us : List Token) → nat_eq (looseness o) n ≡ b
        → ((ws : List Token) → operator_at n (t ∷ ws) ≡ chosen_operator (nat_eq (looseness o) n) o t.start ws)
        → t.kind ≡ joint_kind o → Stage finish D (if_operator n otherwise go) (t ∷ us) (if_operator n otherwise go (t ∷ us))
    chosen_by true o t us e reads h =
        stage_front t (if_operator n otherwise go) (go o t.start) us
        (λ rest. ap (λ x. if_at x (otherwise (t ∷ rest)) (λ x. go x.0 x.1 x.2)) (reads rest ∙ ap (λ b. chosen_operator b o t.start rest) e))
        (if_so t o us (record { kind = h; loose = eqb-true (looseness o) n e }))
    chosen_by false o t us e reads h = operator_not (t ∷ us) (reads us ∙ ap (λ b. chosen_operator b o t.start us) e)

    operator_by : (k : TokenKind) (t : Token) (us : List Token) → t.kind ≡ k
        → Stage finish D (if_operator n otherwise go) (t ∷ us) (if_operator n otherwise go (t ∷ us))
    operator_by (kind.Operator o) t us h =
        chosen_by (nat_eq (looseness (joint.Infix o)) n) (joint.Infix o) t us refl (λ ws. ap (λ k. chosen_of n k t.start ws) h) h
    operator_by kind.In t us h =
        chosen_by (nat_eq (looseness joint.In) n) joint.In t us refl (λ ws. ap (λ k. chosen_of n k t.start ws) h) h
    operator_by _ t us h = operator_not (t ∷ us) (ap (λ k. chosen_of n k t.start us) h)

    -- whether an operator of this looseness comes first
    pub stage_operator : (us : List Token) → Stage finish D (if_operator n otherwise go) us (if_operator n otherwise go us)
    stage_operator [] = operator_not [] refl
    stage_operator (t ∷ us) = operator_by t.kind t us refl

  module _ {D : Relation Tree} (otherwise : Reader) (go : List Token → Suffix → ℕ → Reader)
      (if_not : (vs : List Token) → suffix_at vs ≡ None → Stage finish D otherwise vs (otherwise vs))
      (if_dot : (t : Token) (vs : List Token) → t.kind ≡ kind.Dot → Stage finish (λ ws. D (t ∷ ws))
      (λ ws. go (t ∷ ws) suffix.Selector t.start ws) vs (go (t ∷ vs) suffix.Selector t.start vs))
      (if_bracket : (t : Token) (vs : List Token) → t.kind ≡ kind.OpenBracket → Stage finish (λ ws. D (t ∷ ws))
      (λ ws. go (t ∷ ws) suffix.Index t.start ws) vs (go (t ∷ vs) suffix.Index t.start vs)) where
    suffix_not : (us : List Token) → suffix_at us ≡ None → Stage finish D (if_suffix otherwise go) us (if_suffix otherwise go us)
    suffix_not us h =
        stage_like (if_suffix otherwise go) otherwise us
        (λ vs a. ap (λ x. if_at x (otherwise vs) (λ x. go vs x.0 x.1 x.2)) (suffix_none us vs a h)) (if_not us h)

    suffix_by : (k : TokenKind) (t : Token) (us : List Token) → t.kind ≡ k
        → Stage finish D (if_suffix otherwise go) (t ∷ us) (if_suffix otherwise go (t ∷ us))
    suffix_by kind.Dot t us h =
        stage_front t (if_suffix otherwise go) (λ ws. go (t ∷ ws) suffix.Selector t.start ws) us
        (λ rest. ap (λ k. if_at (suffix_of k t.start rest) (otherwise (t ∷ rest)) (λ x. go (t ∷ rest) x.0 x.1 x.2)) h)
        (if_dot t us h)
    suffix_by kind.OpenBracket t us h =
        stage_front t (if_suffix otherwise go) (λ ws. go (t ∷ ws) suffix.Index t.start ws) us
        (λ rest. ap (λ k. if_at (suffix_of k t.start rest) (otherwise (t ∷ rest)) (λ x. go (t ∷ rest) x.0 x.1 x.2)) h)
        (if_bracket t us h)
    suffix_by _ t us h = suffix_not (t ∷ us) (ap (λ k. suffix_of k t.start us) h)

    -- whether what goes on a member comes first
    pub stage_suffix : (us : List Token) → Stage finish D (if_suffix otherwise go) us (if_suffix otherwise go us)
    stage_suffix [] = suffix_not [] refl
    stage_suffix (t ∷ us) = suffix_by t.kind t us refl
