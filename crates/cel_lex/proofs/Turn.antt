-- One turn of the loop over the pieces of a text.
use Rattle.std.proofs.Common.{◌≡◌, ℕ, ◌+◌, ◌<◌, ◌≤◌, List, [], ◌∷◌, ◌++◌, length, take}
use Rattle.std.proofs.Common.{drop, None, sym, ap, subst, ◌∙◌, arith, append-nil, append_assoc, length-drop}
use Rattle.std.proofs.lemmas.List.{drop-drop}
use Rattle.std.proofs.Math.ListN.{drop_of_length-le}
use Rattle.cel_lex.specs.declared.token.TokenKind.{TokenKind}
use Rattle.cel_lex.specs.declared.token.Token.{Token}
use Rattle.cel_lex.specs.declared.piece.Piece.{Piece}
use Rattle.cel_lex.specs.declared.piece.Piece.TheVariants as piece
use Rattle.cel_lex.specs.declared.fault.LexFault.{LexFault}
use Rattle.cel_lex.specs.declared.fault.LexFaultKind.TheVariants as fault
use Rattle.cel_lex.specs.Lexis.{piece_of, IsNext, Cuts, Fails, Refuses, end, blank, token, faulty, bad, after_blank, after_token}

pub refuses_as : (bytes : List ℕ) (g f : LexFault) → g ≡ f → Refuses bytes g → Refuses bytes f
refuses_as bytes g f e r = subst (λ x. Refuses bytes x) e r

bad_here : (place : ℕ) (bytes : List ℕ) → 0 < length bytes → ((m : ℕ) → m ≤ length bytes → piece_of (take m bytes) ≡ None)
    → Fails place bytes (record { kind = fault.BadChar; place = place })
bad_here place [] lt none = absurd (omega arith)
bad_here place (b ∷ bs) lt none = bad none

pub bad_at : (bytes : List ℕ) (place : ℕ) → place < length bytes
    → ((m : ℕ) → m ≤ length (drop place bytes) → piece_of (take m (drop place bytes)) ≡ None)
    → Fails place (drop place bytes) (record { kind = fault.BadChar; place = place })
bad_at bytes place lt none = bad_here place (drop place bytes) (omega (arith, length-drop place bytes)) none

-- the cut ends where the text ends
pub cut_done : (bytes : List ℕ) (place : ℕ) (ts : List Token) → length bytes ≤ place
    → ((us : List Token) → Cuts place (drop place bytes) us → Cuts 0 bytes (ts ++ us)) → Cuts 0 bytes ts
cut_done bytes place ts le h =
    subst (λ x. Cuts 0 bytes x) (append-nil ts) (h [] (subst (λ x. Cuts place x []) (sym (drop_of_length-le bytes le)) end))

module _ (bytes : List ℕ) (place n : ℕ) (what : Piece) (le : place ≤ length bytes) (here : IsNext (drop place bytes) n what) where
  pub turn_within : place + n ≤ length bytes
  turn_within = let h = here.here in omega (arith, length-drop place bytes)

  rest_is : drop (place + n) bytes ≡ drop n (drop place bytes)
  rest_is = sym (drop-drop n place bytes)

  pub faulty_turn : (f : LexFault) → what ≡ piece.Faulty f
      → Fails place (drop place bytes) (record { kind = f.kind; place = place + f.place })
  faulty_turn f e = faulty (subst (λ w. IsNext (drop place bytes) n w) e here)

  pub blank_cuts : (ts : List Token) → what ≡ piece.Blank → Cuts (place + n) (drop (place + n) bytes) ts
      → Cuts place (drop place bytes) ts
  blank_cuts ts e c = blank (subst (λ w. IsNext (drop place bytes) n w) e here) (subst (λ rest. Cuts (place + n) rest ts) rest_is c)

  pub blank_fails : (f : LexFault) → what ≡ piece.Blank → Fails (place + n) (drop (place + n) bytes) f
      → Fails place (drop place bytes) f
  blank_fails f e c = after_blank (subst (λ w. IsNext (drop place bytes) n w) e here) (subst (λ rest. Fails (place + n) rest f) rest_is c)

  pub token_cuts : (k : TokenKind) (ts : List Token) → what ≡ piece.Token k → Cuts (place + n) (drop (place + n) bytes) ts
      → Cuts place (drop place bytes) (record { kind = k; start = place; end = place + n } ∷ ts)
  token_cuts k ts e c = token (subst (λ w. IsNext (drop place bytes) n w) e here) (subst (λ rest. Cuts (place + n) rest ts) rest_is c)

  pub token_fails : (k : TokenKind) (f : LexFault) → what ≡ piece.Token k → Fails (place + n) (drop (place + n) bytes) f
      → Fails place (drop place bytes) f
  token_fails k f e c =
      after_token (subst (λ w. IsNext (drop place bytes) n w) e here) (subst (λ rest. Fails (place + n) rest f) rest_is c)

-- the tokens so far and one more
pub pushed : (bytes : List ℕ) (out out' : List Token) (t : Token) (ts : List Token) → out' ≡ out ++ t ∷ []
    → Cuts 0 bytes (out ++ t ∷ ts) → Cuts 0 bytes (out' ++ ts)
pushed bytes out out' t ts e c =
    subst (λ x. Cuts 0 bytes x) (sym (append_assoc out (t ∷ []) ts) ∙ ap (λ (x : List Token). x ++ ts) (sym e)) c
