-- A text has no more tokens than bytes.
use Rattle.std.proofs.Common.{◌≡◌, ℕ, ◌≤◌, List, length, sym, subst, arith, length-drop}
use Rattle.cel_lex.specs.declared.token.Token.{Token}
use Rattle.cel_lex.specs.Lexis.{Cuts, end, blank, token, IsCut}

tokens_le : {place : ℕ} {bytes : List ℕ} {ts : List Token} → Cuts place bytes ts → length ts ≤ length bytes
tokens_le end = omega arith
tokens_le (blank {bytes = bytes} {n = n} next r) = let le = tokens_le r in let short = length-drop n bytes in omega arith
tokens_le (token {bytes = bytes} {n = n} next r) =
    let le = tokens_le r in let short = length-drop n bytes in let some = next.some in let here = next.here in omega arith

pub few_tokens : {text : List ℕ} {ts : List Token} → IsCut text ts → length ts ≤ 16384
few_tokens c = let le = tokens_le c.cut in let short = c.short in omega arith

pub few_of : {text : List ℕ} {us ts : List Token} → IsCut text us → ts ≡ us → length ts ≤ 16384
few_of c e = subst (λ (x : List Token). length x ≤ 16384) (sym e) (few_tokens c)
