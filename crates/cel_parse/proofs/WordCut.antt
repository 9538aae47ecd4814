-- Where a word ends, a text may be cut.
use Rattle.std.proofs.Common.{◌≡◌, ℕ, zero, suc, ◌+◌, ◌-◌, ◌<◌, ◌≤◌, true, List}
use Rattle.std.proofs.Common.{length, take, drop, get_or, refl, ap, subst, arith, length-drop}
use Rattle.std.specs.List.{prefix_len}
use Rattle.std.specs.Str.{IsUtf8, IsCharBoundary}
use Rattle.std.proofs.lemmas.Bool.Decides.{nat_tests}
use Rattle.std.proofs.lemmas.List.{take_rest, get_or-drop}
use Rattle.std.proofs.lemmas.List.Sums.{prefix_len-le-length, prefix_len_passes}
use Rattle.std.proofs.lemmas.Str.{IsCharBoundary-after_ascii}
use Rattle.cel_lex.specs.Bytes.{is_name}

name_ascii : (c : ℕ) → is_name c ≡ true → c < 128
name_ascii c e = grind (arith, nat_tests)

some_byte : (n : ℕ) → (n ≡ 0 → ⊥) → 0 < n
some_byte zero h = absurd (h refl)
some_byte (suc n) h = omega arith

pub word_cut : (bytes : List ℕ) (place n : ℕ) → IsUtf8 bytes → place < length bytes → (n ≡ 0 → ⊥)
    → n ≡ prefix_len is_name (take (length bytes - place) (drop place bytes)) → IsCharBoundary bytes (place + n)
word_cut bytes place n utf8 lt some is =
    let rest : prefix_len is_name (take (length bytes - place) (drop place bytes)) ≡ prefix_len is_name (drop place bytes) =
    ap (prefix_len is_name) (take_rest bytes place) in
    let pos = some_byte n some in
    let within : prefix_len is_name (drop place bytes) ≤ length (drop place bytes) = prefix_len-le-length is_name (drop place bytes) in
    let short : length (drop place bytes) ≡ length bytes - place = length-drop place bytes in
    let last : is_name (get_or (drop place bytes) (n - 1) 0) ≡ true =
    prefix_len_passes is_name (drop place bytes) (n - 1) 0 (omega arith) in
    let same : get_or (drop place bytes) (n - 1) 0 ≡ get_or bytes (place + (n - 1)) 0 = get_or-drop place bytes (n - 1) 0 in
    let low : get_or (drop place bytes) (n - 1) 0 < 128 = name_ascii (get_or (drop place bytes) (n - 1) 0) last in
    subst (λ x. IsCharBoundary bytes x) (let e : place + (n - 1) + 1 ≡ place + n = omega arith in e)
    (IsCharBoundary-after_ascii bytes (place + (n - 1)) utf8 (omega arith) (omega arith))
