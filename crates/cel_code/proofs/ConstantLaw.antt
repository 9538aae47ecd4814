-- Constants: what is read is spelt so, and what is spelt so is read.
use Rattle.std.proofs.Common.{◌≡◌, ℕ, ℤ, pos, negsuc, suc, ◌<◌, ◌^◌, Bool, true, nat_lt, List, ◌∷◌, ◌++◌, Ok}
use Rattle.std.proofs.Common.{refl, sym, ap, subst, ◌∙◌, rules, ◌-◌, arith, inl, inr}
use Rattle.std.specs.Int.{w64, to_be_bytes, cast_signed, cast_unsigned}
use Rattle.std.proofs.lemmas.Bool.{true≢false, ltb-true, lt-ltb, cases_lt}
use Rattle.std.proofs.lemmas.Int.{of_z-to_z, to_z_pos}
use Rattle.std.proofs.Math.Facts.{to_z-neg}
use Rattle.cel_value.specs.declared.value.Value as V
use Rattle.cel_value.specs.declared.value.Value.{Value, out-Value, roll-Value}
use Rattle.cel_value.specs.declared.value.Value.TheOpen.{Value-F}
use Rattle.cel_value.specs.declared.value.Value.TheVariants.{rolls-Null, rolls-Bool, rolls-Int, rolls-Uint, rolls-Text}
use Rattle.cel_value.proofs.Levels.{out_roll-Value}
use Rattle.cel_code.specs.declared.fault.ReadFault.TheVariants.{BadTable}
use Rattle.cel_code.specs.Spelling as spelling
use Rattle.cel_code.specs.Spelling.{truth, text, is_text, signed, is_signed, constant, is_constant, is_constant_at}
use Rattle.cel_code.specs.Reading.{Reader, made, number_at, truth_at, text_at, constant_readers, constant_at}
use Rattle.cel_code.proofs.Laws.{IsBytes, Takes, Law, made_again, long_law, truth_law, text_law}
use Rattle.cel_code.proofs.Tables.{◌also◌, Entry, Entries, entry, entry_where, bare, tagged_takes}

roll_out-Value : (v : Value) → roll-Value (out-Value v) ≡ v
roll_out-Value v = search (rules, V.the_lemmas)

at_values : (P : Value → Type 0) → ((p : Value-F Value) → P (roll-Value p)) → (v : Value) → P v
at_values P h v = subst P (roll_out-Value v) (h (out-Value v))

constant_of : (p : Value-F Value) (v : Value) → roll-Value p ≡ v → constant v ≡ spelling.constant_at p
constant_of p v e = ap constant (sym e) ∙ ap spelling.constant_at (out_roll-Value p)

is_constant_of : (p : Value-F Value) (v : Value) → roll-Value p ≡ v → is_constant v ≡ is_constant_at p
is_constant_of p v e = ap is_constant (sym e) ∙ ap is_constant_at (out_roll-Value p)

-- every number of 64 bits is that of a signed one
signed_fits : (n : ℕ) → n < 2 ^ 64 → is_signed (cast_signed w64 n) ≡ true
signed_fits n h =
    elim (cases_lt n (2 ^ 63)) [
      | inl lt ↦ ap is_signed (to_z_pos w64 n lt) ∙ lt-ltb n (2 ^ 63) lt
      | inr le ↦
          let k : ℕ = 2 ^ 64 - suc n in
          let e : n ≡ 2 ^ 64 - suc k = omega arith in
          let lt : k < 2 ^ 63 = omega arith in
          ap (λ (m : ℕ). is_signed (cast_signed w64 m)) e ∙ ap is_signed (to_z-neg w64 k lt) ∙ lt-ltb k (2 ^ 63) lt
    ]

unsigned_fits : (z : ℤ) → is_signed z ≡ true → (cast_unsigned w64 z < 2 ^ 64) × (cast_signed w64 (cast_unsigned w64 z) ≡ z)
unsigned_fits (pos n) h = let lt : n < 2 ^ 63 = ltb-true _ _ h in (omega arith, to_z_pos w64 n lt)
unsigned_fits (negsuc k) h = let lt : k < 2 ^ 63 = ltb-true _ _ h in (omega arith, to_z-neg w64 k lt)

-- ---- what is read

-- a constant over what is read
over : {A : Type 0} (r : Reader A) (v : A → List ℕ) (f : A → Bool) → Law r v f → (level : A → Value-F Value) (make : A → Value) (tag : ℕ)
    → ((x : A) → roll-Value (level x) ≡ make x) → ((x : A) → spelling.constant_at (level x) ≡ tag ∷ v x)
    → ((x : A) → is_constant_at (level x) ≡ f x) → Entry constant is_constant tag (made make r)
over r v f law level make tag e spelt fits =
    entry constant is_constant r v f law make tag
    (λ x. constant_of (level x) (make x) (e x) ∙ spelt x) (λ x. is_constant_of (level x) (make x) (e x) ∙ fits x)

abbrev signed_of : ℕ → Value
signed_of n = V.Int (cast_signed w64 n)

-- a signed number is spelt as the number that it is read of
signed_is : (n : ℕ) → nat_lt n (2 ^ 64) ≡ true → (constant (signed_of n) ≡ 2 ∷ to_be_bytes w64 n) × (is_constant (signed_of n) ≡ true)
signed_is n h =
    let below : n < 2 ^ 64 = ltb-true _ _ h in
    let p : Value-F Value = Value-F.Int (cast_signed w64 n) in
    let e : roll-Value p ≡ signed_of n = rolls-Int (cast_signed w64 n) in (
      constant_of p (signed_of n) e ∙ ap (λ (m : ℕ). 2 ∷ to_be_bytes w64 m) (of_z-to_z w64 n below),
      is_constant_of p (signed_of n) e ∙ signed_fits n below,
    )

entries : Entries constant is_constant 0 constant_readers
entries =
    bare constant is_constant V.Null 0 (constant_of Value-F.Null V.Null rolls-Null) (is_constant_of Value-F.Null V.Null rolls-Null)
    also over truth_at truth (λ _. true) truth_law (λ b. Value-F.Bool b) (λ b. V.Bool b) 1 (λ b. rolls-Bool b) (λ _. refl) (λ _. refl)
    also entry_where constant is_constant (number_at w64) (to_be_bytes w64) (λ n. nat_lt n (2 ^ 64)) long_law signed_of 2 signed_is
    also over (number_at w64) (to_be_bytes w64) (λ n. nat_lt n (2 ^ 64)) long_law (λ n. Value-F.Uint n) (λ n. V.Uint n) 3
    (λ n. rolls-Uint n) (λ _. refl) (λ _. refl)
    also over text_at text is_text text_law (λ t. Value-F.Text t) (λ t. V.Text t) 4 (λ t. rolls-Text t) (λ _. refl) (λ _. refl)
    also tt

constant_takes : (bytes : List ℕ) (x : Value × List ℕ) → IsBytes bytes → constant_at bytes ≡ Ok x
    → Takes bytes (constant x.0) x.1 × (is_constant x.0 ≡ true)
unfolding constant_at
constant_takes bytes x h e = tagged_takes constant is_constant BadTable constant_readers entries bytes x h e

-- ---- what is spelt

level_again : (p : Value-F Value) (rest : List ℕ) → is_constant_at p ≡ true
    → constant_at (spelling.constant_at p ++ rest) ≡ Ok (roll-Value p, rest)
unfolding constant_at
level_again Value-F.Null rest h = ap (λ (v : Value). Ok (v, rest)) (sym rolls-Null)
level_again (Value-F.Bool b) rest h =
    made_again truth_at truth (λ _. true) (λ b. V.Bool b) truth_law b rest refl ∙ ap (λ (v : Value). Ok (v, rest)) (sym (rolls-Bool b))
level_again (Value-F.Int n) rest h =
    let p = unsigned_fits n h in
    made_again (number_at w64) (to_be_bytes w64) (λ n. nat_lt n (2 ^ 64)) signed_of long_law (cast_unsigned w64 n) rest (lt-ltb _ _ p.0)
    ∙ ap (λ (m : ℤ). Ok (V.Int m, rest)) p.1 ∙ ap (λ (v : Value). Ok (v, rest)) (sym (rolls-Int n))
level_again (Value-F.Uint n) rest h =
    made_again (number_at w64) (to_be_bytes w64) (λ n. nat_lt n (2 ^ 64)) (λ n. V.Uint n) long_law n rest h
    ∙ ap (λ (v : Value). Ok (v, rest)) (sym (rolls-Uint n))
level_again (Value-F.Timestamp n) rest h = absurd (true≢false (sym h))
level_again (Value-F.Duration n) rest h = absurd (true≢false (sym h))
level_again (Value-F.Text bytes) rest h =
    made_again text_at text is_text (λ s. V.Text s) text_law bytes rest h ∙ ap (λ (v : Value). Ok (v, rest)) (sym (rolls-Text bytes))
level_again (Value-F.List vs) rest h = absurd (true≢false (sym h))
level_again (Value-F.Map es) rest h = absurd (true≢false (sym h))
level_again (Value-F.Object es) rest h = absurd (true≢false (sym h))
level_again Value-F.Opaque rest h = absurd (true≢false (sym h))

abbrev IsAgain : Value → Type 0
IsAgain v = (rest : List ℕ) → is_constant v ≡ true → constant_at (constant v ++ rest) ≡ Ok (v, rest)

rolled_again : (p : Value-F Value) → IsAgain (roll-Value p)
rolled_again p =
    subst
    (λ (q : Value-F Value). (rest : List ℕ) → is_constant_at q ≡ true
    → constant_at (spelling.constant_at q ++ rest) ≡ Ok (roll-Value p, rest))
    (sym (out_roll-Value p)) (level_again p)

pub constant_law : Law constant_at constant is_constant
constant_law = record {
  takes = constant_takes;
  again = at_values IsAgain rolled_again;
}
