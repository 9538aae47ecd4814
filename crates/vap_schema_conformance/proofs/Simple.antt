-- A document is a value of a type that holds no other.
use Rattle.std.proofs.Common.{◌≡◌, ◌≤◌, ◌<◌, ◌^◌, ℕ, ℤ, true, List, Option, Some, None, is_some, Ok}
use Rattle.std.proofs.Common.{refl, ap, sym, ◌∙◌, true≢false, rules}
use Rattle.std.proofs.lemmas.Bool.{lt-ltb}
use Rattle.serde_json.specs.Data as json
use Rattle.serde_json.specs.Data.{Data, Num}
use Rattle.serde_json.specs.Find.{as_number, as_str}
use Rattle.cel_value.specs.Reading.{date_of, duration_of, timestamp_of}
use Rattle.cel_value.specs.Value.{code_points}
use Rattle.cel_value.specs.declared.value.Value as value
use Rattle.cel_value.specs.declared.cel_type.CelType as type
use Rattle.vap_schema.specs.Seen.{◌>>=◌, instant_of, seen, seen_int, seen_text, seen_time, within}
use Rattle.vap_schema_conformance.specs.Conformance.{IsValueOf, fault_in}
use Rattle.vap_schema_conformance.proofs.Values.{kept_within, no_fault}

string_is : (d : Data) (s : List ℕ) → as_str d ≡ Some s → d ≡ json.string s
string_is json.null s h = absurd (cc)
string_is (json.boolean b) s h = absurd (cc)
string_is (json.number n) s h = absurd (cc)
string_is (json.string t) s h = let same : t ≡ s = cc in ap json.string same
string_is (json.array ds) s h = absurd (cc)
string_is (json.object ms) s h = absurd (cc)

number_is : (d : Data) (n : Num) → as_number d ≡ Some n → d ≡ json.number n
number_is json.null n h = absurd (cc)
number_is (json.boolean b) n h = absurd (cc)
number_is (json.number m) n h = let same : m ≡ n = cc in ap json.number same
number_is (json.string s) n h = absurd (cc)
number_is (json.array ds) n h = absurd (cc)
number_is (json.object ms) n h = absurd (cc)

-- ---- integers

int_seen : (path : List ℕ) (n : Num) → seen path type.Int (json.number n) ≡ (seen_int path n >>= (λ z. Ok (value.Int z)))
int_seen path n = search (rules, type.the_lemmas)

int_of : (d : Data) (n : Num) → as_number d ≡ Some n → ((path : List ℕ) → fault_in (seen_int path n) ≡ None) → IsValueOf type.Int d
int_of d n is none path =
    ap (λ x. fault_in (seen path type.Int x)) (number_is d n is) ∙ ap fault_in (int_seen path n)
    ∙ no_fault (seen_int path n) _ (none path) (λ z. refl)

pub unsigned_is_value : (d : Data) (n : ℕ) → as_number d ≡ Some (json.unsigned n) → n < 2 ^ 63 → IsValueOf type.Int d
unsigned_is_value d n is small = int_of d (json.unsigned n) is (λ path. rw (lt-ltb n (2 ^ 63) small) refl)

pub negative_is_value : (d : Data) (z : ℤ) → as_number d ≡ Some (json.negative z) → IsValueOf type.Int d
negative_is_value d z is = int_of d (json.negative z) is (λ path. refl)

-- ---- texts

text_seen : (max : ℕ) (path s : List ℕ) → seen path (type.Text max) (json.string s) ≡ (seen_text max path s >>= (λ t. Ok (value.Text t)))
text_seen max path s = search (rules, type.the_lemmas)

pub text_is_value : (max : ℕ) (d : Data) (s : List ℕ) → as_str d ≡ Some s → code_points s ≤ max → IsValueOf (type.Text max) d
text_is_value max d s is short path =
    ap (λ x. fault_in (seen path (type.Text max) x)) (string_is d s is) ∙ ap fault_in (text_seen max path s)
    ∙ no_fault (seen_text max path s) _
    (no_fault (within max (code_points s) path) _ (kept_within max (code_points s) path short) (λ _. refl)) (λ t. refl)

-- ---- times

time_faultless : (o : Option ℤ) (path : List ℕ) → is_some o ≡ true → fault_in (seen_time o path) ≡ None
time_faultless None path h = absurd (true≢false (sym h))
time_faultless (Some n) path h = refl

duration_seen : (path s : List ℕ)
    → seen path type.Duration (json.string s) ≡ (seen_time (duration_of s) path >>= (λ n. Ok (value.Duration n)))
duration_seen path s = search (rules, type.the_lemmas)

pub duration_is_value : (d : Data) (s : List ℕ) → as_str d ≡ Some s → is_some (duration_of s) ≡ true → IsValueOf type.Duration d
duration_is_value d s is spelled path =
    ap (λ x. fault_in (seen path type.Duration x)) (string_is d s is) ∙ ap fault_in (duration_seen path s)
    ∙ no_fault (seen_time (duration_of s) path) _ (time_faultless (duration_of s) path spelled) (λ n. refl)

timestamp_seen : (path s : List ℕ)
    → seen path type.Timestamp (json.string s) ≡ (seen_time (instant_of s) path >>= (λ n. Ok (value.Timestamp n)))
timestamp_seen path s = search (rules, type.the_lemmas)

instant_of_date : (s : List ℕ) (t : Option ℤ) → t ≡ timestamp_of s → is_some (date_of s) ≡ true → is_some (instant_of s) ≡ true
unfolding instant_of
instant_of_date s None is h = rw (← is) h
instant_of_date s (Some n) is h = rw (← is) refl

instant_of_timestamp : (s : List ℕ) (t : Option ℤ) → t ≡ timestamp_of s → is_some t ≡ true → is_some (instant_of s) ≡ true
unfolding instant_of
instant_of_timestamp s None is h = absurd (true≢false (sym h))
instant_of_timestamp s (Some n) is h = rw (← is) refl

instant_is_value : (d : Data) (s : List ℕ) → as_str d ≡ Some s → is_some (instant_of s) ≡ true → IsValueOf type.Timestamp d
instant_is_value d s is spelled path =
    ap (λ x. fault_in (seen path type.Timestamp x)) (string_is d s is) ∙ ap fault_in (timestamp_seen path s)
    ∙ no_fault (seen_time (instant_of s) path) _ (time_faultless (instant_of s) path spelled) (λ n. refl)

pub timestamp_is_value : (d : Data) (s : List ℕ) → as_str d ≡ Some s → is_some (timestamp_of s) ≡ true → IsValueOf type.Timestamp d
timestamp_is_value d s is h = instant_is_value d s is (instant_of_timestamp s (timestamp_of s) refl h)

pub date_is_value : (d : Data) (s : List ℕ) → as_str d ≡ Some s → is_some (date_of s) ≡ true → IsValueOf type.Timestamp d
date_is_value d s is h = instant_is_value d s is (instant_of_date s (timestamp_of s) refl h)
