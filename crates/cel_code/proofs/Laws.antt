-- A reader and a spelling that belong together: what is read is spelt so, and what is spelt so is read.
use Rattle.std.proofs.Common.{◌≡◌, ℕ, zero, suc, ◌+◌, ◌^◌, ◌<◌, ◌≤◌, Bool, true, false, cond, ltb, ◌&&◌, List, [], ◌∷◌, ◌++◌}
use Rattle.std.proofs.Common.{length, get_or, take, drop, Option, Some, None, Result, Ok, Err, refl, sym, ap, subst, ◌∙◌}
use Rattle.std.proofs.Common.{append_assoc, arith, inl, inr, nat_lt}
use Rattle.std.specs.Int.{Width, w32, w64, byte_len, from_be_bytes, to_be_bytes}
use Rattle.std.specs.List.{flat_map}
use Rattle.std.specs.Str.{is_utf8}
use Rattle.std.proofs.lemmas.Bool.{cases_lt, ltb-false, le-ltb, ltb-true, lt-ltb, and_parts, and_from}
use Rattle.std.proofs.lemmas.List.{take_at, drop_at, take-append-drop, length-append, length-take, get_or-drop, get_or-take, get_or_past}
use Rattle.std.proofs.lemmas.List.Concat.{flat_map-cons}
use Rattle.std.proofs.lemmas.Nat.{be_bytes_4, be_bytes_8, from_be_bytes-to_be_bytes_4, from_be_bytes-to_be_bytes_8}
use Rattle.cel_code.specs.declared.fault.ReadFault.{ReadFault}
use Rattle.cel_code.specs.declared.fault.ReadFault.TheVariants.{Truncated, BadTable}
use Rattle.cel_code.specs.Spelling.{text, is_text, truth, listed, is_list, each_after, is_short}
use Rattle.cel_code.specs.Reading.{◌>>=◌, Reader, both, made, tested, number_at, so_many, text_at, truth_at, items_at, list_at}

abbrev pub IsBytes : List ℕ → Type 0
IsBytes bytes = (i : ℕ) → get_or bytes i 0 < 256

IsBytes-drop : (n : ℕ) (bytes : List ℕ) → IsBytes bytes → IsBytes (drop n bytes)
IsBytes-drop n bytes h i = rw get_or-drop (h (n + i))

IsBytes-take : (n : ℕ) (bytes : List ℕ) → IsBytes bytes → IsBytes (take n bytes)
IsBytes-take n bytes h i =
    elim (cases_lt i n) [
      | inl lt ↦ rw (get_or-take n bytes i 0 lt) (h i)
      | inr le ↦ rw (get_or_past (take n bytes) i 0 (omega (arith, length-take n bytes))) (omega arith)
    ]

pub IsBytes-rest : (b : ℕ) (bytes : List ℕ) → IsBytes (b ∷ bytes) → IsBytes bytes
IsBytes-rest b bytes h i = h (suc i)

-- the value of a step that did not fail
pub bind_ok : {A B : Type 0} (r : Result A ReadFault) (f : A → Result B ReadFault) (y : B) → (r >>= f) ≡ Ok y
    → (x : A) × (r ≡ Ok x) × (f x ≡ Ok y)
bind_ok (Ok x) f y e = (x, refl, e)
bind_ok (Err d) f y e = absurd cc

-- tests that did not fail
pub guard_ok : {A : Type 0} (b : Bool) (d : ReadFault) (x y : A) → cond b (Err d) (Ok x) ≡ Ok y → (b ≡ false) × (x ≡ y)
guard_ok true d x y e = absurd cc
guard_ok false d x y e = (refl, cc)

pub test_ok : {A : Type 0} (b : Bool) (d : ReadFault) (x y : A) → cond b (Ok x) (Err d) ≡ Ok y → (b ≡ true) × (x ≡ y)
test_ok true d x y e = (refl, cc)
test_ok false d x y e = absurd cc

abbrev done : {A : Type 0} → A → Result A ReadFault
done x = Ok x

pub ok_is : {A : Type 0} (x y : A) → done x ≡ done y → x ≡ y
ok_is x y e = cc

-- what a reader took from the front
pub record Takes (bytes spelt rest : List ℕ) : Type 0 where
  pub parts : bytes ≡ spelt ++ rest
  pub rest_fits : IsBytes rest

pub Takes-then : (a x b y c : List ℕ) → Takes a x b → Takes b y c → Takes a (x ++ y) c
Takes-then a x b y c p q = record {
  parts = p.parts ∙ ap (λ (t : List ℕ). x ++ t) q.parts ∙ sym (append_assoc x y c);
  rest_fits = q.rest_fits;
}

pub tag_takes : (tag : ℕ) (bytes spelt rest : List ℕ) → Takes bytes spelt rest → Takes (tag ∷ bytes) (tag ∷ spelt) rest
tag_takes tag bytes spelt rest t = record { parts = ap (λ (bs : List ℕ). tag ∷ bs) t.parts; rest_fits = t.rest_fits }

pub record Law {A : Type 0} (read : Reader A) (spell : A → List ℕ) (fits : A → Bool) : Type 0 where
  pub takes : (bytes : List ℕ) (x : A × List ℕ) → IsBytes bytes → read bytes ≡ Ok x → Takes bytes (spell x.0) x.1 × (fits x.0 ≡ true)
  pub again : (x : A) (rest : List ℕ) → fits x ≡ true → read (spell x ++ rest) ≡ Ok (x, rest)

-- ---- one after the other

both_takes : {A B : Type 0} (r : Reader A) (v : A → List ℕ) (f : A → Bool) (s : Reader B) (w : B → List ℕ) (g : B → Bool) → Law r v f
    → Law s w g
    → (bytes : List ℕ) (p : (A × B) × List ℕ) → IsBytes bytes → both r s bytes ≡ Ok p
    → Takes bytes (v p.0.0 ++ w p.0.1) p.1 × ((f p.0.0 && g p.0.1) ≡ true)
both_takes {A} {B} r v f s w g first second bytes p h e =
    let a = bind_ok (r bytes) (λ x. s x.1 >>= λ y. Ok ((x.0, y.0), y.1)) p e in
    let b = bind_ok (s a.0.1) (λ y. Ok ((a.0.0, y.0), y.1)) p a.2 in
    let t = first.takes bytes a.0 h a.1 in
    let u = second.takes a.0.1 b.0 t.0.rest_fits b.1 in
    let made : (A × B) × List ℕ = ((a.0.0, b.0.0), b.0.1) in
    subst (λ (q : (A × B) × List ℕ). Takes bytes (v q.0.0 ++ w q.0.1) q.1 × ((f q.0.0 && g q.0.1) ≡ true)) (ok_is made p b.2)
    (Takes-then bytes (v a.0.0) a.0.1 (w b.0.0) b.0.1 t.0 u.0, and_from (f a.0.0) (g b.0.0) t.1 u.1)

both_again : {A B : Type 0} (r : Reader A) (v : A → List ℕ) (f : A → Bool) (s : Reader B) (w : B → List ℕ) (g : B → Bool) → Law r v f
    → Law s w g
    → (p : A × B) (rest : List ℕ) → (f p.0 && g p.1) ≡ true → both r s ((v p.0 ++ w p.1) ++ rest) ≡ Ok (p, rest)
both_again {A} {B} r v f s w g first second p rest h =
    let k = and_parts (f p.0) (g p.1) h in
    ap (both r s) (append_assoc (v p.0) (w p.1) rest) ∙ rw (first.again p.0 (w p.1 ++ rest) k.0, second.again p.1 rest k.1) refl

pub both_law : {A B : Type 0} (r : Reader A) (v : A → List ℕ) (f : A → Bool) (s : Reader B) (w : B → List ℕ) (g : B → Bool) → Law r v f
    → Law s w g
    → Law (both r s) (λ p. v p.0 ++ w p.1) (λ p. f p.0 && g p.1)
both_law r v f s w g first second = record { takes = both_takes r v f s w g first second; again = both_again r v f s w g first second }

-- ---- made of what is read

pub made_takes : {A B : Type 0} (r : Reader A) (v : A → List ℕ) (f : A → Bool) (make : A → B) → Law r v f
    → (bytes : List ℕ) (y : B × List ℕ) → IsBytes bytes → made make r bytes ≡ Ok y
    → (x : A) × (make x ≡ y.0) × Takes bytes (v x) y.1 × (f x ≡ true)
made_takes {A} {B} r v f make law bytes y h e =
    let a = bind_ok (r bytes) (λ x. Ok (make x.0, x.1)) y e in
    let t = law.takes bytes a.0 h a.1 in
    let which : (make a.0.0, a.0.1) ≡ y = ok_is (make a.0.0, a.0.1) y a.2 in
    (a.0.0, ap (λ (q : B × List ℕ). q.0) which, subst (λ (q : B × List ℕ). Takes bytes (v a.0.0) q.1) which t.0, t.1)

pub made_again : {A B : Type 0} (r : Reader A) (v : A → List ℕ) (f : A → Bool) (make : A → B) → Law r v f
    → (x : A) (rest : List ℕ) → f x ≡ true → made make r (v x ++ rest) ≡ Ok (make x, rest)
made_again r v f make law x rest h = rw (law.again x rest h) refl

-- if each value is made of its parts
pub made_law : {A B : Type 0} (r : Reader A) (v : A → List ℕ) (f : A → Bool) (make : A → B) (parts : B → A) → Law r v f
    → ((x : A) → parts (make x) ≡ x) → ((y : B) → make (parts y) ≡ y) → Law (made make r) (λ y. v (parts y)) (λ y. f (parts y))
made_law {A} {B} r v f make parts law back forth = record {
  takes = λ bytes y h e. let t = made_takes r v f make law bytes y h e in
      let x-is : t.0 ≡ parts y.0 = sym (back t.0) ∙ ap parts t.1 in
      (subst (λ (x : A). Takes bytes (v x) y.1) x-is t.2, subst (λ (x : A). f x ≡ true) x-is t.3);
  again = λ y rest h. made_again r v f make law (parts y) rest h ∙ ap (λ (z : B). Ok (z, rest)) (forth y);
}

-- ---- tested

pub tested_law : {A : Type 0} (r : Reader A) (v : A → List ℕ) (f test : A → Bool) → Law r v f → Law (tested test r) v (λ x. f x && test x)
tested_law {A} r v f test law = record {
  takes = λ bytes x h e.
      let a = bind_ok (r bytes) (λ x. cond (test x.0) (Ok x) (Err BadTable)) x e in
      let g = test_ok (test a.0.0) BadTable a.0 x a.2 in
      let t = law.takes bytes a.0 h a.1 in
      subst (λ (y : A × List ℕ). Takes bytes (v y.0) y.1 × ((f y.0 && test y.0) ≡ true)) g.1 (t.0, and_from (f a.0.0) (test a.0.0) t.1 g.0);
  again = λ x rest h. let k = and_parts (f x) (test x) h in rw (law.again x rest k.0, k.1) refl;
}

-- ---- numbers

pub record IsWide (w : Width) (limit : ℕ) : Type 0 where
  pub len : (n : ℕ) → length (to_be_bytes w n) ≡ byte_len w
  pub back : (bytes : List ℕ) → length bytes ≡ byte_len w → IsBytes bytes → to_be_bytes w (from_be_bytes w bytes) ≡ bytes
  pub again : (n : ℕ) → n < limit → from_be_bytes w (to_be_bytes w n) ≡ n
  pub below : (bytes : List ℕ) → IsBytes bytes → from_be_bytes w bytes < limit

pub wide32 : IsWide w32 (2 ^ 32)
wide32 = record {
  len = λ n. refl;
  back = λ bytes len fits. be_bytes_4 bytes _ len fits refl;
  again = λ n lt. from_be_bytes-to_be_bytes_4 n lt;
  below = λ bytes fits. omega (arith, fits 0, fits 1, fits 2, fits 3);
}

pub wide64 : IsWide w64 (2 ^ 64)
wide64 = record {
  len = λ n. refl;
  back = λ bytes len fits. be_bytes_8 bytes _ len fits refl;
  again = λ n lt. from_be_bytes-to_be_bytes_8 n lt;
  below = λ bytes fits. omega (arith, fits 0, fits 1, fits 2, fits 3, fits 4, fits 5, fits 6, fits 7);
}

-- a front of so many bytes
many_takes : (n : ℕ) (bytes : List ℕ) (x : List ℕ × List ℕ) → IsBytes bytes → so_many n bytes ≡ Ok x
    → Takes bytes x.0 x.1 × (length x.0 ≡ n) × IsBytes x.0
many_takes n bytes x fits e =
    let g = guard_ok (ltb (length bytes) n) Truncated (take n bytes, drop n bytes) x e in
    let long : n ≤ length bytes = ltb-false _ _ g.0 in
    subst (λ (y : List ℕ × List ℕ). Takes bytes y.0 y.1 × (length y.0 ≡ n) × IsBytes y.0) g.1 (
      record { parts = sym (take-append-drop n bytes); rest_fits = IsBytes-drop n bytes fits },
      omega (arith, length-take n bytes),
      IsBytes-take n bytes fits,
    )

many_again : (front rest : List ℕ) (n : ℕ) → length front ≡ n → so_many n (front ++ rest) ≡ Ok (front, rest)
many_again front rest n len =
    let long : ltb (length (front ++ rest)) n ≡ false = le-ltb _ _ (omega (arith, length-append front rest)) in
    rw (long, take_at front rest n len, drop_at front rest n len) refl

pub number_law : (w : Width) (limit : ℕ) → IsWide w limit → Law (number_at w) (to_be_bytes w) (λ n. nat_lt n limit)
number_law w limit wide = record {
  takes = λ bytes x fits e.
      let g = guard_ok (ltb (length bytes) (byte_len w)) Truncated
      (from_be_bytes w (take (byte_len w) bytes), drop (byte_len w) bytes) x e in
      let long : byte_len w ≤ length bytes = ltb-false _ _ g.0 in
      let front : to_be_bytes w (from_be_bytes w (take (byte_len w) bytes)) ≡ take (byte_len w) bytes =
      wide.back (take (byte_len w) bytes) (omega (arith, length-take (byte_len w) bytes)) (IsBytes-take (byte_len w) bytes fits) in
      subst (λ (y : ℕ × List ℕ). Takes bytes (to_be_bytes w y.0) y.1 × (nat_lt y.0 limit ≡ true)) g.1 (
        record { parts = rw front (sym (take-append-drop (byte_len w) bytes)); rest_fits = IsBytes-drop (byte_len w) bytes fits },
        lt-ltb _ _ (wide.below (take (byte_len w) bytes) (IsBytes-take (byte_len w) bytes fits)),
      );
  again = λ n rest lt.
      let len = wide.len n in
      let long : ltb (length (to_be_bytes w n ++ rest)) (byte_len w) ≡ false =
      le-ltb _ _ (omega (arith, length-append (to_be_bytes w n) rest)) in
      rw (
        long,
        take_at (to_be_bytes w n) rest (byte_len w) len,
        drop_at (to_be_bytes w n) rest (byte_len w) len,
        wide.again n (ltb-true _ _ lt),
      ) refl;
}

pub short_law : Law (number_at w32) (to_be_bytes w32) is_short
short_law = number_law w32 (2 ^ 32) wide32

pub long_law : Law (number_at w64) (to_be_bytes w64) (λ n. nat_lt n (2 ^ 64))
long_law = number_law w64 (2 ^ 64) wide64

-- ---- texts

abbrev counted_at : Reader (List ℕ)
counted_at bytes = number_at w32 bytes >>= λ n. so_many n.0 n.1

counted_law : Law counted_at text (λ bytes. is_short (length bytes))
counted_law = record {
  takes = λ bytes x h e.
      let a = bind_ok (number_at w32 bytes) (λ n. so_many n.0 n.1) x e in
      let t = short_law.takes bytes a.0 h a.1 in
      let m = many_takes a.0.0 a.0.1 x t.0.rest_fits a.2 in
      let whole = Takes-then bytes (to_be_bytes w32 a.0.0) a.0.1 x.0 x.1 t.0 m.0 in
      (subst (λ (k : ℕ). Takes bytes (to_be_bytes w32 k ++ x.0) x.1) (sym m.1) whole, subst (λ (k : ℕ). is_short k ≡ true) (sym m.1) t.1);
  again = λ x rest h.
      ap counted_at (append_assoc (to_be_bytes w32 (length x)) x rest)
      ∙ rw (short_law.again (length x) (x ++ rest) h) (many_again x rest (length x) refl);
}

pub text_law : Law text_at text is_text
unfolding text_at
text_law = tested_law counted_at text (λ bytes. is_short (length bytes)) is_utf8 counted_law

-- ---- truth values

truth_takes : (bytes : List ℕ) (x : Bool × List ℕ) → IsBytes bytes → truth_at bytes ≡ Ok x → Takes bytes (truth x.0) x.1 × (true ≡ true)
unfolding truth_at
truth_takes [] x h e = absurd cc
truth_takes (zero ∷ bytes) x h e =
    subst (λ (y : Bool × List ℕ). Takes (0 ∷ bytes) (truth y.0) y.1 × (true ≡ true))
    (ok_is (false, bytes) x e) (record { parts = refl; rest_fits = IsBytes-rest 0 bytes h }, refl)
truth_takes (suc zero ∷ bytes) x h e =
    subst (λ (y : Bool × List ℕ). Takes (1 ∷ bytes) (truth y.0) y.1 × (true ≡ true))
    (ok_is (true, bytes) x e) (record { parts = refl; rest_fits = IsBytes-rest 1 bytes h }, refl)
truth_takes (suc (suc b) ∷ bytes) x h e = absurd cc

truth_again : (b : Bool) (rest : List ℕ) → true ≡ true → truth_at (truth b ++ rest) ≡ Ok (b, rest)
unfolding truth_at
truth_again true rest h = refl
truth_again false rest h = refl

pub truth_law : Law truth_at truth (λ b. true)
truth_law = record { takes = truth_takes; again = truth_again }

-- ---- lists

pub items_take : {A : Type 0} (read : Option A → Reader A) (v : A → List ℕ) (fits : Option A → A → Bool)
    → ((last : Option A) → Law (read last) v (fits last))
    → (last : Option A) (n : ℕ) (bytes : List ℕ) (x : List A × List ℕ) → IsBytes bytes → items_at read last n bytes ≡ Ok x
    → Takes bytes (flat_map v x.0) x.1 × (length x.0 ≡ n) × (each_after fits last x.0 ≡ true)
unfolding items_at
items_take {A} read v fits law last zero bytes x h e =
    subst (λ (y : List A × List ℕ). Takes bytes (flat_map v y.0) y.1 × (length y.0 ≡ 0) × (each_after fits last y.0 ≡ true))
    (ok_is ([], bytes) x e) (record { parts = refl; rest_fits = h }, refl, refl)
items_take {A} read v fits law last (suc n) bytes x h e =
    let a = bind_ok (read last bytes) (λ x. items_at read (Some x.0) n x.1 >>= λ xs. Ok (x.0 ∷ xs.0, xs.1)) x e in
    let b = bind_ok (items_at read (Some a.0.0) n a.0.1) (λ xs. Ok (a.0.0 ∷ xs.0, xs.1)) x a.2 in
    let first = (law last).takes bytes a.0 h a.1 in
    let second = items_take read v fits law (Some a.0.0) n a.0.1 b.0 first.0.rest_fits b.1 in
    let whole = Takes-then bytes (v a.0.0) a.0.1 (flat_map v b.0.0) b.0.1 first.0 second.0 in
    let made : List A × List ℕ = (a.0.0 ∷ b.0.0, b.0.1) in
    subst (λ (y : List A × List ℕ). Takes bytes (flat_map v y.0) y.1 × (length y.0 ≡ suc n) × (each_after fits last y.0 ≡ true))
    (ok_is made x b.2)
    (rw flat_map-cons whole, ap suc second.1, and_from (fits last a.0.0) (each_after fits (Some a.0.0) b.0.0) first.1 second.2)

pub items_again : {A : Type 0} (read : Option A → Reader A) (v : A → List ℕ) (fits : Option A → A → Bool)
    → ((last : Option A) → Law (read last) v (fits last))
    → (last : Option A) (xs : List A) (rest : List ℕ) → each_after fits last xs ≡ true
    → items_at read last (length xs) (flat_map v xs ++ rest) ≡ Ok (xs, rest)
unfolding items_at
items_again read v fits law last [] rest h = refl
items_again read v fits law last (x ∷ xs) rest h =
    let k = and_parts (fits last x) (each_after fits (Some x) xs) h in
    let regrouped : flat_map v (x ∷ xs) ++ rest ≡ v x ++ (flat_map v xs ++ rest) =
    ap (λ (y : List ℕ). y ++ rest) (flat_map-cons v x xs) ∙ append_assoc (v x) (flat_map v xs) rest in
    ap (items_at read last (suc (length xs))) regrouped
    ∙ rw ((law last).again x (flat_map v xs ++ rest) k.0, items_again read v fits law (Some x) xs rest k.1) refl

pub list_law : {A : Type 0} (read : Option A → Reader A) (v : A → List ℕ) (fits : Option A → A → Bool)
    → ((last : Option A) → Law (read last) v (fits last))
    → Law (list_at read) (listed v) (is_list fits)
list_law {A} read v fits law = record {
  takes = λ bytes x h e.
      let a = bind_ok (number_at w32 bytes) (λ n. items_at read None n.0 n.1) x e in
      let t = short_law.takes bytes a.0 h a.1 in
      let m = items_take read v fits law None a.0.0 a.0.1 x t.0.rest_fits a.2 in
      let whole = Takes-then bytes (to_be_bytes w32 a.0.0) a.0.1 (flat_map v x.0) x.1 t.0 m.0 in (
        subst (λ (k : ℕ). Takes bytes (to_be_bytes w32 k ++ flat_map v x.0) x.1) (sym m.1) whole,
        and_from (is_short (length x.0)) (each_after fits None x.0) (subst (λ (k : ℕ). is_short k ≡ true) (sym m.1) t.1) m.2,
      );
  again = λ xs rest h.
      let k = and_parts (is_short (length xs)) (each_after fits None xs) h in
      ap (list_at read) (append_assoc (to_be_bytes w32 (length xs)) (flat_map v xs) rest)
      ∙ rw (short_law.again (length xs) (flat_map v xs ++ rest) k.0) (items_again read v fits law None xs rest k.1);
}
