-- Tables of readers: what is read after a tag is spelt with the tag in front.
use Rattle.std.proofs.Common.{◌≡◌, ℕ, zero, suc, ◌+◌, Bool, true, false, not, cond, List, [], ◌∷◌, ◌++◌, Ok}
use Rattle.std.proofs.Common.{refl, sym, ap, subst, ◌∙◌, slice_get, arith}
use Rattle.cel_code.specs.declared.fault.ReadFault.{ReadFault}
use Rattle.cel_code.specs.Reading.{Reader, made, nothing, refused, read_by, tagged}
use Rattle.cel_code.proofs.Laws.{IsBytes, IsBytes-rest, Takes, tag_takes, Law, ok_is, made_takes}

-- what is read after a tag is something that is spelt with the tag in front
abbrev pub Entry : {A : Type 0} → (A → List ℕ) → (A → Bool) → ℕ → Reader A → Type 0
Entry {A} spell fits tag read =
    (bytes : List ℕ) (x : A × List ℕ) → IsBytes bytes → read bytes ≡ Ok x → Takes (tag ∷ bytes) (spell x.0) x.1 × (fits x.0 ≡ true)

-- each reader of a table, from a tag on
abbrev pub Entries : {A : Type 0} → (A → List ℕ) → (A → Bool) → ℕ → List (Reader A) → Type 0
Entries spell fits tag [] = Unit {0}
Entries spell fits tag (read ∷ reads) = Entry spell fits tag read × Entries spell fits (suc tag) reads

-- the first reader, and the rest
infixr 3 ◌also◌
abbrev pub ◌also◌ : {P Q : Type 0} → P → Q → P × Q
p also q = (p, q)

-- something that is made of what is read, if what has a spelling gives something that has one
pub entry_where : {A B : Type 0} (spell : B → List ℕ) (fits : B → Bool) (r : Reader A) (v : A → List ℕ) (f : A → Bool) → Law r v f
    → (make : A → B) (tag : ℕ) → ((x : A) → f x ≡ true → (spell (make x) ≡ tag ∷ v x) × (fits (make x) ≡ true))
    → Entry spell fits tag (made make r)
entry_where {A} {B} spell fits r v f law make tag is bytes x h e =
    let t = made_takes r v f make law bytes x h e in
    let i = is t.0 t.3 in
    subst (λ (y : B). Takes (tag ∷ bytes) (spell y) x.1 × (fits y ≡ true)) t.1
    (subst (λ (s : List ℕ). Takes (tag ∷ bytes) s x.1) (sym i.0) (tag_takes tag bytes (v t.0) x.1 t.2), i.1)

-- the same, if exactly what has a spelling gives something that has one
pub entry : {A B : Type 0} (spell : B → List ℕ) (fits : B → Bool) (r : Reader A) (v : A → List ℕ) (f : A → Bool) → Law r v f
    → (make : A → B) (tag : ℕ) → ((x : A) → spell (make x) ≡ tag ∷ v x) → ((x : A) → fits (make x) ≡ f x)
    → Entry spell fits tag (made make r)
entry spell fits r v f law make tag spelt same =
    entry_where spell fits r v f law make tag (λ x h. (spelt x, same x ∙ h))

-- something of no bytes
pub bare : {B : Type 0} (spell : B → List ℕ) (fits : B → Bool) (y : B) (tag : ℕ) → spell y ≡ tag ∷ [] → fits y ≡ true
    → Entry spell fits tag (nothing y)
bare {B} spell fits y tag spelt fit bytes x h e =
    subst (λ (z : B × List ℕ). Takes (tag ∷ bytes) (spell z.0) z.1 × (fits z.0 ≡ true)) (ok_is (y, bytes) x e)
    (record { parts = ap (λ (s : List ℕ). s ++ bytes) (sym spelt); rest_fits = h }, fit)

-- nothing that is read
pub none : {B : Type 0} (spell : B → List ℕ) (fits : B → Bool) (tag : ℕ) → Entry spell fits tag refused
none spell fits tag bytes x h e = absurd cc

-- what is read if a test does not hold
pub outside : {B : Type 0} (spell : B → List ℕ) (fits : B → Bool) (b : Bool) (r : Reader B) (tag : ℕ)
    → (not b ≡ true → Entry spell fits tag r) → Entry spell fits tag (cond b refused r)
outside spell fits true r tag inside bytes x h e = absurd cc
outside spell fits false r tag inside bytes x h e = inside refl bytes x h e

entry_at : {A : Type 0} (spell : A → List ℕ) (fits : A → Bool) (fault : ReadFault) (reads : List (Reader A)) (first n : ℕ)
    → Entries spell fits first reads → (bytes : List ℕ) (x : A × List ℕ) → IsBytes bytes
    → read_by fault (slice_get reads n) bytes ≡ Ok x → Takes ((first + n) ∷ bytes) (spell x.0) x.1 × (fits x.0 ≡ true)
entry_at spell fits fault [] first n all bytes x h e = absurd cc
entry_at spell fits fault (read ∷ reads) first zero all bytes x h e =
    let k : first ≡ first + 0 = omega arith in
    subst (λ (o : ℕ). Takes (o ∷ bytes) (spell x.0) x.1 × (fits x.0 ≡ true)) k (all.0 bytes x h e)
entry_at spell fits fault (read ∷ reads) first (suc n) all bytes x h e =
    let k : suc first + n ≡ first + suc n = omega arith in
    subst (λ (o : ℕ). Takes (o ∷ bytes) (spell x.0) x.1 × (fits x.0 ≡ true)) k
    (entry_at spell fits fault reads (suc first) n all.1 bytes x h e)

-- what a table reads is spelt so
pub tagged_takes : {A : Type 0} (spell : A → List ℕ) (fits : A → Bool) (fault : ReadFault) (reads : List (Reader A))
    → Entries spell fits 0 reads → (bytes : List ℕ) (x : A × List ℕ) → IsBytes bytes → tagged fault reads bytes ≡ Ok x
    → Takes bytes (spell x.0) x.1 × (fits x.0 ≡ true)
tagged_takes spell fits fault reads all [] x h e = absurd cc
tagged_takes spell fits fault reads all (tag ∷ bytes) x h e =
    let k : 0 + tag ≡ tag = omega arith in
    subst (λ (o : ℕ). Takes (o ∷ bytes) (spell x.0) x.1 × (fits x.0 ≡ true)) k
    (entry_at spell fits fault reads 0 tag all bytes x (IsBytes-rest tag bytes h) e)
