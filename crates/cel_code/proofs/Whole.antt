-- The laws of whole images.
use Rattle.std.proofs.Common.{◌≡◌, ◌≢◌, ℕ, true, List, [], ◌∷◌, ◌++◌, Result, Ok, Err, refl, sym, ap, subst, ◌∙◌}
use Rattle.std.specs.Prelude.{IfOk, IfErr}
use Rattle.std.proofs.lemmas.List.{append-nil}
use Rattle.base_containers.specs.declared.failed.Failed.{Failed}
use Rattle.base_containers.specs.declared.failed.Failed.TheVariants as failed
use Rattle.base_containers.specs.Failures.{Answers, IfFault}
use Rattle.cel_code.specs.declared.image.Image.{Image}
use Rattle.cel_code.specs.declared.fault.ReadFault.{ReadFault}
use Rattle.cel_code.specs.declared.fault.ReadFault.TheVariants as met
use Rattle.cel_code.specs.declared.fault.ImageFault.{ImageFault}
use Rattle.cel_code.specs.declared.fault.ImageFault.TheVariants.{TrailingBytes}
use Rattle.cel_code.specs.Code.{image_spelling, is_image, Spells}
use Rattle.cel_code.specs.CodeReading.{image_at}
use Rattle.cel_code.specs.Decoding.{fault, alone, decoded, SpellsNothing, IsRightFault}
use Rattle.cel_code.proofs.Laws.{IsBytes, ok_is}
use Rattle.cel_code.proofs.ImageLaw.{image_law}

abbrev Read : Type 0
Read = Result (Image × List ℕ) ReadFault

abbrev read : Image → List ℕ → Read
read image rest = Ok (image, rest)

-- reading what begins with a spelling
pub begins : (image : Image) (front rest : List ℕ) → Spells image front → image_at (front ++ rest) ≡ Ok (image, rest)
begins image front rest s = ap (λ (bytes : List ℕ). image_at (bytes ++ rest)) s.1 ∙ image_law.again image rest s.0

pub decodes : (image : Image) (bytes : List ℕ) → Spells image bytes → decoded bytes ≡ Ok image
unfolding decoded
decodes image bytes s = ap alone (ap image_at (sym (append-nil bytes)) ∙ begins image bytes [] s)

trails : (image : Image) (rest : List ℕ) → rest ≢ [] → alone (Ok (image, rest)) ≡ Err TrailingBytes
trails image [] h = absurd (h refl)
trails image (b ∷ rest) h = refl

pub tells_more : (image : Image) (bytes front rest : List ℕ) → Spells image front → bytes ≡ front ++ rest → rest ≢ []
    → decoded bytes ≡ Err TrailingBytes
unfolding decoded
tells_more image bytes front rest s e h = ap alone (ap image_at e ∙ begins image front rest s) ∙ trails image rest h

-- what is in what was read
spelt_so : (bytes : List ℕ) (x : Image × List ℕ) → IsBytes bytes → image_at bytes ≡ Ok x
    → (bytes ≡ image_spelling x.0 ++ x.1) × (is_image x.0 ≡ true)
spelt_so bytes x h e = let t = image_law.takes bytes x h e in (t.0.parts, t.1)

alone_ok : (bytes : List ℕ) (r : Read) (image : Image) → IsBytes bytes → image_at bytes ≡ r → alone r ≡ Ok image → Spells image bytes
alone_ok bytes (Err f) image h e a = absurd cc
alone_ok bytes (Ok (made, [])) image h e a =
    let t = spelt_so bytes (made, []) h e in
    let same : made ≡ image = cc in
    subst (λ (i : Image). Spells i bytes) same (t.1, t.0 ∙ append-nil (image_spelling made))
alone_ok bytes (Ok (made, b ∷ rest)) image h e a = absurd cc

pub is_spelt : (bytes : List ℕ) (image : Image) → IsBytes bytes → decoded bytes ≡ Ok image → Spells image bytes
unfolding decoded
is_spelt bytes image h e = alone_ok bytes (image_at bytes) image h refl e

nothing_there : (bytes : List ℕ) (f : ReadFault) → image_at bytes ≡ Err f → SpellsNothing bytes
nothing_there bytes f e image front rest s k =
    let both : Err f ≡ read image rest = sym e ∙ (ap image_at k ∙ begins image front rest s) in
    absurd cc

right_for_read : (bytes : List ℕ) (f : ReadFault) → SpellsNothing bytes → IsRightFault bytes (fault f)
right_for_read bytes met.Truncated h = h
right_for_read bytes met.BadOpcode h = h
right_for_read bytes met.BadTable h = h

err : ImageFault → Result Image ImageFault
err f = Err f

alone_err : (bytes : List ℕ) (r : Read) (f : ImageFault) → IsBytes bytes → image_at bytes ≡ r → alone r ≡ Err f → IsRightFault bytes f
alone_err bytes (Err g) f h e a =
    let same : fault g ≡ f = cc in
    subst (λ (k : ImageFault). IsRightFault bytes k) same (right_for_read bytes g (nothing_there bytes g e))
alone_err bytes (Ok (image, [])) f h e a = absurd cc
alone_err bytes (Ok (image, b ∷ rest)) f h e a =
    let t = spelt_so bytes (image, b ∷ rest) h e in
    let same : TrailingBytes ≡ f = cc in
    let more : b ∷ rest ≢ [] = λ k. absurd cc in
    subst (λ (k : ImageFault). IsRightFault bytes k) same (image, image_spelling image, b ∷ rest, (t.1, refl), t.0, more)

pub is_right : (bytes : List ℕ) (f : ImageFault) → IsBytes bytes → decoded bytes ≡ Err f → IsRightFault bytes f
unfolding decoded
is_right bytes f h e = alone_err bytes (image_at bytes) f h refl e

-- ---- what `decode` answers

abbrev Decoded : Type 0
Decoded = Result Image (Failed ImageFault)

pub is_found : (bytes : List ℕ) (r : Decoded) → IsBytes bytes → Answers (decoded bytes) r → IfOk r (λ image. Spells image bytes)
is_found bytes (Ok image) h a = is_spelt bytes image h a
is_found bytes (Err e) h a = tt

pub answers_only : (bytes : List ℕ) (r : Decoded) (want : Result Image ImageFault) → Answers (decoded bytes) r → decoded bytes ≡ want
    → Answers want r
answers_only bytes r want a e = subst (λ (s : Result Image ImageFault). Answers s r) e a

pub is_right_for : (bytes : List ℕ) (r : Decoded) → IsBytes bytes → Answers (decoded bytes) r → IfErr r (IfFault (IsRightFault bytes))
is_right_for bytes (Ok image) h a = tt
is_right_for bytes (Err failed.OutOfMemory) h a = tt
is_right_for bytes (Err (failed.Fault f)) h a = is_right bytes f h a

-- ---- one spelling

pub one_image : (left right : Image) (bytes : List ℕ) → Spells left bytes → Spells right bytes → left ≡ right
one_image left right bytes s t =
    ap (λ (x : Image × List ℕ). x.0) (ok_is (left, []) (right, []) (sym (begins left bytes [] s) ∙ begins right bytes [] t))

pub no_prefix : (left right : Image) (front rest : List ℕ) → Spells left front → Spells right (front ++ rest) → rest ≡ []
no_prefix left right front rest s t =
    ap (λ (x : Image × List ℕ). x.1)
    (ok_is (left, rest) (right, []) (sym (begins left front rest s)
    ∙ (ap image_at (sym (append-nil (front ++ rest))) ∙ begins right (front ++ rest) [] t)))
