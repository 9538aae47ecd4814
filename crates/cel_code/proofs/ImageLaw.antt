-- Whole images: what is read is spelt so, and what is spelt so is read.
use Rattle.std.proofs.Common.{◌≡◌, ℕ, ◌^◌, Bool, true, false, ◌&&◌, eqb, List, [], ◌∷◌, ◌++◌, Option, Some, None, Result, Ok}
use Rattle.std.proofs.Common.{refl, ap, subst, ◌∙◌, append_assoc, nat_lt}
use Rattle.std.specs.Int.{w64}
use Rattle.std.proofs.lemmas.Bool.{eqb-true, eq-eqb}
use Rattle.cel_value.specs.declared.cel_type.CelType.{CelType}
use Rattle.cel_value.specs.declared.value.Value.{Value}
use Rattle.cel_code.specs.declared.image.Image.{Image}
use Rattle.cel_code.specs.declared.image.Target.{Target}
use Rattle.cel_code.specs.declared.instr.Instr.{Instr}
use Rattle.cel_code.specs.declared.image_bytes.Front.{Front}
use Rattle.cel_code.specs.declared.fault.ReadFault.{ReadFault}
use Rattle.cel_code.specs.declared.fault.ReadFault.TheVariants.{BadTable}
use Rattle.cel_code.specs.Spelling.{be64, listed, is_list, type_spelling, is_spellable, constant, is_constant}
use Rattle.cel_code.specs.Reading.{◌>>=◌, tagged, list_at, number_at, type_at, constant_at}
use Rattle.cel_code.specs.Code.{instr, is_instr, types, are_types, most_levels, target, is_target, magic, contents}
use Rattle.cel_code.specs.Code.{front, front_of, is_front, version, image_spelling, is_image}
use Rattle.cel_code.specs.CodeReading.{instr_at, types_at, target_at, byte_is, marked, front_at, front_from, code_at, parts_at, image_from}
use Rattle.cel_code.specs.CodeReading.{declared_at, declared_from, image_with, image_readers, image_at}
use Rattle.cel_code.proofs.Laws.{IsBytes, IsBytes-rest, Takes, Takes-then, Law, ok_is, test_ok, bind_ok, both_law, made_again}
use Rattle.cel_code.proofs.Laws.{made_law, list_law, long_law}
use Rattle.cel_code.proofs.Tables.{◌also◌, Entries, entry, none, tagged_takes}
use Rattle.cel_code.proofs.TypeLaw.{type_law}
use Rattle.cel_code.proofs.ConstantLaw.{constant_law}
use Rattle.cel_code.proofs.CodeLaw.{instr_law, types_law, target_law}

-- ---- the bytes in front

byte_takes : (m : ℕ) (bytes : List ℕ) (x : Unit {0} × List ℕ) → IsBytes bytes → byte_is m bytes ≡ Ok x → Takes bytes (m ∷ []) x.1
byte_takes m [] x h e = absurd cc
byte_takes m (b ∷ bytes) x h e =
    let g = test_ok (eqb b m) BadTable (tt, bytes) x e in
    let t : Takes (b ∷ bytes) (b ∷ []) bytes = record { parts = refl; rest_fits = IsBytes-rest b bytes h } in
    let u : Takes (b ∷ bytes) (m ∷ []) bytes = subst (λ (c : ℕ). Takes (b ∷ bytes) (c ∷ []) bytes) (eqb-true b m g.0) t in
    subst (λ (y : Unit {0} × List ℕ). Takes (b ∷ bytes) (m ∷ []) y.1) g.1 u

marked_takes : (ms bytes : List ℕ) (x : Unit {0} × List ℕ) → IsBytes bytes → marked ms bytes ≡ Ok x → Takes bytes ms x.1
marked_takes [] bytes x h e =
    subst (λ (y : Unit {0} × List ℕ). Takes bytes [] y.1) (ok_is (tt, bytes) x e) (record { parts = refl; rest_fits = h })
marked_takes (m ∷ ms) bytes x h e =
    let a = bind_ok (byte_is m bytes) (λ y. marked ms y.1) x e in
    let t = byte_takes m bytes a.0 h a.1 in
    Takes-then bytes (m ∷ []) a.0.1 ms x.1 t (marked_takes ms a.0.1 x t.rest_fits a.2)

marked_again : (ms rest : List ℕ) → marked ms (ms ++ rest) ≡ Ok (tt, rest)
marked_again [] rest = refl
marked_again (m ∷ ms) rest =
    let same : eqb m m ≡ true = eq-eqb m m refl in
    rw same (marked_again ms rest)

-- ---- what is after the version

constants_law : Law (list_at (λ _. constant_at)) (listed constant) (is_list (λ _ v. is_constant v))
constants_law = list_law (λ _. constant_at) constant (λ _ v. is_constant v) (λ _. constant_law)

targets_law : Law (list_at target_at) (listed target) (is_list is_target)
targets_law = list_law target_at target is_target target_law

instrs_law : Law (list_at (λ _. instr_at)) (listed instr) (is_list (λ _ c. is_instr c))
instrs_law = list_law (λ _. instr_at) instr (λ _ c. is_instr c) (λ _. instr_law)

abbrev front_parts : Front → List CelType × (List Value × (List Target × CelType))
front_parts f = (f.slots, (f.constants, (f.targets, f.result)))

front_law : Law front_at front is_front
front_law =
    made_law _ _ _ front_from front_parts
    (both_law types_at types are_types _ _ _ types_law
    (both_law (list_at (λ _. constant_at)) (listed constant) (is_list (λ _ v. is_constant v)) _ _ _ constants_law
    (both_law (list_at target_at) (listed target) (is_list is_target)
    (type_at most_levels false) type_spelling (λ t. is_spellable t most_levels false) targets_law (type_law most_levels false))))
    (λ x. refl) (λ y. refl)

abbrev parts_spelling : Front × List Instr → List ℕ
parts_spelling p = front p.0 ++ listed instr p.1

abbrev are_parts : Front × List Instr → Bool
are_parts p = is_front p.0 && is_list (λ _ c. is_instr c) p.1

parts_law : Law parts_at parts_spelling are_parts
parts_law = both_law front_at front is_front code_at (listed instr) (is_list (λ _ c. is_instr c)) front_law instrs_law

-- ---- likewise if a number is declared

abbrev declared_spelling : Front × (ℕ × List Instr) → List ℕ
declared_spelling p = front p.0 ++ (be64 p.1.0 ++ listed instr p.1.1)

abbrev are_declared : Front × (ℕ × List Instr) → Bool
are_declared p = is_front p.0 && (nat_lt p.1.0 (2 ^ 64) && is_list (λ _ c. is_instr c) p.1.1)

declared_law : Law declared_at declared_spelling are_declared
declared_law =
    both_law front_at front is_front _ _ _ front_law
    (both_law (number_at w64) be64 (λ n. nat_lt n (2 ^ 64)) code_at (listed instr) (is_list (λ _ c. is_instr c)) long_law instrs_law)

-- ---- the version

-- the version, and what is after it
abbrev numbered : Image → List ℕ
numbered i = version i.declared ∷ contents i

versions : Entries numbered is_image 0 image_readers
versions =
    none numbered is_image 0
    also entry numbered is_image parts_at parts_spelling are_parts parts_law image_from 1 (λ _. refl) (λ _. refl)
    also entry numbered is_image declared_at declared_spelling are_declared declared_law declared_from 2 (λ _. refl) (λ _. refl)
    also tt

with_again : (f : Front) (declared : Option ℕ) (code : List Instr) (rest : List ℕ) → is_image (image_with f declared code) ≡ true
    → tagged BadTable image_readers (numbered (image_with f declared code) ++ rest) ≡ Ok (image_with f declared code, rest)
with_again f None code rest h = made_again parts_at parts_spelling are_parts image_from parts_law (f, code) rest h
with_again f (Some n) code rest h =
    made_again declared_at declared_spelling are_declared declared_from declared_law (f, (n, code)) rest h

version_again : (i : Image) (rest : List ℕ) → is_image i ≡ true → tagged BadTable image_readers (numbered i ++ rest) ≡ Ok (i, rest)
version_again i rest h = with_again (front_of i) i.declared i.code rest h

-- ---- the whole image

abbrev behind : Unit {0} × List ℕ → Result (Image × List ℕ) ReadFault
behind start = tagged BadTable image_readers start.1

pub image_law : Law image_at image_spelling is_image
image_law = record {
  takes = λ bytes x h e.
      let a = bind_ok (marked magic bytes) behind x e in
      let t = marked_takes magic bytes a.0 h a.1 in
      let u = tagged_takes numbered is_image BadTable image_readers versions a.0.1 x t.rest_fits a.2 in
      (Takes-then bytes magic a.0.1 (numbered x.0) x.1 t u.0, u.1);
  again = λ i rest fits.
      ap image_at (append_assoc magic (numbered i) rest)
      ∙ ap (λ (r : Result (Unit {0} × List ℕ) ReadFault). r >>= behind) (marked_again magic (numbered i ++ rest))
      ∙ version_again i rest fits;
}
