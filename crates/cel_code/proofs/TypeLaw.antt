-- Types: what is read is spelt so, and what is spelt so is read.
use Rattle.std.proofs.Common.{◌≡◌, ℕ, zero, suc, Bool, true, false, not, ◌&&◌, List, [], ◌∷◌, ◌++◌, map, Option, Some, None}
use Rattle.std.proofs.Common.{Ok, refl, sym, ap, ◌∙◌, ◌-◌, ◌<◌, arith}
use Rattle.std.specs.Int.{w32}
use Rattle.std.specs.Option.{option_map}
use Rattle.std.proofs.lemmas.Bool.{true≢false}
use Rattle.std.proofs.lemmas.List.{length-map}
use Rattle.std.proofs.lemmas.List.Folds.{flat_map-map}
use Rattle.base_containers.specs.declared.text.Keyed.{Keyed}
use Rattle.cel_value.specs.declared.cel_type.Field.{Field}
use Rattle.cel_value.specs.declared.cel_type.CelType as T
use Rattle.cel_value.specs.declared.cel_type.CelType.{CelType, out-CelType, roll-CelType}
use Rattle.cel_value.specs.declared.cel_type.CelType.TheFolds.{fold-roll-CelType, map-CelType}
use Rattle.cel_value.specs.declared.cel_type.CelType.TheOpen.{CelType-F}
use Rattle.cel_value.specs.declared.cel_type.CelType.TheVariants.{rolls-Never, rolls-Null, rolls-Bool, rolls-Int, rolls-Uint}
use Rattle.cel_value.specs.declared.cel_type.CelType.TheVariants.{rolls-Text, rolls-List, rolls-Map, rolls-Object, rolls-Nullable}
use Rattle.cel_value.specs.declared.cel_type.CelType.TheVariants.{rolls-Opaque, rolls-Timestamp, rolls-Duration}
use Rattle.cel_value.proofs.Levels.{at_levels}
use Rattle.cel_code.specs.declared.fault.ReadFault.TheVariants.{BadTable}
use Rattle.cel_code.specs.Spelling.{be32, text, is_text, truth, listed, is_list, each_after, is_short, name_after, field, is_field}
use Rattle.cel_code.specs.Spelling.{type_step, type_spelling, Spellable, spellable_step, level_is_spellable, is_spellable}
use Rattle.cel_code.specs.Reading.{Reader, both, made, tested, nothing, number_at, text_at, truth_at, list_at, field_from, field_at}
use Rattle.cel_code.specs.Reading.{type_readers, level_at, type_at}
use Rattle.cel_code.specs.Writing.{spelt_field}
use Rattle.cel_code.proofs.Laws.{IsBytes, Takes, Law, both_law, made_again, made_law, tested_law, short_law, text_law, truth_law, list_law}
use Rattle.cel_code.proofs.Tables.{◌also◌, Entry, Entries, entry, bare, outside, tagged_takes}

abbrev Fields : Type 0
Fields = List (Keyed (Field CelType))

-- ---- one level

spelling_rolled : (p : CelType-F CelType) → type_spelling (roll-CelType p) ≡ type_step (map-CelType _ _ type_spelling p)
spelling_rolled p = fold-roll-CelType (List ℕ) type_step p

spellable_rolled : (p : CelType-F CelType) (d : ℕ) (b : Bool)
    → is_spellable (roll-CelType p) (suc d) b ≡ level_is_spellable (map-CelType _ _ is_spellable p) d b
spellable_rolled p d b = ap (λ (f : Spellable). f (suc d) b) (fold-roll-CelType Spellable spellable_step p)

spelling_of : (p : CelType-F CelType) (t : CelType) → roll-CelType p ≡ t → type_spelling t ≡ type_step (map-CelType _ _ type_spelling p)
spelling_of p t e = ap type_spelling (sym e) ∙ spelling_rolled p

spellable_at : (p : CelType-F CelType) (t : CelType) (d : ℕ) (b : Bool) → roll-CelType p ≡ t
    → is_spellable t (suc d) b ≡ level_is_spellable (map-CelType _ _ is_spellable p) d b
spellable_at p t d b e = ap (λ (u : CelType). is_spellable u (suc d) b) (sym e) ∙ spellable_rolled p d b

-- ---- fields

abbrev field_parts : Keyed (Field CelType) → List ℕ × (Bool × CelType)
field_parts f = (f.key, (f.value.required, f.value.cel_type))

pub field_law : (inside : Reader CelType) (f : CelType → Bool) → Law inside type_spelling f → (last : Option (Keyed (Field CelType)))
    → Law (field_at inside last) spelt_field (is_field f last)
field_law inside f law last =
    made_law _ _ _ field_from field_parts
    (both_law (tested (name_after last) text_at) text (λ k. is_text k && name_after last k)
    (both truth_at inside) (λ p. truth p.0 ++ type_spelling p.1) (λ p. true && f p.1)
    (tested_law text_at text is_text (name_after last) text_law) (both_law truth_at truth (λ _. true) inside type_spelling f truth_law law))
    (λ x. refl) (λ y. refl)

pub fields_law : (inside : Reader CelType) (f : CelType → Bool) → Law inside type_spelling f
    → Law (list_at (field_at inside)) (listed spelt_field) (is_list (is_field f))
fields_law inside f law = list_law (field_at inside) spelt_field (is_field f) (field_law inside f law)

pub listed_mapped : {A B : Type 0} (g : A → B) (v : B → List ℕ) (xs : List A) → listed v (map g xs) ≡ listed (λ x. v (g x)) xs
listed_mapped g v xs = rw (length-map, flat_map-map) refl

-- a field with another type, or what stands for one
abbrev with_type : {V W : Type 0} → (V → W) → Keyed (Field V) → Keyed (Field W)
with_type g f = record { key = f.key; value = record { required = f.value.required; cel_type = g f.value.cel_type } }

name_mapped : {V W : Type 0} (g : V → W) (last : Option (Keyed (Field V))) (name : List ℕ)
    → name_after (option_map (with_type g) last) name ≡ name_after last name
name_mapped g None name = refl
name_mapped g (Some f) name = refl

each_mapped : {V W : Type 0} (g : V → W) (p : W → Bool) (last : Option (Keyed (Field V))) (fs : List (Keyed (Field V)))
    → each_after (is_field p) (option_map (with_type g) last) (map (with_type g) fs) ≡ each_after (is_field (λ v. p (g v))) last fs
each_mapped g p last [] = refl
each_mapped g p last (f ∷ fs) = rw (name_mapped g last f.key, each_mapped g p (Some f) fs) refl

pub is_list_mapped : {V W : Type 0} (g : V → W) (p : W → Bool) (fs : List (Keyed (Field V)))
    → is_list (is_field p) (map (with_type g) fs) ≡ is_list (is_field (λ v. p (g v))) fs
is_list_mapped g p fs = rw (length-map, each_mapped g p None fs) refl

-- ---- what is read

abbrev InsideLaw : (Bool → Reader CelType) → ℕ → Type 0
InsideLaw inside d = (b : Bool) → Law (inside b) type_spelling (λ t. is_spellable t d b)

abbrev list_parts : (inside : Bool → Reader CelType) → Reader (ℕ × (Bool × CelType))
list_parts inside = both (number_at w32) (both truth_at (inside false))

abbrev map_parts : (inside : Bool → Reader CelType) → Reader (ℕ × (ℕ × CelType))
map_parts inside = both (number_at w32) (both (number_at w32) (inside false))

list_parts_law : (inside : Bool → Reader CelType) (d : ℕ) → InsideLaw inside d
    → Law (list_parts inside) (λ p. be32 p.0 ++ (truth p.1.0 ++ type_spelling p.1.1))
    (λ p. is_short p.0 && (true && is_spellable p.1.1 d false))
list_parts_law inside d law =
    both_law (number_at w32) be32 is_short
    (both truth_at (inside false)) (λ p. truth p.0 ++ type_spelling p.1) (λ p. true && is_spellable p.1 d false) short_law
    (both_law truth_at truth (λ _. true) (inside false) type_spelling (λ t. is_spellable t d false) truth_law (law false))

map_parts_law : (inside : Bool → Reader CelType) (d : ℕ) → InsideLaw inside d
    → Law (map_parts inside) (λ p. be32 p.0 ++ (be32 p.1.0 ++ type_spelling p.1.1))
    (λ p. is_short p.0 && (is_short p.1.0 && is_spellable p.1.1 d false))
map_parts_law inside d law =
    both_law (number_at w32) be32 is_short
    (both (number_at w32) (inside false)) (λ p. be32 p.0 ++ type_spelling p.1) (λ p. is_short p.0 && is_spellable p.1 d false) short_law
    (both_law (number_at w32) be32 is_short (inside false) type_spelling (λ t. is_spellable t d false) short_law (law false))

object_spelt : (fs : Fields) → type_step (map-CelType _ _ type_spelling (CelType-F.Object fs)) ≡ 8 ∷ listed spelt_field fs
object_spelt fs = ap (λ (s : List ℕ). 8 ∷ s) (listed_mapped (with_type type_spelling) field fs)

object_spellable : (fs : Fields) (d : ℕ) (b : Bool)
    → level_is_spellable (map-CelType _ _ is_spellable (CelType-F.Object fs)) d b ≡ is_list (is_field (λ t. is_spellable t d false)) fs
object_spellable fs d b = is_list_mapped is_spellable (λ inside. inside d false) fs

-- whether a type has a spelling with one level more than may be inside
abbrev Fit : ℕ → Bool → CelType → Bool
Fit d b t = is_spellable t (suc d) b

-- a type that holds nothing
plain : (p : CelType-F CelType) (t : CelType) (tag d : ℕ) (b : Bool) → roll-CelType p ≡ t
    → type_step (map-CelType _ _ type_spelling p) ≡ tag ∷ [] → level_is_spellable (map-CelType _ _ is_spellable p) d b ≡ true
    → Entry type_spelling (Fit d b) tag (nothing t)
plain p t tag d b e spelt fits =
    bare type_spelling (Fit d b) t tag (spelling_of p t e ∙ spelt) (spellable_at p t d b e ∙ fits)

-- a type over what is read
over : {A : Type 0} (r : Reader A) (v : A → List ℕ) (f : A → Bool) → Law r v f → (level : A → CelType-F CelType) (make : A → CelType)
    (tag d : ℕ) (b : Bool) → ((x : A) → roll-CelType (level x) ≡ make x)
    → ((x : A) → type_step (map-CelType _ _ type_spelling (level x)) ≡ tag ∷ v x)
    → ((x : A) → level_is_spellable (map-CelType _ _ is_spellable (level x)) d b ≡ f x)
    → Entry type_spelling (Fit d b) tag (made make r)
over r v f law level make tag d b e spelt fits =
    entry type_spelling (Fit d b) r v f law make tag
    (λ x. spelling_of (level x) (make x) (e x) ∙ spelt x) (λ x. spellable_at (level x) (make x) d b (e x) ∙ fits x)

entries : (inside : Bool → Reader CelType) (d : ℕ) → InsideLaw inside d → (b : Bool)
    → Entries type_spelling (Fit d b) 0 (type_readers inside b)
entries inside d law b =
    outside type_spelling (Fit d b) b (nothing T.Never) 0 (λ k. plain CelType-F.Never T.Never 0 d b rolls-Never refl k)
    also outside type_spelling (Fit d b) b (nothing T.Null) 1 (λ k. plain CelType-F.Null T.Null 1 d b rolls-Null refl k)
    also plain CelType-F.Bool T.Bool 2 d b rolls-Bool refl refl
    also plain CelType-F.Int T.Int 3 d b rolls-Int refl refl
    also plain CelType-F.Uint T.Uint 4 d b rolls-Uint refl refl
    also over (number_at w32) be32 is_short short_law (λ max. CelType-F.Text max) (λ max. T.Text max) 5 d b
    (λ max. rolls-Text max) (λ _. refl) (λ _. refl)
    also over (list_parts inside) _ _ (list_parts_law inside d law)
    (λ p. CelType-F.List p.0 p.1.0 p.1.1) (λ p. T.List p.0 p.1.0 p.1.1) 6 d b
    (λ p. rolls-List p.0 p.1.0 p.1.1) (λ _. refl) (λ _. refl)
    also over (map_parts inside) _ _ (map_parts_law inside d law)
    (λ p. CelType-F.Map p.0 p.1.0 p.1.1) (λ p. T.Map p.0 p.1.0 p.1.1) 7 d b
    (λ p. rolls-Map p.0 p.1.0 p.1.1) (λ _. refl) (λ _. refl)
    also over (list_at (field_at (inside false))) _ _ (fields_law (inside false) (λ t. is_spellable t d false) (law false))
    (λ fs. CelType-F.Object fs) (λ fs. T.Object fs) 8 d b
    (λ fs. rolls-Object fs) object_spelt (λ fs. object_spellable fs d b)
    also outside type_spelling (Fit d b) b (made (λ item. T.Nullable item) (inside true)) 9
    (λ k. over (inside true) _ _ (law true) (λ item. CelType-F.Nullable item) (λ item. T.Nullable item) 9 d b
    (λ item. rolls-Nullable item) (λ _. refl) (λ _. rw k refl))
    also plain CelType-F.Opaque T.Opaque 10 d b rolls-Opaque refl refl
    also plain CelType-F.Timestamp T.Timestamp 11 d b rolls-Timestamp refl refl
    also plain CelType-F.Duration T.Duration 12 d b rolls-Duration refl refl
    also tt

-- ---- what is spelt

level_again : (inside : Bool → Reader CelType) (d : ℕ) → InsideLaw inside d → (b : Bool) (p : CelType-F CelType) (rest : List ℕ)
    → level_is_spellable (map-CelType _ _ is_spellable p) d b ≡ true
    → level_at inside b (type_step (map-CelType _ _ type_spelling p) ++ rest) ≡ Ok (roll-CelType p, rest)
level_again inside d law true CelType-F.Never rest h = absurd (true≢false (sym h))
level_again inside d law false CelType-F.Never rest h = ap (λ (t : CelType). Ok (t, rest)) (sym rolls-Never)
level_again inside d law true CelType-F.Null rest h = absurd (true≢false (sym h))
level_again inside d law false CelType-F.Null rest h = ap (λ (t : CelType). Ok (t, rest)) (sym rolls-Null)
level_again inside d law b CelType-F.Bool rest h = ap (λ (t : CelType). Ok (t, rest)) (sym rolls-Bool)
level_again inside d law b CelType-F.Int rest h = ap (λ (t : CelType). Ok (t, rest)) (sym rolls-Int)
level_again inside d law b CelType-F.Uint rest h = ap (λ (t : CelType). Ok (t, rest)) (sym rolls-Uint)
level_again inside d law b (CelType-F.Text max) rest h =
    made_again (number_at w32) be32 is_short (λ max. T.Text max) short_law max rest h
    ∙ ap (λ (t : CelType). Ok (t, rest)) (sym (rolls-Text max))
level_again inside d law b (CelType-F.List max plain item) rest h =
    made_again (list_parts inside) _ _ (λ p. T.List p.0 p.1.0 p.1.1) (list_parts_law inside d law) (max, (plain, item)) rest h
    ∙ ap (λ (t : CelType). Ok (t, rest)) (sym (rolls-List max plain item))
level_again inside d law b (CelType-F.Map max key_max item) rest h =
    made_again (map_parts inside) _ _ (λ p. T.Map p.0 p.1.0 p.1.1) (map_parts_law inside d law) (max, (key_max, item)) rest h
    ∙ ap (λ (t : CelType). Ok (t, rest)) (sym (rolls-Map max key_max item))
level_again inside d law b (CelType-F.Object fields) rest h =
    ap (λ (s : List ℕ). level_at inside b (s ++ rest)) (object_spelt fields)
    ∙ made_again (list_at (field_at (inside false))) _ _ (λ fields. T.Object fields)
    (fields_law (inside false) (λ t. is_spellable t d false) (law false)) fields rest (sym (object_spellable fields d b) ∙ h)
    ∙ ap (λ (t : CelType). Ok (t, rest)) (sym (rolls-Object fields))
level_again inside d law true (CelType-F.Nullable item) rest h = absurd (true≢false (sym h))
level_again inside d law false (CelType-F.Nullable item) rest h =
    made_again (inside true) _ _ (λ item. T.Nullable item) (law true) item rest h
    ∙ ap (λ (t : CelType). Ok (t, rest)) (sym (rolls-Nullable item))
level_again inside d law b CelType-F.Opaque rest h = ap (λ (t : CelType). Ok (t, rest)) (sym rolls-Opaque)
level_again inside d law b CelType-F.Timestamp rest h = ap (λ (t : CelType). Ok (t, rest)) (sym rolls-Timestamp)
level_again inside d law b CelType-F.Duration rest h = ap (λ (t : CelType). Ok (t, rest)) (sym rolls-Duration)

-- ---- whole types

type_takes : (d : ℕ) (b : Bool) → InsideLaw (type_at d) d → (bytes : List ℕ) (x : CelType × List ℕ) → IsBytes bytes
    → type_at (suc d) b bytes ≡ Ok x → Takes bytes (type_spelling x.0) x.1 × (is_spellable x.0 (suc d) b ≡ true)
unfolding type_at
type_takes d b law bytes x h e =
    tagged_takes type_spelling (Fit d b) BadTable (type_readers (type_at d) b) (entries (type_at d) d law b) bytes x h e

type_level : (d : ℕ) (b : Bool) (bytes : List ℕ) → type_at (suc d) b bytes ≡ level_at (type_at d) b bytes
unfolding type_at
type_level d b bytes = refl

abbrev IsAgain : ℕ → Bool → CelType → Type 0
IsAgain d b t = (rest : List ℕ) → is_spellable t (suc d) b ≡ true → type_at (suc d) b (type_spelling t ++ rest) ≡ Ok (t, rest)

type_again : (d : ℕ) (b : Bool) → InsideLaw (type_at d) d → (t : CelType) → IsAgain d b t
type_again d b law t =
    at_levels (IsAgain d b) (λ p rest h.
    ap (λ (s : List ℕ). type_at (suc d) b (s ++ rest)) (spelling_rolled p) ∙ type_level d b _
    ∙ level_again (type_at d) d law b p rest (sym (spellable_rolled p d b) ∙ h)) t

no_levels : (b : Bool) (p : CelType-F CelType) → is_spellable (roll-CelType p) 0 b ≡ false
no_levels b p = ap (λ (f : Spellable). f 0 b) (fold-roll-CelType Spellable spellable_step p)

none_takes : (b : Bool) (bytes : List ℕ) (x : CelType × List ℕ) → type_at 0 b bytes ≡ Ok x → ⊥
unfolding type_at
none_takes b bytes x e = cc

pub type_law : (d : ℕ) (b : Bool) → Law (type_at d b) type_spelling (λ t. is_spellable t d b)
type_law zero b = record {
  takes = λ bytes x h e. absurd (none_takes b bytes x e);
  again = λ t rest h. absurd (true≢false (sym h ∙ at_levels (λ (u : CelType). is_spellable u 0 b ≡ false) (no_levels b) t));
}
type_law (suc d) b = record {
  takes = type_takes d b (λ c. type_law d c);
  again = type_again d b (λ c. type_law d c);
}

-- ---- each type

pub spelling-Object : (fields : Fields) → type_spelling (T.Object fields) ≡ 8 ∷ listed spelt_field fields
spelling-Object fields = spelling_of (CelType-F.Object fields) _ (rolls-Object fields) ∙ object_spelt fields

pub spelling-Nullable : (item : CelType) → type_spelling (T.Nullable item) ≡ 9 ∷ type_spelling item
spelling-Nullable item = spelling_of (CelType-F.Nullable item) _ (rolls-Nullable item)

spellable_of : (p : CelType-F CelType) (t : CelType) (d : ℕ) (b : Bool) → roll-CelType p ≡ t → 0 < d
    → is_spellable t d b ≡ level_is_spellable (map-CelType _ _ is_spellable p) (d - 1) b
spellable_of p t zero b e h = absurd (omega arith)
spellable_of p t (suc d) b e h =
    let k : d ≡ suc d - 1 = omega arith in
    spellable_at p t d b e ∙ ap (λ (n : ℕ). level_is_spellable (map-CelType _ _ is_spellable p) n b) k

pub spellable-List : (max : ℕ) (plain : Bool) (item : CelType) (d : ℕ) (b : Bool) → 0 < d
    → is_spellable (T.List max plain item) d b ≡ (is_short max && is_spellable item (d - 1) false)
spellable-List max plain item d b h = spellable_of (CelType-F.List max plain item) _ d b (rolls-List max plain item) h

pub spellable-Map : (max key_max : ℕ) (item : CelType) (d : ℕ) (b : Bool) → 0 < d
    → is_spellable (T.Map max key_max item) d b ≡ (is_short max && (is_short key_max && is_spellable item (d - 1) false))
spellable-Map max key_max item d b h = spellable_of (CelType-F.Map max key_max item) _ d b (rolls-Map max key_max item) h

pub spellable-Object : (fields : Fields) (d : ℕ) (b : Bool) → 0 < d
    → is_spellable (T.Object fields) d b ≡ is_list (is_field (λ t. is_spellable t (d - 1) false)) fields
spellable-Object fields d b h = spellable_of (CelType-F.Object fields) _ d b (rolls-Object fields) h ∙ object_spellable fields (d - 1) b

pub spellable-Nullable : (item : CelType) (d : ℕ) (b : Bool) → 0 < d
    → is_spellable (T.Nullable item) d b ≡ (not b && is_spellable item (d - 1) true)
spellable-Nullable item d b h = spellable_of (CelType-F.Nullable item) _ d b (rolls-Nullable item) h
