-- The join that is computed is the one of the rules, both ways.
use Rattle.std.proofs.Common.{◌≡◌, ◌&&◌, max, List, [], ◌∷◌, map, Option, Some, None, ap, sym, ◌∙◌, subst, refl, inl, inr}
use Rattle.std.specs.Prelude.{◌↔◌, option_and_then}
use Rattle.std.specs.Option.{option_map}
use Rattle.std.specs.Str.{bytes_eq}
use Rattle.std.proofs.lemmas.Bool.{cases_Bool}
use Rattle.std.proofs.lemmas.Slice.Eq.{bytes_eq-Decides}
use Rattle.base_containers.specs.declared.text.Keyed.{Keyed}
use Rattle.cel_value.specs.declared.cel_type.Field.{Field}
use Rattle.cel_value.specs.declared.cel_type.CelType as T
use Rattle.cel_value.specs.declared.cel_type.CelType.{CelType, roll-CelType, out-CelType, the_lemmas}
use Rattle.cel_value.specs.declared.cel_type.CelType.TheVariants.{rolls-Never, rolls-Null, rolls-Bool, rolls-Int, rolls-Uint, rolls-Opaque}
use Rattle.cel_value.specs.declared.cel_type.CelType.TheVariants.{rolls-Timestamp, rolls-Duration}
use Rattle.cel_value.specs.declared.cel_type.CelType.TheVariants.{rolls-Text, rolls-List, rolls-Map, rolls-Object, rolls-Nullable}
use Rattle.cel_value.specs.declared.cel_type.CelType.TheOpen.{CelType-F}
use Rattle.cel_value.specs.declared.cel_type.CelType.TheFolds.{ind-CelType, map-CelType}
use Rattle.cel_value.specs.Join.{Fields, Joins, joined_field}
use Rattle.cel_value.specs.JoinFold.{join, join_kinds}
use Rattle.cel_value.specs.JoinRules.{joined_fields}
use Rattle.cel_value.specs.Joining.{joiner_of}
use Rattle.cel_value.proofs.Joins.{IsBareLevel, bare_roll, join_rolled, joined_fields-is}
use Rattle.cel_value.proofs.Joins.{join-Never, join-Never-left, join-Null-Null, join-Null-Nullable, join-Nullable-Null}
use Rattle.cel_value.proofs.Joins.{join-Nullable-Nullable, join-Null-bare, join-bare-Null, join-Nullable-bare, join-bare-Nullable}
use Rattle.cel_value.proofs.JoinRules.{join_comm, join-Text, join-List, join-Map, join-Object}
use Rattle.cel_value.proofs.Levels.{at_levels, out_roll}
use Rattle.cel_value.proofs.Taken.{join-self}

-- ---- what the rules give is computed

abbrev fields_at : CelType-F CelType → Fields
fields_at (CelType-F.Object fs) = fs
fields_at _ = []

abbrev fields_in : CelType → Fields
fields_in t = fields_at (out-CelType t)

fields_in-Object : (fs : Fields) → fields_in (T.Object fs) ≡ fs
fields_in-Object fs = ap fields_in (sym (rolls-Object fs)) ∙ ap fields_at (out_roll (CelType-F.Object fs))

fields_of_option : (o : Option Fields) → option_map fields_in (option_map (λ hs. T.Object hs) o) ≡ o
fields_of_option None = refl
fields_of_option (Some hs) = ap Some (fields_in-Object hs)

-- the fields of the join of two objects
fields_joined : (fs gs hs : Fields) → join (T.Object fs) (T.Object gs) ≡ Some (T.Object hs) → joined_fields fs gs ≡ Some hs
fields_joined fs gs hs e =
    sym (fields_of_option (joined_fields fs gs))
    ∙ ap (option_map fields_in) (sym (join-Object fs gs) ∙ e)
    ∙ ap Some (fields_in-Object hs)

one_more : (f g : Keyed (Field CelType)) (t : CelType) (fs gs hs : Fields) → f.key ≡ g.key
    → join f.value.cel_type g.value.cel_type ≡ Some t → joined_fields fs gs ≡ Some hs
    → joined_fields (f ∷ fs) (g ∷ gs) ≡ Some (joined_field f g t ∷ hs)
one_more f g t fs gs hs e j h = rw ((bytes_eq-Decides f.key g.key).1 e, j, h) refl

pub from_rules : (s t u : CelType) → Joins s t u → join s t ≡ Some u
from_rules _ _ _ (Joins.never t) = join-Never-left t
from_rules _ _ _ (Joins.itself t) = join-self t
from_rules _ _ _ (Joins.null_and_nullable t) = join-Null-Nullable t
from_rules _ _ _ (Joins.null_and_other t h) = join-Null-bare t h
from_rules _ _ _ (Joins.both_nullable s t u j) =
    join-Nullable-Nullable s t ∙ ap (option_map (λ w. T.Nullable w)) (from_rules s t u j)
from_rules _ _ _ (Joins.one_nullable s t u h j) =
    join-Nullable-bare s t h ∙ ap (option_map (λ w. T.Nullable w)) (from_rules s t u j)
from_rules _ _ _ (Joins.texts m n) = join-Text m n
from_rules _ _ _ (Joins.lists m n a b s t u j) =
    join-List m n a b s t ∙ ap (option_map (λ w. T.List (max m n) (a && b) w)) (from_rules s t u j)
from_rules _ _ _ (Joins.maps m n i k s t u j) =
    join-Map m n i k s t ∙ ap (option_map (λ w. T.Map (max m n) (max i k) w)) (from_rules s t u j)
from_rules _ _ _ Joins.no_fields = join-Object [] []
from_rules _ _ _ (Joins.one_field_more f g t fs gs hs e j h) =
    join-Object (f ∷ fs) (g ∷ gs)
    ∙ ap (option_map (λ w. T.Object w))
    (one_more f g t fs gs hs e (from_rules f.value.cel_type g.value.cel_type t j)
    (fields_joined fs gs hs (from_rules (T.Object fs) (T.Object gs) (T.Object hs) h)))
from_rules _ _ _ (Joins.either_order s t u j) = join_comm t s ∙ from_rules s t u j

-- ---- what is computed is given by the rules

-- the answer is the join of two types by the rules, if there is an answer
abbrev Ruled : CelType → CelType → Option CelType → Type 0
Ruled s t None = Unit {0}
Ruled s t (Some u) = Joins s t u

abbrev IsRuled : CelType → CelType → Type 0
IsRuled s t = Ruled s t (join s t)

-- by an equation of the join
by_equation : (s t : CelType) (o : Option CelType) → join s t ≡ o → Ruled s t o → IsRuled s t
by_equation s t o e h = subst (Ruled s t) (sym e) h

ruled_map : (s t a b : CelType) (f : CelType → CelType) → ((u : CelType) → Joins s t u → Joins a b (f u))
    → (o : Option CelType) → Ruled s t o → Ruled a b (option_map f o)
ruled_map s t a b f h None r = tt
ruled_map s t a b f h (Some u) r = h u r

with_never : (s : CelType) → IsRuled s T.Never
with_never s = by_equation s T.Never (Some s) (join-Never s) (Joins.either_order _ _ _ (Joins.never s))

null_level : (p : CelType-F CelType) → IsRuled T.Null (roll-CelType p)
null_level CelType-F.Never = subst (IsRuled T.Null) (sym rolls-Never) (with_never T.Null)
null_level CelType-F.Null =
    subst (IsRuled T.Null) (sym rolls-Null) (by_equation T.Null T.Null (Some T.Null) join-Null-Null (Joins.itself T.Null))
null_level (CelType-F.Nullable u) =
    subst (IsRuled T.Null) (sym (rolls-Nullable u))
    (by_equation T.Null (T.Nullable u) (Some (T.Nullable u)) (join-Null-Nullable u) (Joins.null_and_nullable u))
null_level p =
    let t = roll-CelType p in
    let b = bare_roll p tt in
    by_equation T.Null t (Some (T.Nullable t)) (join-Null-bare t b) (Joins.null_and_other t b)

nullable_level : (s : CelType) → ((t : CelType) → IsRuled s t) → (p : CelType-F CelType) → IsRuled (T.Nullable s) (roll-CelType p)
nullable_level s h CelType-F.Never = subst (IsRuled (T.Nullable s)) (sym rolls-Never) (with_never (T.Nullable s))
nullable_level s h CelType-F.Null =
    subst (IsRuled (T.Nullable s)) (sym rolls-Null)
    (by_equation (T.Nullable s) T.Null (Some (T.Nullable s)) (join-Nullable-Null s) (Joins.either_order _ _ _ (Joins.null_and_nullable s)))
nullable_level s h (CelType-F.Nullable u) =
    subst (IsRuled (T.Nullable s)) (sym (rolls-Nullable u))
    (by_equation (T.Nullable s) (T.Nullable u) (option_map (λ w. T.Nullable w) (join s u)) (join-Nullable-Nullable s u)
    (ruled_map s u (T.Nullable s) (T.Nullable u) (λ w. T.Nullable w) (λ w j. Joins.both_nullable s u w j) (join s u) (h u)))
nullable_level s h p =
    let t = roll-CelType p in
    let b = bare_roll p tt in
    by_equation (T.Nullable s) t (option_map (λ w. T.Nullable w) (join s t)) (join-Nullable-bare s t b)
    (ruled_map s t (T.Nullable s) t (λ w. T.Nullable w) (λ w j. Joins.one_nullable s t w b j) (join s t) (h t))

-- a type whose joins are ruled
abbrev Such : Type 0
Such = (s : CelType) × ((t : CelType) → IsRuled s t)

abbrev bare : CelType-F Such → CelType-F CelType
bare y = map-CelType _ _ (λ e. e.0) y

abbrev rolled : CelType-F Such → CelType
rolled y = roll-CelType (bare y)

abbrev bare_field : Keyed (Field Such) → Keyed (Field CelType)
bare_field f = record { key = f.key; value = record { required = f.value.required; cel_type = f.value.cel_type.0 } }

abbrev FieldsRuled : Fields → Fields → Option Fields → Type 0
FieldsRuled fs gs None = Unit {0}
FieldsRuled fs gs (Some hs) = Joins (T.Object fs) (T.Object gs) (T.Object hs)

field_more : (f g : Keyed (Field CelType)) (fs gs : Fields) → f.key ≡ g.key
    → (o : Option CelType) → Ruled f.value.cel_type g.value.cel_type o
    → (r : Option Fields) → FieldsRuled fs gs r
    → FieldsRuled (f ∷ fs) (g ∷ gs) (option_and_then (λ t. option_map (λ more. joined_field f g t ∷ more) r) o)
field_more f g fs gs e None j r h = tt
field_more f g fs gs e (Some t) j None h = tt
field_more f g fs gs e (Some t) j (Some hs) h = Joins.one_field_more f g t fs gs hs e j h

fields_ruled : (fs : List (Keyed (Field Such))) (gs : Fields)
    → FieldsRuled (map bare_field fs) gs (joined_fields (map bare_field fs) gs)
fields_ruled [] [] = Joins.no_fields
fields_ruled [] (g ∷ gs) = tt
fields_ruled (f ∷ fs) [] = tt
fields_ruled (f ∷ fs) (g ∷ gs) = elim (cases_Bool (bytes_eq f.key g.key)) [
  | inl same ↦
      let key = (bytes_eq-Decides f.key g.key).0 same in
      let es = map bare_field fs in
      let more = field_more (bare_field f) g es gs key (join f.value.cel_type.0 g.value.cel_type) (f.value.cel_type.1 g.value.cel_type)
      (joined_fields es gs) (fields_ruled fs gs) in
      rw same more
  | inr other ↦ rw other tt
]

objects_ruled : (fs gs : Fields) (r : Option Fields) → FieldsRuled fs gs r
    → Ruled (T.Object fs) (T.Object gs) (option_map (λ hs. T.Object hs) r)
objects_ruled fs gs None h = tt
objects_ruled fs gs (Some hs) h = h

-- two of one kind, a level of each opened
kinds_ruled : (y : CelType-F Such) (p : CelType-F CelType)
    → Ruled (rolled y) (roll-CelType p) (join_kinds (map-CelType _ _ joiner_of (bare y)) p)
kinds_ruled CelType-F.Bool CelType-F.Bool = rw rolls-Bool (Joins.itself T.Bool)
kinds_ruled CelType-F.Int CelType-F.Int = rw rolls-Int (Joins.itself T.Int)
kinds_ruled CelType-F.Uint CelType-F.Uint = rw rolls-Uint (Joins.itself T.Uint)
kinds_ruled CelType-F.Timestamp CelType-F.Timestamp = rw rolls-Timestamp (Joins.itself T.Timestamp)
kinds_ruled CelType-F.Duration CelType-F.Duration = rw rolls-Duration (Joins.itself T.Duration)
kinds_ruled CelType-F.Opaque CelType-F.Opaque = rw rolls-Opaque (Joins.itself T.Opaque)
kinds_ruled (CelType-F.Text m) (CelType-F.Text n) = rw (rolls-Text m, rolls-Text n) (Joins.texts m n)
kinds_ruled (CelType-F.List m a e) (CelType-F.List n b t) =
    rw (rolls-List m a e.0, rolls-List n b t)
    (ruled_map e.0 t (T.List m a e.0) (T.List n b t) (λ w. T.List (max m n) (a && b) w)
    (λ w k. Joins.lists m n a b e.0 t w k) (join e.0 t) (e.1 t))
kinds_ruled (CelType-F.Map m i e) (CelType-F.Map n j t) =
    rw (rolls-Map m i e.0, rolls-Map n j t)
    (ruled_map e.0 t (T.Map m i e.0) (T.Map n j t) (λ w. T.Map (max m n) (max i j) w)
    (λ w k. Joins.maps m n i j e.0 t w k) (join e.0 t) (e.1 t))
kinds_ruled (CelType-F.Object fs) (CelType-F.Object gs) =
    let es = map bare_field fs in
    rw (rolls-Object es, rolls-Object gs)
    (subst (λ r. Ruled (T.Object es) (T.Object gs) (option_map (λ hs. T.Object hs) r)) (sym (joined_fields-is es gs))
    (objects_ruled es gs (joined_fields es gs) (fields_ruled fs gs)))
kinds_ruled _ _ = tt

bare_level : (y : CelType-F Such) → IsBareLevel (bare y) → (z : CelType-F ((t : CelType) × IsRuled (rolled y) t))
    → IsRuled (rolled y) (roll-CelType (map-CelType _ _ (λ e. e.0) z))
bare_level y h CelType-F.Never = subst (IsRuled (rolled y)) (sym rolls-Never) (with_never (rolled y))
bare_level y h CelType-F.Null =
    let s = rolled y in
    let b = bare_roll (bare y) h in
    subst (IsRuled s) (sym rolls-Null)
    (by_equation s T.Null (Some (T.Nullable s)) (join-bare-Null s b) (Joins.either_order _ _ _ (Joins.null_and_other s b)))
bare_level y h (CelType-F.Nullable e) =
    let s = rolled y in
    let b = bare_roll (bare y) h in
    subst (IsRuled s) (sym (rolls-Nullable e.0))
    (by_equation s (T.Nullable e.0) (option_map (λ w. T.Nullable w) (join s e.0)) (join-bare-Nullable s e.0 b)
    (ruled_map s e.0 s (T.Nullable e.0) (λ w. T.Nullable w)
    (λ w j. Joins.either_order _ _ _ (Joins.one_nullable e.0 s w b (Joins.either_order s e.0 w j))) (join s e.0) e.1))
bare_level y h z =
    let p = map-CelType _ _ (λ e. e.0) z in
    by_equation (rolled y) (roll-CelType p) (join_kinds (map-CelType _ _ joiner_of (bare y)) p) (join_rolled (bare y) p h tt)
    (kinds_ruled y p)

bare_ruled : (y : CelType-F Such) → IsBareLevel (bare y) → (t : CelType) → IsRuled (rolled y) t
bare_ruled y h = ind-CelType (IsRuled (rolled y)) (λ x z is. subst (λ w. IsRuled (rolled y) (roll-CelType w)) is (bare_level y h z))

abbrev AllRuled : CelType → Type 0
AllRuled s = (t : CelType) → IsRuled s t

level_ruled : (y : CelType-F Such) → AllRuled (rolled y)
level_ruled CelType-F.Never =
    subst AllRuled (sym rolls-Never) (λ t. by_equation T.Never t (Some t) (join-Never-left t) (Joins.never t))
level_ruled CelType-F.Null = subst AllRuled (sym rolls-Null) (at_levels (IsRuled T.Null) null_level)
level_ruled (CelType-F.Nullable e) =
    subst AllRuled (sym (rolls-Nullable e.0)) (at_levels (IsRuled (T.Nullable e.0)) (nullable_level e.0 e.1))
level_ruled y = bare_ruled y tt

ruled : (s t : CelType) → IsRuled s t
ruled = ind-CelType AllRuled (λ x y is. subst (λ z. AllRuled (roll-CelType z)) is (level_ruled y))

pub to_rules : (s t u : CelType) → join s t ≡ Some u → Joins s t u
to_rules s t u e = subst (Ruled s t) e (ruled s t)

-- the join is the one of the rules
pub joins : (s t u : CelType) → join s t ≡ Some u ↔ Joins s t u
joins s t u = (to_rules s t u, from_rules s t u)

some_same : (t u : CelType) → Some t ≡ Some u → t ≡ u
some_same t u e = ap (λ o. elim o [ None ↦ t | Some w ↦ w ]) e

-- two rules that fit give the same
pub agree : (s t u w : CelType) → Joins s t u → Joins s t w → u ≡ w
agree s t u w j k = some_same u w (sym (from_rules s t u j) ∙ from_rules s t w k)
