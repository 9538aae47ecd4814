-- How the join of two types is computed: a fold over the first, and inside it one over the second.
use Rattle.std.specs.Prelude.{◌&&◌, max, List, [], ◌∷◌, Option, Some, None, option_and_then, if◌then◌else◌}
use Rattle.std.specs.Option.{option_map}
use Rattle.std.specs.Str.{bytes_eq}
use Rattle.base_containers.specs.declared.text.Keyed.{Keyed}
use Rattle.cel_value.specs.declared.cel_type.Field.{Field}
use Rattle.cel_value.specs.declared.cel_type.CelType as T
use Rattle.cel_value.specs.declared.cel_type.CelType.{CelType, fold-CelType, out-CelType, roll-CelType}
use Rattle.cel_value.specs.declared.cel_type.CelType.TheOpen.{CelType-F}
use Rattle.cel_value.specs.declared.cel_type.CelType.TheFolds.{map-CelType}
use Rattle.cel_value.specs.Join.{Fields, joined_field}

-- a type, and the join of it with each other
abbrev pub Joiner : Type 0
Joiner = CelType × (CelType → Option CelType)

-- the type of one level, whose inner types are paired with their joins
abbrev pub itself : CelType-F Joiner → CelType
itself s = roll-CelType (map-CelType _ _ (λ j. j.0) s)

-- the fields of two objects joined one by one; none if names differ, or if types under a name have no join
abbrev pub joined_fields_by : {A : Type 0} → (A → CelType → Option CelType) → List (Keyed (Field A)) → Fields → Option Fields
joined_fields_by join [] [] = Some []
joined_fields_by join (f ∷ fs) (g ∷ gs) =
    if bytes_eq f.key g.key then
    option_and_then (λ t. option_map (λ more. joined_field f g t ∷ more) (joined_fields_by join fs gs))
    (join f.value.cel_type g.value.cel_type)
    else None
joined_fields_by join _ _ = None

-- two types of one kind, neither of which admits null
abbrev pub join_kinds : CelType-F Joiner → CelType-F CelType → Option CelType
join_kinds CelType-F.Bool CelType-F.Bool = Some T.Bool
join_kinds CelType-F.Int CelType-F.Int = Some T.Int
join_kinds CelType-F.Uint CelType-F.Uint = Some T.Uint
join_kinds CelType-F.Timestamp CelType-F.Timestamp = Some T.Timestamp
join_kinds CelType-F.Duration CelType-F.Duration = Some T.Duration
join_kinds CelType-F.Opaque CelType-F.Opaque = Some T.Opaque
join_kinds (CelType-F.Text m) (CelType-F.Text n) = Some (T.Text (max m n))
join_kinds (CelType-F.List m p s) (CelType-F.List n q t) = option_map (λ u. T.List (max m n) (p && q) u) (s.1 t)
join_kinds (CelType-F.Map m i s) (CelType-F.Map n j t) = option_map (λ u. T.Map (max m n) (max i j) u) (s.1 t)
join_kinds (CelType-F.Object fs) (CelType-F.Object gs) = option_map (λ hs. T.Object hs) (joined_fields_by (λ s t. s.1 t) fs gs)
join_kinds _ _ = None

-- a type, and a type's join with it
abbrev pub Joined : Type 0
Joined = CelType × Option CelType

-- s, which is none of Never, Null and Nullable, with the type of one level, whose inner types are paired with s's join with them
abbrev pub join_into : CelType-F Joiner → CelType-F Joined → Option CelType
join_into s CelType-F.Never = Some (itself s)
join_into s CelType-F.Null = Some (T.Nullable (itself s))
join_into s (CelType-F.Nullable u) = option_map (λ j. T.Nullable j) u.1
join_into s t = join_kinds s (map-CelType _ _ (λ j. j.0) t)

-- the same, with the type itself
abbrev pub joined_step : CelType-F Joiner → CelType-F Joined → Joined
joined_step s t = (roll-CelType (map-CelType _ _ (λ j. j.0) t), join_into s t)

-- a type, and the join of s with it
abbrev pub joined_of : CelType-F Joiner → CelType → Joined
joined_of s = fold-CelType Joined (joined_step s)

-- the first rule that fits, for s and t and the level of t
abbrev pub join_at : CelType-F Joiner → CelType → CelType-F CelType → Option CelType
join_at CelType-F.Never t _ = Some t
join_at CelType-F.Null t CelType-F.Never = Some T.Null
join_at CelType-F.Null t CelType-F.Null = Some T.Null
join_at CelType-F.Null t (CelType-F.Nullable u) = Some t
join_at CelType-F.Null t _ = Some (T.Nullable t)
join_at (CelType-F.Nullable s) t CelType-F.Never = Some (T.Nullable s.0)
join_at (CelType-F.Nullable s) t CelType-F.Null = Some (T.Nullable s.0)
join_at (CelType-F.Nullable s) t (CelType-F.Nullable u) = option_map (λ j. T.Nullable j) (s.1 u)
join_at (CelType-F.Nullable s) t _ = option_map (λ j. T.Nullable j) (s.1 t)
join_at s t _ = (joined_of s t).1

-- the same, of a whole type
abbrev pub join_step : CelType-F Joiner → Joiner
join_step s = (itself s, λ t. join_at s t (out-CelType t))

-- the join of two types as it is computed: the one that the rules of `Joins` give, if they give one
abbrev pub join : CelType → CelType → Option CelType
join s t = (fold-CelType Joiner join_step s).1 t
