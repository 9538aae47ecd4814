-- Expressions of a type that is wanted.
use Rattle.std.specs.Prelude.{Bool, true, false, Option, Some, None, Result, Ok, Err, if◌then◌else◌}
use Rattle.cel_value.specs.declared.cel_type.CelType.{CelType, out-CelType}
use Rattle.cel_value.specs.declared.cel_type.CelType.TheOpen.{CelType-F}
use Rattle.cel_operators.specs.declared.type_rule.TypeRule.TheVariants.{NoOverload}
use Rattle.cel_expression.specs.declared.refusal.Refusal.{Refusal}
use Rattle.cel_expression.specs.declared.refusal.Refusal.TheVariants as refusal
use Rattle.cel_expression.specs.Source.{Source}
use Rattle.cel_expression.specs.Expressions.{compiled_of, root_type, typed_of}
use Rattle.vap_policy_programs.specs.declared.wanted.Wanted.{Wanted}
use Rattle.vap_policy_programs.specs.declared.wanted.Wanted.TheVariants.{Whatever, Truth, Message, Note}
use Rattle.vap_policy_programs.specs.declared.pair_fault.PairFault.{PairFault}
use Rattle.vap_policy_programs.specs.declared.pair_fault.PairFault.TheVariants as pair

-- one level: the type of truth values
abbrev pub is_truth_level : CelType-F CelType → Bool
is_truth_level CelType-F.Bool = true
is_truth_level _ = false

-- one level: a type of texts
abbrev pub is_text_level : CelType-F CelType → Bool
is_text_level (CelType-F.Text max) = true
is_text_level _ = false

abbrev pub is_text : CelType → Bool
is_text t = is_text_level (out-CelType t)

-- one level: texts, texts or null, or null
abbrev pub is_note_level : CelType-F CelType → Bool
is_note_level CelType-F.Null = true
is_note_level (CelType-F.Text max) = true
is_note_level (CelType-F.Nullable t) = is_text t
is_note_level _ = false

-- a type is the one that is wanted: no type is accepted in place of another here
abbrev pub is_wanted : Wanted → CelType → Bool
is_wanted Whatever t = true
is_wanted Truth t = is_truth_level (out-CelType t)
is_wanted Message t = is_text t
is_wanted Note t = is_note_level (out-CelType t)

-- what is reported for an expression of another type
abbrev pub wrong_type : Refusal
wrong_type = refusal.Type (record { rule = NoOverload; place = 0 })

-- an expression that may be run, or its fault
abbrev pub compiled : Result Source Refusal → Result Source PairFault
compiled (Err why) = Err (pair.Expression why)
compiled (Ok s) = Ok s

-- an expression of this type, if it has one: the type is looked at before what it may charge
abbrev pub as_wanted : Wanted → Option CelType → Result Source Refusal → Result Source PairFault
as_wanted w None r = compiled r
as_wanted w (Some t) r = if is_wanted w t then compiled r else Err (pair.Expression wrong_type)

-- an expression that may be run and is of the wanted type, or its fault
unfoldable pub compiled_as : Wanted → Source → Result Source PairFault
compiled_as w s = as_wanted w (root_type (typed_of s)) (compiled_of s)
