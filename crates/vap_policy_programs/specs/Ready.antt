-- Each expression of a policy is at the types of what it will be run with.
use Rattle.std.specs.Prelude.{◌≡◌, ◌≤◌, List, [], ◌∷◌, ◌++◌, Option, Some, None}
use Rattle.cel_value.specs.declared.cel_type.CelType.{CelType}
use Rattle.cel_check.specs.Typing.{types_in}
use Rattle.cel_expression.specs.Source.{Source}
use Rattle.cel_expression.specs.Expressions.{type_at}
use Rattle.vap_policy_programs.specs.declared.names.KindTypes.{KindTypes}
use Rattle.vap_policy_programs.specs.declared.names.ParamsType.{ParamsType}
use Rattle.vap_policy_programs.specs.declared.programs.Condition.{Condition}
use Rattle.vap_policy_programs.specs.declared.programs.Check.{Check}
use Rattle.vap_policy_programs.specs.declared.programs.Annotation.{Annotation}
use Rattle.vap_policy_programs.specs.declared.programs.Programs.{Programs}
use Rattle.vap_policy_programs.specs.declared.programs.Pair.{Pair}
use Rattle.vap_policy_programs.specs.declared.programs.Pair.TheVariants.{Runs, Misconfigured}
use Rattle.vap_read.specs.declared.policy.PolicySpec.{PolicySpec}
use Rattle.vap_policy_programs.specs.Scopes.{NoPatterns, first_names}
use Rattle.vap_policy_programs.specs.Pairs.{price_of, most, pair_of}

-- an expression is at these types: its names have them
abbrev pub IsAt : List CelType → Source → Type 0
IsAt types s = types_in s.names ≡ types

-- each condition is at these types
abbrev pub AreConditionsAt : List CelType → List Condition → Type 0
AreConditionsAt types [] = Unit {0}
AreConditionsAt types (c ∷ cs) = IsAt types c.expression × AreConditionsAt types cs

-- each variable is at the types that there are after those before it, and after the last there are these types
abbrev pub Follow : List CelType → List Source → List CelType → Type 0
Follow types [] last = types ≡ last
Follow types (s ∷ ss) last = IsAt types s × Follow (types ++ type_at s ∷ []) ss last

-- a message is at these types, if there is one
abbrev pub IsMessageAt : List CelType → Option Source → Type 0
IsMessageAt types None = Unit {0}
IsMessageAt types (Some s) = IsAt types s

-- a validation is at these types, and so is its message
abbrev pub IsCheckAt : List CelType → Check → Type 0
IsCheckAt types c = IsAt types c.expression × IsMessageAt types c.message_expression

-- each validation is at these types
abbrev pub AreChecksAt : List CelType → List Check → Type 0
AreChecksAt types [] = Unit {0}
AreChecksAt types (c ∷ cs) = IsCheckAt types c × AreChecksAt types cs

-- each annotation is at these types
abbrev pub AreAnnotationsAt : List CelType → List Annotation → Type 0
AreAnnotationsAt types [] = Unit {0}
AreAnnotationsAt types (n ∷ ns) = IsAt types n.value × AreAnnotationsAt types ns

-- the types of the names after all variables
abbrev pub all_types : List CelType → List Source → List CelType
all_types types [] = types
all_types types (s ∷ ss) = all_types (types ++ type_at s ∷ []) ss

-- all expressions of a policy may be run if names have these types at first, and its price is kept
pub record IsReady (types : List CelType) (ps : Programs) : Type 0 where
  pub conditions : AreConditionsAt types ps.conditions
  pub variables : Follow types ps.variables (all_types types ps.variables)
  pub validations : AreChecksAt (all_types types ps.variables) ps.validations
  pub annotations : AreAnnotationsAt (all_types types ps.variables) ps.annotations
  pub priced : ps.price ≡ price_of ps

-- the same for what runs at a kind
abbrev pub IsPairReady : KindTypes → ParamsType → Pair → Type 0
IsPairReady types params (Runs ps) = IsReady (types_in (first_names types params)) ps
IsPairReady types params (Misconfigured why) = Unit {0}

-- what runs charges no more than a policy may
abbrev pub IsPairWithin : Pair → Type 0
IsPairWithin (Runs ps) = price_of ps ≤ most
IsPairWithin (Misconfigured why) = Unit {0}

-- every pair is ready
abbrev pub PairsAreReady : Type 0
PairsAreReady = (choice : NoPatterns) (types : KindTypes) (params : ParamsType) (p : PolicySpec)
    → IsPairReady types params (pair_of choice types params p)

-- every pair charges no more than a policy may
abbrev pub PairsAreWithin : Type 0
PairsAreWithin = (choice : NoPatterns) (types : KindTypes) (params : ParamsType) (p : PolicySpec)
    → IsPairWithin (pair_of choice types params p)
