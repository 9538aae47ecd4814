-- A policy at a kind: its expressions in order, or the first fault.
use Rattle.std.specs.Prelude.{ℕ, ◌+◌, List, [], ◌∷◌, ◌++◌, sum_by, nat_lt, Option, Some, None, Result, Ok, Err, if◌then◌else◌}
use Rattle.cel_expression.specs.Source.{Source}
use Rattle.cel_expression.specs.Expressions.{estimate_at}
use Rattle.vap_read.specs.declared.policy.NamedExpression.{NamedExpression}
use Rattle.vap_read.specs.declared.policy.Validation.{Validation}
use Rattle.vap_read.specs.declared.policy.AuditAnnotation.{AuditAnnotation}
use Rattle.vap_read.specs.declared.policy.PolicySpec.{PolicySpec}
use Rattle.vap_policy_programs.specs.declared.names.KindTypes.{KindTypes}
use Rattle.vap_policy_programs.specs.declared.names.ParamsType.{ParamsType}
use Rattle.vap_policy_programs.specs.declared.pair_fault.PairFault.{PairFault}
use Rattle.vap_policy_programs.specs.declared.pair_fault.PairFault.TheVariants as fault
use Rattle.vap_policy_programs.specs.declared.programs.Condition.{Condition}
use Rattle.vap_policy_programs.specs.declared.programs.Check.{Check}
use Rattle.vap_policy_programs.specs.declared.programs.Annotation.{Annotation}
use Rattle.vap_policy_programs.specs.declared.programs.Programs.{Programs}
use Rattle.vap_policy_programs.specs.declared.programs.Pair.{Pair}
use Rattle.vap_policy_programs.specs.declared.programs.Pair.TheVariants.{Runs, Misconfigured}
use Rattle.vap_policy_programs.specs.declared.wanted.Wanted.TheVariants.{Whatever, Truth, Message, Note}
use Rattle.vap_policy_programs.specs.Scopes.{NoPatterns, Scope, source, is_unknown, first_names, with_variable}
use Rattle.vap_policy_programs.specs.Wanted.{compiled_as}

-- ---- one after another, up to the first fault

-- what comes after a step, unless that has a fault
abbrev pub after : {A B : Type 0} → Result A PairFault → (A → Result B PairFault) → Result B PairFault
after (Ok x) f = f x
after (Err why) f = Err why

-- more items after the first ones, unless there is a fault
abbrev pub behind : {A : Type 0} → List A → Result (List A) PairFault → Result (List A) PairFault
behind xs (Ok ys) = Ok (xs ++ ys)
behind xs (Err why) = Err why

-- what each item gives, or the first fault
abbrev pub each : {A B : Type 0} → (A → Result B PairFault) → List A → Result (List B) PairFault
each f [] = Ok []
each f (x ∷ xs) = after (f x) (λ y. behind (y ∷ []) (each f xs))

-- ---- the parts of a policy

-- a condition is a truth value
unfoldable pub condition_of : NoPatterns → Scope → NamedExpression → Result Condition PairFault
condition_of choice names c =
    after (compiled_as Truth (source choice names c.expression)) (λ s. Ok (record { name = c.name; expression = s }))

-- variables, and the names that there are after them
pub record Scoped : Type 0 where
  pub variables : List Source
  pub names : Scope

-- each variable sees those before it
abbrev pub scoped_from : NoPatterns → Scope → List Source → List NamedExpression → Result Scoped PairFault
scoped_from choice names made [] = Ok (record { variables = made; names = names })
scoped_from choice names made (v ∷ vs) =
    after (compiled_as Whatever (source choice names v.expression))
    (λ s. scoped_from choice (with_variable names v.name s) (made ++ s ∷ []) vs)

-- a message is a text
abbrev pub message_of : NoPatterns → Scope → Option (List ℕ) → Result (Option Source) PairFault
message_of choice names None = Ok None
message_of choice names (Some text) = after (compiled_as Message (source choice names text)) (λ s. Ok (Some s))

-- a validation is a truth value, and comes before its message
unfoldable pub check_of : NoPatterns → Scope → Validation → Result Check PairFault
check_of choice names v =
    after (compiled_as Truth (source choice names v.expression)) (λ s.
    after (message_of choice names v.message_expression) (λ m.
    Ok (record { expression = s; message = v.message; message_expression = m; reason = v.reason })))

-- an annotation's value is a text or null
unfoldable pub annotation_of : NoPatterns → Scope → AuditAnnotation → Result Annotation PairFault
annotation_of choice names a =
    after (compiled_as Note (source choice names a.value_expression)) (λ s. Ok (record { key = a.key; value = s }))

-- ---- the price

-- the most that a condition may charge
abbrev pub condition_estimate : Condition → ℕ
condition_estimate c = estimate_at c.expression

-- the most that a message may charge
abbrev pub message_estimate : Option Source → ℕ
message_estimate None = 0
message_estimate (Some s) = estimate_at s

-- the most that a validation may charge, with its message
abbrev pub check_estimate : Check → ℕ
check_estimate c = estimate_at c.expression + message_estimate c.message_expression

-- the most that an annotation may charge
abbrev pub annotation_estimate : Annotation → ℕ
annotation_estimate a = estimate_at a.value

-- the most that validations and annotations may charge
abbrev pub price_behind : Programs → ℕ
price_behind ps = sum_by check_estimate ps.validations + sum_by annotation_estimate ps.annotations

-- the most that a policy may charge for one param
abbrev pub price_of : Programs → ℕ
price_of ps = sum_by condition_estimate ps.conditions + (sum_by estimate_at ps.variables + price_behind ps)

-- the most that these may charge
abbrev pub price_with : List Condition → List Source → List Check → List Annotation → ℕ
price_with cs vs ks ns =
    sum_by condition_estimate cs + (sum_by estimate_at vs + (sum_by check_estimate ks + sum_by annotation_estimate ns))

-- programs, with their price
abbrev pub programs_of : List Condition → List Source → List Check → List Annotation → Programs
programs_of cs vs ks ns = record {
  conditions = cs;
  variables = vs;
  validations = ks;
  annotations = ns;
  price = price_with cs vs ks ns;
}

-- the greatest price
abbrev pub most : ℕ
most = 100000000

-- programs whose price is not too high
abbrev pub within_price : Programs → Result Programs PairFault
within_price ps = if nat_lt most (price_of ps) then Err fault.OverBudget else Ok ps

-- ---- a policy at a kind

-- what comes after the variables
abbrev pub decisions_behind : NoPatterns → List Condition → PolicySpec → Scoped → Result Programs PairFault
decisions_behind choice cs p d =
    after (each (check_of choice d.names) p.validations) (λ ks.
    after (each (annotation_of choice d.names) p.audit_annotations) (λ ns.
    within_price (programs_of cs d.variables ks ns)))

-- what comes after the conditions
abbrev pub programs_behind : NoPatterns → Scope → PolicySpec → List Condition → Result Programs PairFault
programs_behind choice names p cs = after (scoped_from choice names [] p.variables) (decisions_behind choice cs p)

-- conditions, then variables, validations and annotations, then the price; conditions see no variables
abbrev pub programs_at : NoPatterns → Scope → PolicySpec → Result Programs PairFault
programs_at choice names p = after (each (condition_of choice names) p.match_conditions) (programs_behind choice names p)

-- a pair of programs, or of a fault
abbrev pub pair_by : Result Programs PairFault → Pair
pair_by (Ok ps) = Runs ps
pair_by (Err why) = Misconfigured why

-- the programs, unless the policy names a kind of params that is not known
abbrev pub programs_with : NoPatterns → KindTypes → ParamsType → PolicySpec → Result Programs PairFault
programs_with choice types params p =
    if is_unknown params then Err fault.UnknownParamKind else programs_at choice (first_names types params) p

-- the programs of a policy at a kind, or the first of what makes it misconfigured there
unfoldable pub pair_of : NoPatterns → KindTypes → ParamsType → PolicySpec → Pair
pair_of choice types params p = pair_by (programs_with choice types params p)
