-- What is run charges no more than its price, whatever its names hold that is of their types.
use Rattle.std.proofs.Common.{◌≡◌, ◌≤◌, ◌+◌, ℕ, Bool, true, false, List, [], ◌∷◌, ◌++◌, Option, Some, None, Result, Ok, Err}
use Rattle.std.proofs.Common.{nat_lt, refl, sym, subst, cond, sum_by, option_map, append_assoc, arith}
use Rattle.std.proofs.lemmas.Bool.{and_from}
use Rattle.std.proofs.lemmas.List.{append-nil}
use Rattle.std.proofs.lemmas.List.Sums.{sum_by-cons}
use Rattle.cel_check.proofs.Checks.{right_outside}
use Rattle.cel_check.proofs.Preserved.{preserved}
use Rattle.cel_check.specs.Meaning.{cost_of, is_right, type_of, value_of}
use Rattle.cel_check.specs.Typing.{Checked, checked, is_too_large, refused, types_in}
use Rattle.cel_estimate.proofs.Bounded.{bounded_by_estimate}
use Rattle.cel_estimate.specs.Estimate.{budget, estimate_of}
use Rattle.cel_expression.specs.Expressions.{Typed, accepted_of, estimate_at, estimate_in, names_in, ran_in, run_of, told, type_at}
use Rattle.cel_expression.specs.Expressions.{type_in, typed_at, typed_of, within_budget}
use Rattle.cel_expression.specs.Source.{Source}
use Rattle.cel_expression.specs.declared.refusal.Refusal.TheVariants as refusal
use Rattle.cel_parse.specs.declared.fault.ParseFault.{ParseFault}
use Rattle.cel_operators.specs.Outcomes.{Outcome, Side, outcome_fits, outside, slots_fit, types_outside}
use Rattle.cel_operators.specs.declared.type_rule.TypeRule.TheVariants.{TooLarge}
use Rattle.cel_parse.specs.Parsed.{parsed}
use Rattle.cel_value.specs.declared.expr.Expr.{Expr}
use Rattle.cel_value.specs.declared.cel_type.CelType.{CelType}
use Rattle.cel_value.specs.Views.{capped}
use Rattle.vap_policy_programs.specs.Pairs.{annotation_estimate, check_estimate, condition_estimate, message_estimate, price_of}
use Rattle.vap_policy_programs.specs.Ready.{AreAnnotationsAt, AreChecksAt, AreConditionsAt, Follow, IsAt, IsMessageAt, IsReady, all_types}
use Rattle.vap_policy_programs.specs.declared.programs.Annotation.{Annotation}
use Rattle.vap_policy_programs.specs.declared.programs.Check.{Check}
use Rattle.vap_policy_programs.specs.declared.programs.Condition.{Condition}
use Rattle.vap_policy_programs.specs.declared.programs.Programs.{Programs}
use Rattle.vap_policy_evaluation.proofs.FittingSlots.{fits_more}
use Rattle.vap_policy_evaluation.specs.Annotations.{note_charge}
use Rattle.vap_policy_evaluation.specs.Conditions.{conditions_charge, conditions_pass, unless_false}
use Rattle.vap_policy_evaluation.specs.Found.{charge_of, charge_past}
use Rattle.vap_policy_evaluation.specs.Runs.{charge, charged_by, given, given_by, holds}
use Rattle.vap_policy_evaluation.specs.Validations.{check_charge, told_charge, where_false}
use Rattle.vap_policy_evaluation.specs.Variables.{values_charge, values_from}
use Rattle.vap_policy_evaluation.specs.declared.conditions.Gate.{Gate}
use Rattle.vap_policy_evaluation.specs.declared.conditions.Gate.TheVariants.{Open, Shut, Broken}

-- ---- one expression

-- the tree, if there is one, is well typed if names have their types
abbrev IsTypedIn : Source → Typed → Type 0
IsTypedIn s (Err why) = Unit {0}
IsTypedIn s (Ok tree) = is_right tree (types_outside (types_in s.names)) ≡ true

told_typed : (s : Source) (e : Expr) (r : Checked) → checked e (names_in s) ≡ r → IsTypedIn s (told r)
told_typed s e (Err fault) h = tt
told_typed s e (Ok tree) h = right_outside e s.choice (record { names = s.names }) tree (types_in s.names) h refl

within_typed : (s : Source) (e : Expr) (b : Bool) → IsTypedIn s (told (cond b (refused 0 TooLarge) (checked e (names_in s))))
within_typed s e true = tt
within_typed s e false = told_typed s e (checked e (names_in s)) refl

at_typed : (s : Source) (r : Result Expr ParseFault) → IsTypedIn s (typed_at (names_in s) r)
at_typed s (Err fault) = tt
at_typed s (Ok e) = within_typed s e (is_too_large e)

typed_right : (s : Source) → IsTypedIn s (typed_of s)
unfolding typed_of
typed_right s = at_typed s (parsed s.text)

budget_typed : (s : Source) (t : Typed) → IsTypedIn s t → IsTypedIn s (within_budget t)
budget_typed s (Err why) h = tt
budget_typed s (Ok tree) h = at (nat_lt budget (estimate_of tree))
  where
    at : (b : Bool) → IsTypedIn s (cond b (Err (refusal.OverBudget (capped (estimate_of tree)))) (Ok tree))
    at true = tt
    at false = h

accepted_right : (s : Source) → IsTypedIn s (accepted_of s)
unfolding accepted_of
accepted_right s = budget_typed s (typed_of s) (typed_right s)

there : (t : CelType) (n : ℕ) (v : Option Outcome) → outcome_fits t v ≡ true
    → outcome_fits t (Some (given_by (option_map (λ x. record { outcome = x; charged = n }) v))) ≡ true
there t n None h = absurd cc
there t n (Some x) h = h

given_in : (s : Source) (slots : List Outcome) (t : Typed) → IsTypedIn s t → slots_fit (types_in s.names) slots ≡ true
    → outcome_fits (type_in t) (Some (given_by (ran_in t slots))) ≡ true
given_in s slots (Err why) right fit = refl
given_in s slots (Ok tree) right fit =
    there (type_of tree) (cost_of tree (outside slots)) (value_of tree (outside slots))
    (preserved tree (types_outside (types_in s.names)) (outside slots) right (and_from (slots_fit (types_in s.names) slots) true fit refl))

-- what an expression gives is of its type
given_fits : (s : Source) (slots : List Outcome) → slots_fit (types_in s.names) slots ≡ true
    → outcome_fits (type_at s) (Some (given s slots)) ≡ true
unfolding given run_of type_at
given_fits s slots fit = given_in s slots (accepted_of s) (accepted_right s) fit

no_more : (n most : ℕ) (v : Option Outcome) → n ≤ most
    → charged_by (option_map (λ x. record { outcome = x; charged = n }) v) ≤ most
no_more n most None h = omega arith
no_more n most (Some x) h = h

charged_in : (s : Source) (slots : List Outcome) (t : Typed) → IsTypedIn s t → slots_fit (types_in s.names) slots ≡ true
    → charged_by (ran_in t slots) ≤ estimate_in t
charged_in s slots (Err why) right fit = omega arith
charged_in s slots (Ok tree) right fit =
    no_more (cost_of tree (outside slots)) (estimate_of tree) (value_of tree (outside slots))
    (bounded_by_estimate tree (types_outside (types_in s.names)) (outside slots) right
    (and_from (slots_fit (types_in s.names) slots) true fit refl))

-- it charges no more than its estimate
charge_within : (s : Source) (slots : List Outcome) → slots_fit (types_in s.names) slots ≡ true → charge s slots ≤ estimate_at s
unfolding charge run_of estimate_at
charge_within s slots fit = charged_in s slots (accepted_of s) (accepted_right s) fit

-- the same, if names have these types
charge_at : (types : List CelType) (s : Source) (slots : List Outcome) → IsAt types s → slots_fit types slots ≡ true
    → charge s slots ≤ estimate_at s
charge_at types s slots at fit = charge_within s slots (subst (λ ts. slots_fit ts slots ≡ true) (sym at) fit)

given_at : (types : List CelType) (s : Source) (slots : List Outcome) → IsAt types s → slots_fit types slots ≡ true
    → outcome_fits (type_at s) (Some (given s slots)) ≡ true
given_at types s slots at fit = given_fits s slots (subst (λ ts. slots_fit ts slots ≡ true) (sym at) fit)

-- ---- the parts of a policy

no_more_unless : (r : Side) (n : ℕ) → unless_false r n ≤ n
no_more_unless (Ok true) n = omega arith
no_more_unless (Ok false) n = omega arith
no_more_unless (Err e) n = omega arith

conditions_within : (types : List CelType) (cs : List Condition) (slots : List Outcome) → AreConditionsAt types cs
    → slots_fit types slots ≡ true → conditions_charge cs slots ≤ sum_by condition_estimate cs
conditions_within types [] slots at fit = omega arith
conditions_within types (c ∷ cs) slots at fit =
    omega (
      arith,
      sum_by-cons condition_estimate c cs,
      charge_at types c.expression slots at.0 fit,
      no_more_unless (holds c.expression slots) (conditions_charge cs slots),
      conditions_within types cs slots at.1 fit,
    )

one_more : (types : List CelType) (s : Source) (slots made : List Outcome) → IsAt types s → slots_fit types (slots ++ made) ≡ true
    → slots_fit (types ++ type_at s ∷ []) (slots ++ (made ++ given s (slots ++ made) ∷ [])) ≡ true
one_more types s slots made at fit =
    subst (λ z. slots_fit (types ++ type_at s ∷ []) z ≡ true) (append_assoc slots made (given s (slots ++ made) ∷ []))
    (fits_more types (slots ++ made) (type_at s) (given s (slots ++ made)) fit (given_at types s (slots ++ made) at fit))

values_fit : (types last : List CelType) (ss : List Source) (slots made : List Outcome) → Follow types ss last
    → slots_fit types (slots ++ made) ≡ true → slots_fit last (slots ++ values_from made ss slots) ≡ true
values_fit types last [] slots made follow fit = subst (λ ts. slots_fit ts (slots ++ made) ≡ true) follow fit
values_fit types last (s ∷ ss) slots made follow fit =
    values_fit (types ++ type_at s ∷ []) last ss slots (made ++ given s (slots ++ made) ∷ []) follow.1
    (one_more types s slots made follow.0 fit)

values_within : (types last : List CelType) (ss : List Source) (slots made : List Outcome) → Follow types ss last
    → slots_fit types (slots ++ made) ≡ true → values_charge made ss slots ≤ sum_by estimate_at ss
values_within types last [] slots made follow fit = omega arith
values_within types last (s ∷ ss) slots made follow fit =
    omega (
      arith,
      sum_by-cons estimate_at s ss,
      charge_at types s (slots ++ made) follow.0 fit,
      values_within (types ++ type_at s ∷ []) last ss slots (made ++ given s (slots ++ made) ∷ []) follow.1
          (one_more types s slots made follow.0 fit),
    )

no_more_where : (r : Side) (n : ℕ) → where_false r n ≤ n
no_more_where (Ok true) n = omega arith
no_more_where (Ok false) n = omega arith
no_more_where (Err e) n = omega arith

told_within : (types : List CelType) (m : Option Source) (slots : List Outcome) → IsMessageAt types m → slots_fit types slots ≡ true
    → told_charge m slots ≤ message_estimate m
told_within types None slots at fit = omega arith
told_within types (Some s) slots at fit = charge_at types s slots at fit

check_within : (types : List CelType) (k : Check) (slots : List Outcome) → IsAt types k.expression
    → IsMessageAt types k.message_expression → slots_fit types slots ≡ true → check_charge slots k ≤ check_estimate k
unfolding check_charge
check_within types k slots at message fit =
    omega (
      arith,
      charge_at types k.expression slots at fit,
      no_more_where (holds k.expression slots) (told_charge k.message_expression slots),
      told_within types k.message_expression slots message fit,
    )

checks_within : (types : List CelType) (ks : List Check) (slots : List Outcome) → AreChecksAt types ks → slots_fit types slots ≡ true
    → sum_by (check_charge slots) ks ≤ sum_by check_estimate ks
checks_within types [] slots at fit = omega arith
checks_within types (k ∷ ks) slots at fit =
    omega (
      arith,
      sum_by-cons (check_charge slots) k ks,
      sum_by-cons check_estimate k ks,
      check_within types k slots at.0.0 at.0.1 fit,
      checks_within types ks slots at.1 fit,
    )

annotations_within : (types : List CelType) (ns : List Annotation) (slots : List Outcome) → AreAnnotationsAt types ns
    → slots_fit types slots ≡ true → sum_by (note_charge slots) ns ≤ sum_by annotation_estimate ns
annotations_within types [] slots at fit = omega arith
annotations_within types (n ∷ ns) slots at fit =
    omega (
      arith,
      sum_by-cons (note_charge slots) n ns,
      sum_by-cons annotation_estimate n ns,
      charge_at types n.value slots at.0 fit,
      annotations_within types ns slots at.1 fit,
    )

-- ---- a policy

-- a policy charges no more than its estimates together
pub charge_within_price : (types : List CelType) (ps : Programs) (slots : List Outcome) → IsReady types ps
    → slots_fit types slots ≡ true → charge_of ps slots ≤ price_of ps
unfolding charge_of
charge_within_price types ps slots ready fit = at (conditions_pass ps.conditions slots)
  where
    last : List CelType
    last = all_types types ps.variables

    at_first : slots_fit types (slots ++ []) ≡ true
    at_first = subst (λ z. slots_fit types z ≡ true) (sym (append-nil slots)) fit

    behind : slots_fit last (slots ++ values_from [] ps.variables slots) ≡ true
    behind = values_fit types last ps.variables slots [] ready.variables at_first

    at : (g : Gate) → conditions_charge ps.conditions slots + charge_past ps slots g ≤ price_of ps
    at Open =
        omega (
          arith,
          conditions_within types ps.conditions slots ready.conditions fit,
          values_within types last ps.variables slots [] ready.variables at_first,
          checks_within last ps.validations (slots ++ values_from [] ps.variables slots) ready.validations behind,
          annotations_within last ps.annotations (slots ++ values_from [] ps.variables slots) ready.annotations behind,
        )
    at Shut = omega (arith, conditions_within types ps.conditions slots ready.conditions fit)
    at (Broken message) = omega (arith, conditions_within types ps.conditions slots ready.conditions fit)
