-- A source evaluates to at most one value or error.
use Rattle.std.proofs.Common.{◌≡◌, ◌++◌, ℕ, List, [], map, Option, Some, None, sym, ap, subst, ◌∙◌}
use Rattle.std.specs.Prelude.{Result, Ok, Err, IfOk}
use Rattle.base_containers.specs.declared.text.Keyed.{Keyed}
use Rattle.cel_value.specs.declared.cel_type.CelType.{CelType}
use Rattle.cel_operators.specs.Outcomes.{Outcome}
use Rattle.cel_expression.specs.Source.{Source}
use Rattle.cel_expression.specs.declared.refusal.Refusal.{Refusal as TextRefusal}
use Rattle.cel_expression.specs.Expressions.{Typed, Ran, accepted_of, allowed, compiled_of, ran_in, run_of}
use Rattle.vap_cli.specs.declared.answer.Answer.{Answer}
use Rattle.vap_cli.specs.Evaluation.{Choice, RunsTo, IsAnswerTo, IsAnswerOf, IsAnswerBy, source_of}

-- the outcome, or another in its place
abbrev outcome_or : Outcome → Option Ran → Outcome
outcome_or x None = x
outcome_or x (Some r) = r.outcome

pub one_value : (s : Source) (x y : Outcome) → RunsTo s x → RunsTo s y → x ≡ y
one_value s x y p q = ap (outcome_or x) (sym p.ran ∙ q.ran)

-- what is refused is not run
not_run : (s : Source) (typed : Typed) (slots : List Outcome) (r : Ran) (why : TextRefusal) → ran_in typed slots ≡ Some r
    → allowed s typed ≡ Err why → ⊥
not_run s (Err e) slots r why p q = absurd cc
not_run s (Ok tree) slots r why p q = absurd cc

pub never_refused : (s : Source) (x : Outcome) (why : TextRefusal) → RunsTo s x → compiled_of s ≡ Err why → ⊥
unfolding run_of compiled_of
never_refused s x why p q = not_run s (accepted_of s) [] _ why p.ran q

-- if nothing is lent and nothing was made, there are no slots
pub no_slots : {A : Type 0} {B : Type 0} (f : A → B) (lent : List A) (made slots : List B) → slots ≡ map f lent ++ made → lent ≡ []
    → made ≡ [] → slots ≡ []
no_slots f lent made slots is none nothing = is ∙ ap (λ xs. map f xs ++ made) none ∙ nothing

-- what a run with no slots resulted in
pub runs_to : (s : Source) (slots : List Outcome) (x y : Outcome) (charged : ℕ) → slots ≡ []
    → run_of s slots ≡ Some (record { outcome = x; charged = charged }) → x ≡ y → RunsTo s y
runs_to s slots x y charged none ran is = record {
  charged = charged;
  ran =
      subst (λ z. run_of s z ≡ Some (record { outcome = y; charged = charged })) none
      (ran ∙ ap (λ z. Some (record { outcome = z; charged = charged })) is);
}

-- an answer of a source that may be run is that of its text
pub answers_by : {E : Type 0} (choice : Choice) (names : List (Keyed CelType)) (text : List ℕ) (s : Source) (answer : Result Answer E)
    → names ≡ [] → s ≡ record { choice = choice; names = names; text = text }
    → Ok s ≡ compiled_of (record { choice = choice; names = names; text = text })
    → IfOk answer (IsAnswerOf s) → IfOk answer (IsAnswerBy choice text)
answers_by choice names text s (Err e) none is may of = of
answers_by choice names text s (Ok a) none is may of =
    let same : s ≡ source_of choice text = is ∙ ap (λ n. record { choice = choice; names = n; text = text }) none in
    let itself : compiled_of s ≡ Ok s = subst (λ z. compiled_of z ≡ Ok s) (sym is) (sym may) in
    subst (λ z. IsAnswerTo z a) same (of itself)
