-- Rows of what is said and noted, worked by computing.
use Rattle.std.proofs.Common.{◌≡◌, true, false, ◌||◌, [], ◌∷◌, None, Some, Ok, Err, refl}
use Rattle.std.specs.Prelude.{codes}
use Rattle.std.specs.Option.{option_or}
use Rattle.cel_value.specs.declared.value.Value as value
use Rattle.cel_value.specs.declared.cel_error.CelError.TheVariants.{DivideByZero}
use Rattle.vap_read.specs.declared.policy.FailurePolicy.TheVariants.{Ignore}
use Rattle.vap_policy_evaluation.specs.declared.conditions.Gate.TheVariants.{Open, Shut, Broken}
use Rattle.vap_policy_evaluation.specs.Words.{condition_error, can_tell, written, told_or}
use Rattle.vap_policy_evaluation.specs.Conditions.{conditions_pass, gate_of, is_false, said}
use Rattle.vap_policy_evaluation.specs.Validations.{counted}
use Rattle.vap_policy_evaluation.specs.Annotations.{note_by}

-- an error beside what is false is not said
error_and_false : gate_of (is_false (Err DivideByZero) || (is_false (Ok false) || false)) (said (codes "a") (Err DivideByZero)) ≡ Shut
error_and_false = refl

-- of two errors the first is said
two_errors : gate_of false (option_or (said (codes "a") (Err DivideByZero)) (said (codes "b") (Err DivideByZero)))
    ≡ Broken (condition_error (codes "a") DivideByZero)
two_errors = refl

-- without a condition the gate is open
no_condition : conditions_pass [] [] ≡ Open
no_condition = refl

-- nothing, spaces and a second line are not reported; a tab is
nothing : can_tell [] ≡ false
nothing = refl

spaces : can_tell (codes "  ") ≡ false
spaces = refl

two_lines : can_tell (97 ∷ 13 ∷ []) ≡ false
two_lines = refl

tab : can_tell (9 ∷ []) ≡ true
tab = refl

-- a message that is not reported is replaced by the one that is written, and an empty one by the expression
blank_message : told_or (Ok (value.Text (codes " "))) (written (codes "false") (Some (codes "no"))) ≡ codes "no"
unfolding value.out-Value denote.Hole.Carrier.out
blank_message = refl

empty_message : written (codes "false") (Some []) ≡ codes "failed expression: false"
empty_message = refl

-- under Ignore an error is nothing
ignored : counted Ignore None (codes "no") ≡ []
ignored = refl

-- null and an empty text are not noted
null_note : note_by (codes "k") (Ok value.Null) ≡ []
unfolding value.out-Value denote.Hole.Carrier.out
null_note = refl

empty_note : note_by (codes "k") (Ok (value.Text [])) ≡ []
unfolding value.out-Value denote.Hole.Carrier.out
empty_note = refl
