-- What is said of a failure (Kubernetes, "Validation Expression").
use Rattle.std.specs.Prelude.{ℕ, Bool, not, ◌&&◌, codes, nat_eq, List, [], ◌∷◌, ◌++◌, Option, Some, None, Ok, Err}
use Rattle.std.specs.Prelude.{if◌then◌else◌}
use Rattle.std.specs.List.{list_all}
use Rattle.cel_value.specs.declared.value.Value.{Value, out-Value}
use Rattle.cel_value.specs.declared.value.Value.TheOpen.{Value-F}
use Rattle.cel_value.specs.declared.cel_error.CelError.{CelError}
use Rattle.cel_value.specs.Names.{error_name}
use Rattle.cel_operators.specs.Outcomes.{Outcome}
use Rattle.vap_read.specs.PolicyForm.{has_break}

-- what is said of a match condition with an error
abbrev pub condition_error : List ℕ → CelError → List ℕ
condition_error name e = codes "match condition '" ++ (name ++ (codes "' resulted in error: " ++ error_name e))

-- what is said of any other expression with an error
abbrev pub expression_error : List ℕ → CelError → List ℕ
expression_error text e = codes "expression '" ++ (text ++ (codes "' resulted in error: " ++ error_name e))

-- a text has only spaces, if anything
abbrev pub is_blank : List ℕ → Bool
is_blank text = list_all (nat_eq 32) text

-- a text can be reported: it has more than spaces, and is one line
abbrev pub can_tell : List ℕ → Bool
can_tell text = not (is_blank text) && not (has_break text)

-- the message that is written, or else the expression
abbrev pub written : List ℕ → Option (List ℕ) → List ℕ
written expression None = codes "failed expression: " ++ expression
written expression (Some []) = codes "failed expression: " ++ expression
written expression (Some (b ∷ bs)) = b ∷ bs

-- one level: the text that it is, if that can be reported, or else another
abbrev pub text_or : Value-F Value → List ℕ → List ℕ
text_or (Value-F.Text text) rest = if can_tell text then text else rest
text_or _ rest = rest

-- what a message gave, if that can be reported, or else another text
abbrev pub told_or : Outcome → List ℕ → List ℕ
told_or (Ok v) rest = text_or (out-Value v) rest
told_or (Err e) rest = rest
