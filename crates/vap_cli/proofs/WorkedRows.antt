-- Lines that are printed, worked out.
use Rattle.std.proofs.Common.{◌≡◌, [], ◌∷◌, ◌++◌, codes, decimal, true, negsuc, ap, refl}
use Rattle.cel_value.specs.declared.value.Value as value
use Rattle.cel_value.specs.declared.cel_error.CelError.TheVariants as error
use Rattle.cel_lex.specs.declared.fault.LexFaultKind.TheVariants as lexing
use Rattle.cel_parse.specs.declared.fault.ParseFault.TheVariants as parsing
use Rattle.cel_expression.specs.declared.refusal.Refusal.TheVariants as text_refusal
use Rattle.vap_cli.specs.declared.answer.Refusal.TheVariants as refusal
use Rattle.vap_cli.specs.declared.answer.Answer.TheVariants as answer
use Rattle.cel_value.proofs.WorkedJson.{true_text, negative_text}
use Rattle.vap_cli.specs.Answer.{answer_line}

true_line : answer_line (answer.Value (value.Bool true)) ≡ codes "true" ++ 10 ∷ []
true_line = ap (λ text. text ++ 10 ∷ []) true_text

negative_line : answer_line (answer.Value (value.Int (negsuc 6))) ≡ codes "-" ++ (decimal 7 ++ 10 ∷ [])
negative_line = ap (λ text. text ++ 10 ∷ []) negative_text

error_line : answer_line (answer.Error error.DivideByZero) ≡ codes "error: DivideByZero" ++ 10 ∷ []
error_line = refl

number_line : answer_line (answer.Refused (refusal.Text (text_refusal.Parse (parsing.Lex (record { kind = lexing.IntRange; place = 14 })))))
    ≡ codes "refused: IntRange at " ++ (decimal 14 ++ 10 ∷ [])
number_line = refl

depth_line : answer_line (answer.Refused (refusal.Text (text_refusal.Parse parsing.TooDeep))) ≡ codes "refused: TooDeep" ++ 10 ∷ []
depth_line = refl

budget_line : answer_line (answer.Refused (refusal.Text (text_refusal.OverBudget 10000001)))
    ≡ codes "refused: OverBudget " ++ (decimal 10000001 ++ 10 ∷ [])
budget_line = refl
