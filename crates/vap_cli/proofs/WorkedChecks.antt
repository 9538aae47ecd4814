-- Lines that are printed, worked out.
use Rattle.std.proofs.Common.{◌≡◌, [], ◌∷◌, ◌++◌, codes, decimal, refl}
use Rattle.cel_expression.specs.declared.refusal.Refusal.TheVariants as text_refusal
use Rattle.vap_cli.specs.declared.refusal.FileRefusal.TheVariants as refusal
use Rattle.vap_cli.specs.Report.{refused_line, estimate_line}

estimate_is_told : estimate_line 904 ≡ codes "estimate " ++ (decimal 904 ++ 10 ∷ [])
estimate_is_told = refl

budget_is_told : refused_line (refusal.Text (text_refusal.OverBudget 15004004))
    ≡ codes "refused: OverBudget " ++ (decimal 15004004 ++ 10 ∷ [])
budget_is_told = refl

length_is_told : refused_line refusal.TooLong ≡ codes "refused: TooLong" ++ 10 ∷ []
length_is_told = refl
