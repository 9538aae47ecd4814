use Rattle.std.proofs.Common.{◌≡◌, Result, Ok, Err, IsErrAnd, IsErrOf, sym, ap, ◌∙◌}
use Rattle.cel_machine.proofs.Runs.{run_is, run_fits, run_within, run_matches}
use Rattle.cel_machine.proofs.evaluation.run_on.Goals as goal

-- an error that is handed on is the one that was answered
same_error : {A B E : Type 0} (r : Result A E) (e f : E) → IsErrAnd r (λ x. x ≡ e) → IsErrOf r f → IsErrOf {T = B} (Err e) f
same_error (Ok a) e f h k = absurd h
same_error (Err x) e f h k = let same : x ≡ f = cc in ap Err (sym h ∙ same)

pub returns-clause-run : goal.returns-clause-run
returns-clause-run c = run_is _ _ c.program.ensures.faithful _ _ _ _ c.requires c.in_ok-ended.ensures.run

pub returns-clause-fits : goal.returns-clause-fits
returns-clause-fits c = run_fits _ _ c.program.ensures.faithful _ _ _ _ c.requires c.in_ok-ended.ensures.run

pub returns-clause-within : goal.returns-clause-within
returns-clause-within c = run_within _ _ c.program.ensures.faithful _ _ _ _ c.requires c.in_ok-ended.ensures.run

pub returns-in_err-ended-clause-pattern : goal.returns-in_err-ended-clause-pattern
returns-in_err-ended-clause-pattern c = λ is.
    run_matches _ _ c.program.ensures.image
    (c.in_err-ended.ensures.pattern (same_error _ _ _ c.from_residual.ensures.1 is))
