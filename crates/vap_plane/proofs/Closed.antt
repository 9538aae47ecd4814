-- A history whose entries all begin the final log.
use Rattle.std.proofs.Common.{◌≡◌, ℕ, List, [], ◌∷◌, length, ap, subst, ◌∙◌, zero, suc, arith}
use Rattle.std.proofs.lemmas.Option.{slice_get_within}
use Rattle.std.specs.Prelude.{slice_get, Some}
use Rattle.std.specs.List.{All}
use Rattle.vap_policy_verdict.specs.declared.verdict.Verdict.{Verdict}
use Rattle.vap_watch.specs.declared.log.Logged.{Logged}
use Rattle.vap_audit.proofs.Revisions.{verdict_revision}
use Rattle.vap_audit.specs.Entries.{AreRightIn, BeginWith, IsKept}
use Rattle.vap_audit.specs.declared.entry.Entry.{Entry}

module _ {X : Type 0} where
  others : (P : X → Type 0) (x : X) (xs : List X) → All P (x ∷ xs) → All P xs
  others P x xs all k d lt = all (suc k) d (omega arith)

  held : (P : X → Type 0) (xs : List X) (k : ℕ) (x : X) → All P xs → slice_get xs k ≡ Some x → P x
  held P [] k x all at = let p : ⊥ = cc in absurd p
  held P (y ∷ xs) zero x all at = let same : y ≡ x = cc in subst P same (all zero y (omega arith))
  held P (y ∷ xs) (suc k) x all at = held P xs k x (others P y xs all) at

-- its entries are right in this log
pub right_in : (history : List Entry) (log : List Logged) → All IsKept history → BeginWith (length history) history log
    → AreRightIn log history
right_in history log kept begins k e at =
    let is = held IsKept history k e kept at in
    record {
      begins = begins k e (slice_get_within history k e at) at;
      published = is.published;
      named = ap (λ (v : Verdict). v.revision) is.right ∙ verdict_revision e.log e.request;
      right = is.right;
    }
