-- Answers at a log that all workers were told of.
use Rattle.std.proofs.Common.{◌≡◌, ℕ, ◌+◌, ◌<◌, List, [], ◌∷◌, ◌++◌, length, get_or, map, replicate, take, drop}
use Rattle.std.proofs.Common.{refl, sym, ap, subst, ◌∙◌, zero, suc}
use Rattle.std.proofs.Common.{arith, append-nil, length-append}
use Rattle.std.proofs.lemmas.List.{take_all, drop_all}
use Rattle.std.specs.Prelude.{slice_get, Option, Some}
use Rattle.std.specs.List.{All}
use Rattle.vap_watch.specs.Shown.{Shown}
use Rattle.vap_match.specs.declared.request.Request.{Request}
use Rattle.vap_policy_verdict.specs.declared.verdict.Verdict.{Verdict}
use Rattle.vap_watch.specs.Logs.{StartsWith}
use Rattle.vap_watch.specs.declared.log.Logged.{Logged}
use Rattle.vap_audit.specs.Verdicts.{verdict_at}
use Rattle.vap_plane.specs.Answers.{AreAnswers, AreAtTold, verdicts_at}
use Rattle.vap_plane_gathering.proofs.Numbered.{get_mapped, mapped_length}
use Rattle.vap_plane.proofs.Replies.{all_rest}

-- two lists with the same elements in the same places
by_places : {X : Type 0} (xs ys : List X) → length xs ≡ length ys
    → ((n : ℕ) (x : X) → slice_get xs n ≡ Some x → slice_get ys n ≡ Some x) → xs ≡ ys
by_places [] [] len each = refl
by_places [] (y ∷ ys) len each = absurd (omega arith)
by_places (x ∷ xs) [] len each = absurd (omega arith)
by_places {X = X} (x ∷ xs) (y ∷ ys) len each =
    let first : ◌≡◌ {A = Option X} (Some y) (Some x) = each 0 x refl in
    let same : y ≡ x = cc in
    let rest : xs ≡ ys = by_places xs ys (omega arith) (λ n z at. each (suc n) z at) in
    ap (λ (z : X). z ∷ xs) (sym same) ∙ ap (λ (l : List X). y ∷ l) rest

module _ {X : Type 0} where
  empty : (xs : List X) → length xs ≡ 0 → xs ≡ []
  empty [] e = refl
  empty (x ∷ xs) e = cc

  all_get : (P : X → Type 0) (xs : List X) (n : ℕ) (x : X) → All P xs → slice_get xs n ≡ Some x → P x
  all_get P [] n x all e = let p : ⊥ = cc in absurd p
  all_get P (y ∷ xs) zero x all e = let same : y ≡ x = cc in subst P same (all 0 y (omega arith))
  all_get P (y ∷ xs) (suc n) x all e = all_get P xs n x (all_rest P y xs all) e

  replicated : (n k : ℕ) (x y : X) → slice_get (replicate n x) k ≡ Some y → y ≡ x
  replicated zero k x y e = let p : ⊥ = cc in absurd p
  replicated (suc n) zero x y e = let same : x ≡ y = cc in sym same
  replicated (suc n) (suc k) x y e = replicated n k x y e

  replicated_at : (n k : ℕ) (x d : X) → k < n → get_or (replicate n x) k d ≡ x
  replicated_at zero k x d within = absurd (omega arith)
  replicated_at (suc n) zero x d within = refl
  replicated_at (suc n) (suc k) x d within = replicated_at n k x d (omega arith)

  -- a list that begins with one of its length is that one
  same_length : (list seen : List X) → StartsWith list seen → length list ≡ length seen → list ≡ seen
  same_length list seen begins len =
      let all : length list ≡ length seen + length begins.rest =
      ap (λ (l : List X). length l) begins.split ∙ length-append seen begins.rest in
      let none : begins.rest ≡ [] = empty begins.rest (omega (arith, all, len)) in
      begins.split ∙ (ap (λ (l : List X). seen ++ l) none ∙ append-nil seen)

-- what is written over a list of its length is all there is
pub written : {X : Type 0} (n : ℕ) (new old : List X) → length new ≡ length old → n ≡ length old
    → take n (new ++ drop (length new) old) ≡ new
written {X = X} n new old same len =
    ap (λ (xs : List X). take n (new ++ xs)) (drop_all (length new) old (omega (arith, same)))
    ∙ (ap (take n) (append-nil new) ∙ take_all n new (omega (arith, same, len)))

-- each of several workers that are told the same is told of its board
pub of_board : (told : Shown Logged) (all : List (Shown Logged)) (n k : ℕ) (d : Shown Logged) → all ≡ replicate n told → k < n
    → (get_or all k d).board ≡ told.board
of_board told all n k d alike within =
    ap (λ (l : List (Shown Logged)). (get_or l k d).board) alike ∙ ap (λ (s : Shown Logged). s.board) (replicated_at n k told d within)

-- an answer that names the revision of all that was told is the one at a told log
pub at_told : (told : List (Shown Logged)) (requests : List Request) (verdicts : List Verdict) → AreAnswers told requests verdicts
    → AreAtTold told requests verdicts
at_told told requests verdicts answers number verdict at all =
    let answer = answers.each number verdict at in
    let begins = answer.begins in
    let revision = all_get (λ (s : Shown Logged). length s.list ≡ verdict.revision) told begins.place begins.one all begins.there in
    let same : answer.log ≡ begins.one.list =
    same_length answer.log begins.one.list begins.begins (sym answer.named ∙ sym revision) in
    record {
      place = begins.place;
      one = begins.one;
      there = begins.there;
      request = answer.request;
      asked = answer.asked;
      right = answer.right ∙ ap (λ (l : List Logged). verdict_at l answer.request) same;
    }

-- answers that begin with one log and name its length are the verdicts at that log
pub all_there : (told : List (Shown Logged)) (workers : ℕ) (shown : Shown Logged) (requests : List Request) (verdicts : List Verdict)
    → told ≡ replicate workers shown → AreAnswers told requests verdicts
    → All (λ verdict. verdict.revision ≡ length shown.list) verdicts → verdicts ≡ verdicts_at shown.list requests
all_there told workers shown requests verdicts all answers named =
    by_places verdicts (verdicts_at shown.list requests) (answers.whole ∙ sym (mapped_length (verdict_at shown.list) requests)) there
  where
    there : (n : ℕ) (v : Verdict) → slice_get verdicts n ≡ Some v → slice_get (verdicts_at shown.list requests) n ≡ Some v
    there n v at =
        let answer = answers.each n v at in
        let one = answer.begins in
        let found = subst (λ (l : List (Shown Logged)). slice_get l one.place ≡ Some one.one) all one.there in
        let known : one.one ≡ shown = replicated workers one.place shown one.one found in
        let begins : StartsWith answer.log shown.list = subst (λ (s : Shown Logged). StartsWith answer.log s.list) known one.begins in
        let revision = all_get (λ (w : Verdict). w.revision ≡ length shown.list) verdicts n v named at in
        let same : answer.log ≡ shown.list = same_length answer.log shown.list begins (sym answer.named ∙ revision) in
        get_mapped (verdict_at shown.list) requests n answer.request answer.asked
        ∙ ap Some (ap (λ (l : List Logged). verdict_at l answer.request) (sym same) ∙ sym answer.right)
