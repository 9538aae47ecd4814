-- Answers that came, one further, and in order.
use Rattle.std.proofs.Common.{◌≡◌, ℕ, ◌+◌, ◌<◌, List, [], ◌∷◌, ◌++◌, length, get_or, refl, sym, ap, subst, ◌∙◌, zero, suc}
use Rattle.std.proofs.Common.{arith, length-append}
use Rattle.std.proofs.lemmas.List.Elements.{All-append}
use Rattle.std.proofs.lemmas.Option.{slice_get_read}
use Rattle.std.specs.Prelude.{slice_get, Some}
use Rattle.std.specs.List.{All}
use Rattle.vap_watch.specs.Shown.{Shown}
use Rattle.vap_match.specs.declared.request.Request.{Request}
use Rattle.vap_policy_verdict.specs.declared.verdict.Verdict.{Verdict}
use Rattle.vap_watch.specs.Logs.{StartsWith}
use Rattle.vap_watch.specs.Seen.{Known, Learns, Looks, SeesMore}
use Rattle.vap_watch.specs.declared.log.Logged.{Logged}
use Rattle.vap_watch.proofs.Begins.{starts_further}
use Rattle.vap_watch.proofs.Grows.{sees_still}
use Rattle.vap_audit.proofs.Revisions.{verdict_revision}
use Rattle.vap_audit.specs.Verdicts.{verdict_at}
use Rattle.vap_plane.specs.Answers.{AreAnswers, AreRight, BeginsWithOneOf, IsAnswer, KnowsOneOf}
use Rattle.vap_plane_gathering.specs.Numbered.{IsListOf}
use Rattle.vap_plane_gathering.proofs.Numbered.{came_of}

-- what follows a told log follows one that was told
pub begins_further : (told : List (Shown Logged)) (log more : List Logged) → BeginsWithOneOf told log → StartsWith more log
    → BeginsWithOneOf told more
begins_further told log more begins further = record {
  place = begins.place;
  one = begins.one;
  there = begins.there;
  begins = starts_further more log begins.one.list further begins.begins;
}

-- a reader that learns one of the told logs knows it
pub knows_one : (told held : List (Shown Logged)) (place : ℕ) (one learnt : Shown Logged) (before after : Known Logged)
    → held ≡ told → place < length held → one ≡ get_or held place one → learnt ≡ one → Learns before after learnt.list
    → KnowsOneOf told after
knows_one told held place one learnt before after same inside is copied learns =
    let there : slice_get held place ≡ Some one = slice_get_read held (length held) place one refl inside is in
    record {
      place = place;
      one = one;
      there = subst (λ (l : List (Shown Logged)). slice_get l place ≡ Some one) same there;
      begins = subst (λ (s : Shown Logged). StartsWith after.told s.list) copied learns.told;
    }

-- and knows it still whatever it sees
pub knows_still : (told : List (Shown Logged)) (before after : Known Logged) → KnowsOneOf told before → SeesMore before after
    → KnowsOneOf told after
knows_still told before after knows more = subst (BeginsWithOneOf told) (sym more.told) knows

-- a reader that is as before has seen no less, and so has one that is as one that has
pub sees_same : (before after : Known Logged) → after ≡ before → SeesMore before after
sees_same before after same = subst (λ (k : Known Logged). SeesMore before k) (sym same) (sees_still before)

pub sees_on : (before after last : Known Logged) → SeesMore before after → last ≡ after → SeesMore before last
sees_on before after last more same = subst (λ (k : Known Logged). SeesMore before k) (sym same) more

-- a verdict at what is seen is an answer
pub answered : (told : List (Shown Logged)) (requests : List Request) (number : ℕ) (request : Request) (verdict : Verdict)
    (before after : Known Logged) → KnowsOneOf told before → slice_get requests number ≡ Some request → Looks before after
    → verdict ≡ verdict_at after.seen request → IsAnswer told requests number verdict
answered told requests number request verdict before after knows asked looks right = record {
  request = request;
  asked = asked;
  log = after.seen;
  begins = begins_further told before.told after.seen knows looks.told;
  right = right;
  named = ap (λ (v : Verdict). v.revision) right ∙ verdict_revision after.seen request;
}

module _ {X : Type 0} where
  pub all_one : (P : X → Type 0) (x : X) → P x → All P (x ∷ [])
  all_one P x p zero d lt = p
  all_one P x p (suc k) d lt = absurd (omega arith)

  pub all_rest : (P : X → Type 0) (x : X) (xs : List X) → All P (x ∷ xs) → All P xs
  all_rest P x xs h k d lt = h (suc k) d (omega arith)

-- one answer more
pub one_more : (told : List (Shown Logged)) (requests : List Request) (answers all : List (ℕ × Verdict)) (number : ℕ) (verdict : Verdict)
    → AreRight told requests answers → IsAnswer told requests number verdict → all ≡ answers ++ (number, verdict) ∷ []
    → AreRight told requests all
one_more told requests answers all number verdict right answer whole =
    subst (AreRight told requests) (sym whole)
    (All-append (λ (a : ℕ × Verdict). IsAnswer told requests a.0 a.1) answers ((number, verdict) ∷ []) right
    (all_one (λ (a : ℕ × Verdict). IsAnswer told requests a.0 a.1) (number, verdict) answer))

-- no answer yet
pub none_right : (told : List (Shown Logged)) (requests : List Request) (answers : List (ℕ × Verdict)) → answers ≡ []
    → AreRight told requests answers
none_right told requests answers none = subst (AreRight told requests) (sym none) (λ k d lt. absurd (omega arith))

-- the answers of one worker more
pub more_right : (told : List (Shown Logged)) (requests : List Request) (old more all : List (ℕ × Verdict))
    → AreRight told requests old → AreRight told requests more → all ≡ old ++ more → AreRight told requests all
more_right told requests old more all right others whole =
    subst (AreRight told requests) (sym whole)
    (All-append (λ (a : ℕ × Verdict). IsAnswer told requests a.0 a.1) old more right others)

-- the element at a seam
pub at_seam : {X : Type 0} (all xs : List X) (x : X) (ys : List X) → xs ++ x ∷ ys ≡ all → slice_get all (length xs) ≡ Some x
at_seam {X = X} all [] x ys e = ap (λ (l : List X). slice_get l 0) (sym e)
at_seam [] (z ∷ xs) x ys e = cc
at_seam (y ∷ all) (z ∷ xs) x ys e = at_seam all xs x ys (let t : xs ++ x ∷ ys ≡ all = cc in t)

pub within_seam : {X : Type 0} (all xs : List X) (x : X) (ys : List X) → xs ++ x ∷ ys ≡ all → length xs < length all
within_seam all xs x ys e = (let l = ap length e in omega (arith, length-append xs (x ∷ ys)))

-- answers in order
pub all_answered : (told : List (Shown Logged)) (requests : List Request) (count : ℕ) (pairs : List (ℕ × Verdict)) (vs : List Verdict)
    → count ≡ length requests → IsListOf count pairs vs → AreRight told requests pairs → AreAnswers told requests vs
all_answered told requests count pairs vs len is all = record {
  whole = is.whole ∙ len;
  each = λ n v at. came_of (λ (p : ℕ × Verdict). IsAnswer told requests p.0 p.1) n v pairs all (is.each n v at);
}
