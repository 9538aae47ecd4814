-- Rows of verdicts, worked by computing.
use Rattle.std.proofs.Common.{◌≡◌, true, [], ◌∷◌, codes, refl}
use Rattle.std.specs.Fmt.Cut.{floor_char_boundary}
use Rattle.vap_policy_verdict.specs.DecisionAnnotations.{joined, values_at}
use Rattle.vap_policy_verdict.specs.Cut.{cut_text}
use Rattle.vap_policy_verdict.specs.Verdicts.{decision_of}

-- if nothing is found, the request is allowed
nothing_found : decision_of [] ≡ record { allowed = true; code = 200; reason = []; message = [] }
nothing_found = refl

-- `aé` has three bytes, and is cut before its second character
cut_before : cut_text 2 (97 ∷ 195 ∷ 169 ∷ []) ≡ 97 ∷ []
unfolding cut_text floor_char_boundary
cut_before = refl

cut_behind : cut_text 3 (97 ∷ 195 ∷ 169 ∷ 98 ∷ []) ≡ 97 ∷ 195 ∷ 169 ∷ []
unfolding cut_text floor_char_boundary
cut_behind = refl

not_cut : cut_text 3 (97 ∷ 195 ∷ 169 ∷ []) ≡ 97 ∷ 195 ∷ 169 ∷ []
unfolding cut_text
not_cut = refl

-- a value that comes again is joined once, and one of another key is left out
each_once :
    joined (values_at (codes "k") (
    record { key = codes "k"; value = codes "b" }
    ∷ record { key = codes "m"; value = codes "c" }
    ∷ record { key = codes "k"; value = codes "a" }
    ∷ record { key = codes "k"; value = codes "b" }
    ∷ []))
    ≡ codes "b, a"
each_once = refl
