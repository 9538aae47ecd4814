-- What was taken of known bytes.
use Rattle.std.proofs.Common.{◌≡◌, ℕ, List, [], ◌++◌, length, take, drop, Option, None, Some, ap, ◌∙◌}
use lib.Seq.{take-append_seam}
use Rattle.std.specs.Io.KnownBytes.{Consumes}
use Rattle.std.proofs.KnownBytes.{Consumes-nil, Consumes-trans}

-- nothing was taken yet
pub taken_none : (a : Option (List ℕ)) (bs : List ℕ) → bs ≡ [] → Consumes a a bs
taken_none a bs e = rw e (Consumes-nil a)

-- more was taken
pub taken_more : (a b c : Option (List ℕ)) (bs cs all : List ℕ) → Consumes a b bs → Consumes b c cs → all ≡ bs ++ cs → Consumes a c all
taken_more a b c bs cs all p q e = rw e (Consumes-trans a b c bs cs p q)

-- no more was taken
pub taken_no_more : (a b c : Option (List ℕ)) (bs : List ℕ) → Consumes a b bs → Consumes b c [] → Consumes a c bs
taken_no_more None b c bs p q = tt
taken_no_more (Some x) None c bs p q = absurd p
taken_no_more (Some x) (Some y) None bs p q = absurd q
taken_no_more (Some x) (Some y) (Some z) bs p q = p ∙ ap (λ l. bs ++ l) q

-- a buffer that was written whole
pub whole_buffer : (written before : List ℕ) (n : ℕ) → n ≡ length written → take n (written ++ drop (length written) before) ≡ written
whole_buffer written before n e = rw e (take-append_seam written (drop (length written) before))
