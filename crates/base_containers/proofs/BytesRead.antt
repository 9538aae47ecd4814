-- What the reads of an input give.
use Rattle.std.proofs.Common.{◌≡◌, ◌≢◌, ℕ, ◌≤◌, List, length, Option, None, Some, arith, inl, inr, ◌∙◌, ap, refl}
use Rattle.base_containers.specs.Counted.{failures_of, inner_of, one_more}
use Rattle.base_containers.specs.Lines.{AllGive, Gives, IsCutOff, Pending, StopsReading, empty_reads, most_reads}
use Rattle.base_containers.specs.declared.counted.Counted.{Counted}
use Rattle.base_containers.specs.declared.lines.Ending.{Ending}
use Rattle.base_containers.specs.declared.lines.Ending.TheVariants.{Feed, End, TooLong}

-- reads after others, each of which gave a byte
pub given_more : (empty : ℕ) (a b c : Option (List ℕ)) (p q r : Pending) → AllGive 0 a b p q → AllGive empty b c q r → AllGive empty a c p r
given_more empty None b c p q r h k = tt
given_more empty (Some x) None c p q r h k = absurd h
given_more empty (Some x) (Some y) None p q r h k = absurd k
given_more empty (Some x) (Some y) (Some z) p q r h k = omega (arith, h, k)

-- each read of a line that is not the last gave a byte
pub given_line : (ending : Ending) (a b : Option (List ℕ)) (p q : Pending) → ending ≢ End → AllGive (empty_reads ending) a b p q
    → AllGive 0 a b p q
given_line Feed a b p q not h = h
given_line TooLong a b p q not h = h
given_line End a b p q not h = absurd (not refl)

-- the reads of one line more
pub given_next : (before ending : Ending) (a b c : Option (List ℕ)) (p q r : Pending) → before ≢ End
    → AllGive (empty_reads before) a b p q → AllGive (empty_reads ending) b c q r → AllGive (empty_reads ending) a c p r
given_next before ending a b c p q r not h k =
    given_more (empty_reads ending) a b c p q r (given_line before a b p q not h) k

-- if each read gave a byte and none is left, the input gave a byte for each
many_bytes : (a b : Option (List ℕ)) (p r : Pending) → p.reads ≡ most_reads → r.reads ≡ 0 → AllGive 0 a b p r → Gives most_reads a b
many_bytes None b p r all none h = tt
many_bytes (Some x) None p r all none h = absurd h
many_bytes (Some x) (Some y) p r all none h = omega (arith, all, none, h)

-- reading that stops after reads that all gave a byte
pub cut_off_behind : {R : Type 0} (remaining : R → Option (List ℕ)) (first input left : Counted R) (p q r : Pending)
    → AllGive 0 (remaining (inner_of first)) (remaining (inner_of input)) p q → failures_of input ≡ failures_of first
    → IsCutOff remaining input left q r → IsCutOff remaining first left p r
cut_off_behind remaining first input left p q r given none (inl failed) = inl (failed ∙ ap one_more none)
cut_off_behind remaining first input left p q r given none (inr spent) =
    inr (record {
      none = spent.none;
      counted = spent.counted ∙ none;
      given =
          given_more 0 (remaining (inner_of first)) (remaining (inner_of input)) (remaining (inner_of left)) p q r
          given spent.given;
    })

-- reading that stops, by a reader that had read nothing
pub stops_reading : {R : Type 0} (remaining : R → Option (List ℕ)) (first left : Counted R) (p r : Pending) → p.reads ≡ most_reads
    → IsCutOff remaining first left p r → StopsReading remaining first left
stops_reading remaining first left p r all (inl failed) = inl failed
stops_reading remaining first left p r all (inr spent) =
    inr (
      spent.counted,
      many_bytes (remaining (inner_of first)) (remaining (inner_of left)) p r all spent.none spent.given,
    )

-- reading that stops, by a reader that had read lines of which none was the last
pub stops_behind : {R : Type 0} (remaining : R → Option (List ℕ)) (ending : Ending) (first input left : Counted R) (p q r : Pending)
    → p.reads ≡ most_reads → AllGive (empty_reads ending) (remaining (inner_of first)) (remaining (inner_of input)) p q
    → failures_of input ≡ failures_of first → (ending ≢ End) × IsCutOff remaining input left q r → StopsReading remaining first left
stops_behind remaining ending first input left p q r all given none why =
    stops_reading remaining first left p r all
    (cut_off_behind remaining first input left p q r
    (given_line ending (remaining (inner_of first)) (remaining (inner_of input)) p q why.0 given) none why.1)
