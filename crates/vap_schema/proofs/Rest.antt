-- What was read so far is before what is read of the rest.
use Rattle.std.proofs.Common.{◌≡◌, List, [], ◌∷◌, ◌++◌, append_assoc, append-nil, Result, Ok, Err, refl, ap, sym, ◌∙◌}
use Rattle.base_containers.specs.Failures.{Answers}
use Rattle.base_containers.specs.declared.failed.Failed.{Failed}
use Rattle.base_containers.specs.declared.failed.Failed.TheVariants.{Fault, OutOfMemory}
use Rattle.vap_schema.specs.Seen.{◌>>=◌}
use Rattle.vap_schema.specs.declared.fit_fault.FitFault.{FitFault}

-- what is read of the rest, after what was read so far
unfoldable pub behind : {X E : Type 0} → List X → Result (List X) E → Result (List X) E
behind done (Ok more) = Ok (done ++ more)
behind done (Err e) = Err e

pub behind-none : {X E : Type 0} (r : Result (List X) E) → behind [] r ≡ r
unfolding behind
behind-none (Ok more) = refl
behind-none (Err e) = refl

pub behind-all : {X E : Type 0} (done : List X) (r : Result (List X) E) → r ≡ Ok [] → behind done r ≡ Ok done
unfolding behind
behind-all done r h = rw h (ap Ok (append-nil done))

pub behind-append : {X E : Type 0} (done new : List X) (r : Result (List X) E)
    → behind (done ++ new) r ≡ behind done (r >>= (λ more. Ok (new ++ more)))
unfolding behind
behind-append done new (Ok more) = ap Ok (append_assoc done new more)
behind-append done new (Err e) = refl

pub behind-push : {X E : Type 0} (done : List X) (x : X) (r : Result (List X) E)
    → behind done (r >>= (λ more. Ok (x ∷ more))) ≡ behind (done ++ x ∷ []) r
behind-push done x r = sym (behind-append done (x ∷ []) r)

-- a fault after what was read so far is the whole's
pub stops_behind : {A X : Type 0} (done : List X) (part : Result A FitFault) (next : A → Result (List X) FitFault)
    (whole : Result (List X) FitFault) (e : Failed FitFault)
    → whole ≡ behind done (part >>= next) → Answers part (Err e) → Answers whole (Err e)
unfolding behind
stops_behind done part next whole (Fault f) h a = h ∙ ap (λ r. behind done (r >>= next)) a
stops_behind done part next whole OutOfMemory h a = tt
