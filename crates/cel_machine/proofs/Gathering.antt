-- Map literals: keys and values off a stack, and what they make.
use Rattle.std.proofs.Common.{◌≡◌, ℕ, zero, suc, ◌+◌, ◌-◌, ◌<◌, List, [], ◌∷◌, Option, Some, None, Result, Ok, Err, IfOk, MatchOption}
use Rattle.std.proofs.Common.{refl, sym, ap, ◌∙◌, subst, arith}
use Rattle.std.specs.Option.{option_map}
use Rattle.base_containers.specs.declared.text.Keyed.{Keyed}
use Rattle.cel_value.specs.declared.value.Value.{Value}
use Rattle.cel_value.specs.declared.cel_error.CelError.{CelError}
use Rattle.cel_operators.specs.declared.operator.Made.{Made}
use Rattle.cel_operators.specs.Outcomes.{Outcome}
use Rattle.cel_operators.specs.Wants.{taken}
use Rattle.cel_operators.specs.declared.operands.Want.TheVariants.{Characters}
use Rattle.cel_operators.specs.Maps.{Entries, entry_in_front, entries_in, map_of, map_where_texts}
use Rattle.cel_code.specs.Machine.{Frame, Next, Stuck, taken_off, mapped, made}
use Rattle.cel_machine.specs.declared.step.Move.{Move}
use Rattle.cel_machine.specs.declared.position.Position.{Position}
use Rattle.cel_machine.specs.Follow.{metered, Comes, Finishes, LeadsTo}
use Rattle.cel_operators_applied.specs.Counted.{counted}
use Rattle.cel_operators_applied.specs.Pairs.{entry_of, entries_off, in_front, turned}

-- the entries of what was taken, and what is below
abbrev entries_of : Option (List Outcome × List Outcome) → Option (Entries × List Outcome)
entries_of None = None
entries_of (Some p) = option_map (λ es. (es, p.1)) (entries_in p.0)

twice : (n : ℕ) → suc n + suc n ≡ suc (suc (n + n))
twice n = omega arith

-- keys and values are taken off as entries
off : (n : ℕ) (so stack : List Outcome) → entries_of (taken_off (n + n) so stack) ≡ entries_off n (entries_in so) stack
off zero so stack = refl
off (suc n) so [] = ap (λ j. entries_of (taken_off j so [])) (twice n)
off (suc n) so (v ∷ []) = ap (λ j. entries_of (taken_off j so (v ∷ []))) (twice n)
off (suc n) so (v ∷ k ∷ stack) = ap (λ j. entries_of (taken_off j so (v ∷ k ∷ stack))) (twice n) ∙ off n (k ∷ v ∷ so) stack

-- what entries make, on what is below
abbrev mapped_of : Option (Entries × List Outcome) → ℕ → List Frame → Next
mapped_of None at frames = Stuck
mapped_of (Some p) at frames = made (counted (Some (map_of p.0))) at p.1 frames

where_texts : (es : Option Entries) (at : ℕ) (stack : List Outcome) (frames : List Frame)
    → metered (made (map_where_texts es) at stack frames) ≡ mapped_of (option_map (λ e. (e, stack)) es) at frames
where_texts None at stack frames = refl
where_texts (Some es) at stack frames = refl

mapped_by : (p : Option (List Outcome × List Outcome)) (at : ℕ) (frames : List Frame)
    → metered (mapped p at frames) ≡ mapped_of (entries_of p) at frames
mapped_by None at frames = refl
mapped_by (Some p) at frames = where_texts (entries_in p.0) at p.1 frames

-- the instruction, by the entries on the stack
pub mapped_off : (n at : ℕ) (stack : List Outcome) (o : Option (Entries × List Outcome)) (frames : List Frame)
    → entries_off n (Some (Ok [])) stack ≡ o → metered (mapped (taken_off (n + n) [] stack) at frames) ≡ mapped_of o at frames
mapped_off n at stack o frames e =
    mapped_by (taken_off (n + n) [] stack) at frames ∙ ap (λ q. mapped_of q at frames) (off n [] stack ∙ e)

-- what is answered when memory suffices, if it is known
pub answered : {E : Type 0} (r : Result (Option Made) E) (o : Option Made) (at : ℕ) (stack : List Outcome) (m : Move) (there : Position)
    (after : List Outcome)
    → IfOk r (λ p. p ≡ o) → Finishes r at stack m there after → Comes (made o at stack) m there after
answered (Ok p) o at stack m there after e h = subst (λ q. Comes (made q at stack) m there after) e h
answered (Err x) o at stack m there after e h = absurd h

-- if a key is no text, nothing is taken
front_none : (k : Option (Result (List ℕ) CelError)) (v : Outcome) → entry_in_front k v None ≡ None
front_none None v = refl
front_none (Some (Ok k)) v = refl
front_none (Some (Err e)) v = refl

none_off : (n : ℕ) (stack : List Outcome) → entries_off n None stack ≡ None
none_off zero stack = refl
none_off (suc n) [] = refl
none_off (suc n) (v ∷ []) = refl
none_off (suc n) (v ∷ k ∷ stack) = ap (λ es. entries_off n es stack) (front_none (taken Characters (Some k)) v) ∙ none_off n stack

-- an entry in front of those so far
pub fronted : (k : Option (Result (List ℕ) CelError)) (v : Outcome) (so : Entries) (e : Result (Keyed Value) CelError)
    → entry_of k v ≡ Some e → entry_in_front k v (Some so) ≡ Some (in_front e so)
fronted None v so e h = let no : ⊥ = cc in absurd no
fronted (Some (Err x)) v so e h =
    let same : Err x ≡ e = cc in
    ap (λ (f : Result (Keyed Value) CelError). Some (in_front f so)) same
fronted (Some (Ok k)) (Err x) so e h =
    let same : Err x ≡ e = cc in
    ap (λ (f : Result (Keyed Value) CelError). Some (in_front f so)) same
fronted (Some (Ok k)) (Ok v) (Err x) e h =
    let same : Ok (record { key = k; value = v }) ≡ e = cc in
    ap (λ (f : Result (Keyed Value) CelError). Some (in_front f (Err x))) same
fronted (Some (Ok k)) (Ok v) (Ok es) e h =
    let same : Ok (record { key = k; value = v }) ≡ e = cc in
    ap (λ (f : Result (Keyed Value) CelError). Some (in_front f (Ok es))) same

-- one taken off the stack, with its key
pub one_off : (n : ℕ) (so : Entries) (v k : Outcome) (stack below rest : List Outcome) (e : Result (Keyed Value) CelError) → 0 < n
    → stack ≡ v ∷ below → below ≡ k ∷ rest → entry_of (taken Characters (Some k)) v ≡ Some e
    → entries_off (n - 1) (Some (in_front e so)) rest ≡ entries_off n (Some so) stack
one_off zero so v k stack below rest e h a b t = absurd (omega (arith, h))
one_off (suc n) so v k stack below rest e h a b t =
    let one_less : suc n - 1 ≡ n = omega arith in
    ap (λ j. entries_off j (Some (in_front e so)) rest) one_less
    ∙ ap (λ o. entries_off n o rest) (sym (fronted (taken Characters (Some k)) v so e t))
    ∙ ap (λ s. entries_off (suc n) (Some so) (v ∷ s)) (sym b)
    ∙ ap (entries_off (suc n) (Some so)) (sym a)

-- no key
no_entry : (k : Option (Result (List ℕ) CelError)) (v : Outcome) (so : Entries)
    → entry_of k v ≡ None → entry_in_front k v (Some so) ≡ None
no_entry None v so h = refl
no_entry (Some (Err y)) v so h = let no : ⊥ = cc in absurd no
no_entry (Some (Ok k)) v so h = let no : ⊥ = cc in absurd no

-- if what is taken for a key is none, there are no entries
pub keyless : (n : ℕ) (so : Entries) (v k : Outcome) (stack below rest : List Outcome) → 0 < n
    → stack ≡ v ∷ below → below ≡ k ∷ rest → entry_of (taken Characters (Some k)) v ≡ None → entries_off n (Some so) stack ≡ None
keyless zero so v k stack below rest h a b t = absurd (omega (arith, h))
keyless (suc n) so v k stack below rest h a b t =
    ap (entries_off (suc n) (Some so)) a ∙ ap (λ s. entries_off (suc n) (Some so) (v ∷ s)) b
    ∙ ap (λ o. entries_off n o rest) (no_entry (taken Characters (Some k)) v so t) ∙ none_off n rest

-- what is left to take decides after one more, too
pub one_more_off : (n count : ℕ) (so all : Result (List (Keyed Value)) CelError) (v k seen : Outcome)
    (start stack below rest : List Outcome) (found : Option (Result (Keyed Value) CelError)) (e : Result (Keyed Value) CelError)
    → 0 < n → stack ≡ v ∷ below → below ≡ k ∷ rest → seen ≡ k
    → found ≡ entry_of (taken Characters (Some seen)) v → found ≡ Some e → turned all ≡ in_front e (turned so)
    → entries_off n (Some (turned so)) stack ≡ entries_off count (Some (Ok [])) start
    → entries_off (n - 1) (Some (turned all)) rest ≡ entries_off count (Some (Ok [])) start
one_more_off n count so all v k seen start stack below rest found e h a b s f g t i =
    ap (λ q. entries_off (n - 1) (Some q) rest) t
    ∙ one_off n (turned so) v k stack below rest e h a b (ap (λ q. entry_of (taken Characters (Some q)) v) (sym s) ∙ sym f ∙ g)
    ∙ i

-- if nothing was taken, the machine is stuck
pub none_mapped : (n at : ℕ) (stack below : List Outcome) (found : Option (Result (List (Keyed Value)) CelError)) (frames : List Frame)
    → found ≡ None
    → MatchOption found (entries_off n (Some (Ok [])) stack ≡ None) (λ es. entries_off n (Some (Ok [])) stack ≡ Some (turned es, below))
    → metered (mapped (taken_off (n + n) [] stack) at frames) ≡ Stuck
none_mapped n at stack below None frames h t = mapped_off n at stack None frames t
none_mapped n at stack below (Some es) frames h t = let no : ⊥ = cc in absurd no

-- what was taken makes a map
pub some_mapped : {E : Type 0} (n at : ℕ) (there : Position) (stack below after : List Outcome)
    (found : Option (Result (List (Keyed Value)) CelError))
    (es : Result (List (Keyed Value)) CelError) (r : Result (Option Made) E) (done : Result Move E) → found ≡ Some es
    → MatchOption found (entries_off n (Some (Ok [])) stack ≡ None) (λ es. entries_off n (Some (Ok [])) stack ≡ Some (turned es, below))
    → IfOk r (λ m. m ≡ counted (Some (map_of (turned es)))) → IfOk done (λ m. Finishes r at below m there after)
    → IfOk done (λ m. LeadsTo (mapped (taken_off (n + n) [] stack) at) m there after)
some_mapped n at there stack below after None es r done h t e d = let no : ⊥ = cc in absurd no
some_mapped n at there stack below after (Some fs) es r (Err x) h t e d = d
some_mapped n at there stack below after (Some fs) es r (Ok m) h t e d = λ frames.
    let same : fs ≡ es = cc in
    mapped_off n at stack (Some (turned es, below)) frames (t ∙ ap (λ q. Some (turned q, below)) same)
    ∙ answered r (counted (Some (map_of (turned es)))) at below m there after e d frames
