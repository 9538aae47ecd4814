-- What is found at the objects that are kept of a kind is what judging is defined by.
use Rattle.std.proofs.Common.{◌≡◌, ◌<◌, ◌+◌, ℕ, Bool, true, false, cond, ◌||◌, List, [], ◌∷◌, length, filter, map, drop, get_or}
use Rattle.std.proofs.Common.{Result, Ok, Err, Some, refl, sym, ap, ◌∙◌, subst, rules, tests}
use Rattle.std.proofs.lemmas.List.Elements.{All-get_or}
use Rattle.std.specs.Prelude.{IfOk}
use Rattle.std.specs.List.{All, list_any}
use Rattle.cel_operators.specs.Outcomes.{slots_fit}
use Rattle.cel_value.specs.CelType.{fits}
use Rattle.cel_value.specs.declared.cel_type.CelType as type
use Rattle.cel_value.specs.declared.cel_type.CelType.{CelType}
use Rattle.cel_value.specs.declared.value.Value as value
use Rattle.cel_value.specs.declared.value.Value.{Value}
use Rattle.vap_read.specs.declared.binding.NotFoundAction.{NotFoundAction}
use Rattle.vap_schema.specs.declared.fit_fault.FitFault.{FitFault}
use Rattle.vap_policy_programs.specs.declared.programs.Programs.{Programs}
use Rattle.vap_read.specs.declared.object.Object.{Object}
use Rattle.vap_read_objects.specs.Fitted.{Fitted}
use Rattle.vap_read_objects.specs.Seen.{IsSeenAt, Param}
use Rattle.vap_policy_programs.specs.Held.{slots_of}
use Rattle.vap_policy.specs.Evaluations.{Evaluation, Rule}
use Rattle.vap_policy.specs.Judging.{Case, at_each, at_none, at_param, at_seen}
use Rattle.vap_policy.specs.Ready.{CanRun}
use Rattle.vap_policy_evaluation.proofs.Steps.{next_is}

-- ---- one object after the other

-- one that is a param is judged as what it is seen as
seen_is : (c : Case) (w : Rule) (ps : Programs) (t : CelType) (x : Param) → IsSeenAt t x
    → at_seen c w ps x.outcome ≡ at_param c w ps t x.object
unfolding at_param
seen_is c w ps t x is = ap (at_seen c w ps) is.exact

-- what is kept at a place
pub seen_at : (t : CelType) (xs : List Param) (i : ℕ) (x : Param) → i < length xs → x ≡ get_or xs i x → All (IsSeenAt t) xs
    → IsSeenAt t x
seen_at t xs i x lt is all = subst (IsSeenAt t) (sym is) (All-get_or (IsSeenAt t) xs i x lt all)

-- the evaluation at one that is a param, before the rest
pub next_param : (c : Case) (w : Rule) (ps : Programs) (t : CelType) (p : Object → Bool) (xs : List Param) (i : ℕ) (x : Param)
    → i < length xs → x ≡ get_or xs i x → All (IsSeenAt t) xs → p x.object ≡ true
    → at_seen c w ps x.outcome ∷ map (at_param c w ps t) (filter p (map (λ y. y.object) (drop (i + 1) xs)))
    ≡ map (at_param c w ps t) (filter p (map (λ y. y.object) (drop i xs)))
next_param c w ps t p xs i x lt is all one =
    let rest : List Object = map (λ y. y.object) (drop (i + 1) xs) in
    ap (λ (e : Evaluation). e ∷ map (at_param c w ps t) (filter p rest)) (seen_is c w ps t x (seen_at t xs i x lt is all))
    ∙ at (p x.object) one rest
    ∙ ap (λ (l : List Param). map (at_param c w ps t) (filter p (map (λ y. y.object) l))) (sym (next_is xs i x lt is))
  where
    at : (b : Bool) → b ≡ true → (rest : List Object) → at_param c w ps t x.object ∷ map (at_param c w ps t) (filter p rest)
        ≡ map (at_param c w ps t) (cond b (x.object ∷ filter p rest) (filter p rest))
    at true e rest = refl
    at false e rest = absurd cc

-- one that is not a param is passed over
pub other_param : (c : Case) (w : Rule) (ps : Programs) (t : CelType) (p : Object → Bool) (xs : List Param) (i : ℕ) (x : Param)
    → i < length xs → x ≡ get_or xs i x → p x.object ≡ false
    → map (at_param c w ps t) (filter p (map (λ y. y.object) (drop (i + 1) xs)))
    ≡ map (at_param c w ps t) (filter p (map (λ y. y.object) (drop i xs)))
other_param c w ps t p xs i x lt is none =
    let rest : List Object = map (λ y. y.object) (drop (i + 1) xs) in
    at (p x.object) none rest
    ∙ ap (λ (l : List Param). map (at_param c w ps t) (filter p (map (λ y. y.object) l))) (sym (next_is xs i x lt is))
  where
    at : (b : Bool) → b ≡ false → (rest : List Object) → map (at_param c w ps t) (filter p rest)
        ≡ map (at_param c w ps t) (cond b (x.object ∷ filter p rest) (filter p rest))
    at true e rest = absurd cc
    at false e rest = refl

nullable_fits : (t : CelType) (v : Value) → fits v t ≡ true → fits v (type.Nullable t) ≡ true
nullable_fits t v h = search (rules, tests, type.the_lemmas, value.the_lemmas)

-- what fits the type of the kind can be run
pub can_run_at : (c : Case) (q : Fitted) (types : List CelType) (ps : Programs) (x : Param) → CanRun c (Some q) types ps
    → IsSeenAt q.cel_type x → IfOk x.outcome (λ v. slots_fit types (slots_of c.held v) ≡ true)
can_run_at c q types ps x can is = at x.outcome is.right
  where
    at : (r : Result Value FitFault) → IfOk r (λ v. fits v q.cel_type ≡ true) → IfOk r (λ v. slots_fit types (slots_of c.held v) ≡ true)
    at (Ok v) fit = can.fit v (nullable_fits q.cel_type v fit)
    at (Err fault) fit = tt

-- ---- whether there is one

pub there_are : (c : Case) (w : Rule) (ps : Programs) (t : CelType) (a : NotFoundAction) (p : Object → Bool) (os : List Object)
    → list_any p os ≡ true → at_each c w ps t a (filter p os) ≡ map (at_param c w ps t) (filter p os)
there_are c w ps t a p [] h = absurd cc
there_are c w ps t a p (o ∷ os) h = at (p o) (there_are c w ps t a p os) h
  where
    at : (b : Bool) → (list_any p os ≡ true → at_each c w ps t a (filter p os) ≡ map (at_param c w ps t) (filter p os))
        → (b || list_any p os) ≡ true
        → at_each c w ps t a (cond b (o ∷ filter p os) (filter p os)) ≡ map (at_param c w ps t) (cond b (o ∷ filter p os) (filter p os))
    at true rest h = refl
    at false rest h = rest h

pub there_are_none : (c : Case) (w : Rule) (ps : Programs) (t : CelType) (a : NotFoundAction) (p : Object → Bool) (os : List Object)
    → list_any p os ≡ false → at_each c w ps t a (filter p os) ≡ at_none w a
there_are_none c w ps t a p [] h = refl
there_are_none c w ps t a p (o ∷ os) h = at (p o) (there_are_none c w ps t a p os) h
  where
    at : (b : Bool) → (list_any p os ≡ false → at_each c w ps t a (filter p os) ≡ at_none w a) → (b || list_any p os) ≡ false
        → at_each c w ps t a (cond b (o ∷ filter p os) (filter p os)) ≡ at_none w a
    at true rest h = absurd cc
    at false rest h = rest h
