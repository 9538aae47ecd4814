-- Policies with what was bound of each before.
use Rattle.std.proofs.Common.{◌≡◌, ℕ, zero, suc, ◌<◌, ◌+◌, List, [], ◌∷◌, ◌++◌, length, get_or, take, drop, Option, Some, None}
use Rattle.std.proofs.Common.{append_assoc, refl, sym, ap, subst, ◌∙◌, arith}
use Rattle.std.specs.Prelude.{IfSome}
use Rattle.std.proofs.lemmas.List.{take_more}
use Rattle.base_containers.specs.declared.text.Keyed.{Keyed}
use Rattle.vap_read.specs.declared.binding.Binding.{Binding}
use Rattle.vap_read.specs.declared.policy.Policy.{Policy}
use Rattle.vap_read_objects.specs.declared.kind.Kind.{Kind}
use Rattle.vap_read_objects.specs.Listed.{bindings_of}
use Rattle.vap_policy_programs.proofs.Each.{next_is}
use Rattle.vap_policy_set.specs.Parts.{part_of}
use Rattle.vap_policy_set.specs.Sets.{bound_of, other_of, pairs_of}
use Rattle.vap_policy_set.specs.Still.{AreAt, AreBound, AreOldOf, IsOldOf}
use Rattle.vap_policy_set.specs.declared.bound.BoundPolicy.{BoundPolicy}
use Rattle.vap_policy_set.specs.declared.choice.Choice.{Choice}

-- what was bound among the last of all was bound among all
pub old_among : (rest all : List BoundPolicy) (p : Keyed Policy) (b : BoundPolicy)
    → ((choice : Choice) (kinds : List Kind) (bindings : List (Keyed Binding)) → AreBound choice kinds bindings all
    → AreBound choice kinds bindings rest) → IsOldOf rest p b → IsOldOf all p b
old_among rest all p b part old = record {
  says = old.says;
  bound = λ choice kinds bindings are. old.bound choice kinds bindings (part choice kinds bindings are);
}

pub old_more : (all : List BoundPolicy) (ps : List (Keyed Policy)) (os : List (Option BoundPolicy)) (p : Keyed Policy)
    (o : Option BoundPolicy) → AreOldOf all ps os → IfSome o (IsOldOf all p) → AreOldOf all (ps ++ p ∷ []) (os ++ o ∷ [])
old_more all [] [] p o olds old = (old, tt)
old_more all [] (x ∷ os) p o olds old = absurd olds
old_more all (q ∷ ps) [] p o olds old = absurd olds
old_more all (q ∷ ps) (x ∷ os) p o olds old = (olds.0, old_more all ps os p o olds.1 old)

pub old_length : (all : List BoundPolicy) (ps : List (Keyed Policy)) (os : List (Option BoundPolicy)) → AreOldOf all ps os
    → length ps ≡ length os
old_length all [] [] olds = refl
old_length all [] (x ∷ os) olds = absurd olds
old_length all (q ∷ ps) [] olds = absurd olds
old_length all (q ∷ ps) (x ∷ os) olds = ap suc (old_length all ps os olds.1)

pub old_at : (all : List BoundPolicy) (ps : List (Keyed Policy)) (os : List (Option BoundPolicy)) (i : ℕ) (p : Keyed Policy)
    (o : Option BoundPolicy) → AreOldOf all ps os → i < length ps → IfSome (get_or os i o) (IsOldOf all (get_or ps i p))
old_at all [] os i p o olds lt = absurd (none i lt)
  where
    none : (n : ℕ) → n < 0 → ⊥
    none n h = omega (arith, h)
old_at all (q ∷ ps) [] i p o olds lt = absurd olds
old_at all (q ∷ ps) (x ∷ os) zero p o olds lt = olds.0
old_at all (q ∷ ps) (x ∷ os) (suc i) p o olds lt = old_at all ps os i p o olds.1 (omega (arith, lt))

if_some : (all : List BoundPolicy) (p : Keyed Policy) (o : Option BoundPolicy) (choice : Choice) (kinds : List Kind)
    (bindings : List (Keyed Binding)) → AreBound choice kinds bindings all → IfSome o (IsOldOf all p)
    → IfSome o (λ b. b ≡ bound_of choice kinds bindings p)
if_some all p None choice kinds bindings are old = tt
if_some all p (Some b) choice kinds bindings are old = old.bound choice kinds bindings are

-- what was bound of a policy at its place, if all are bound as they would be now
pub old_stands : (all : List BoundPolicy) (ps : List (Keyed Policy)) (os : List (Option BoundPolicy)) (i : ℕ) (p : Keyed Policy)
    (o : Option BoundPolicy) (choice : Choice) (kinds : List Kind) (bindings : List (Keyed Binding)) → AreOldOf all ps os → i < length ps
    → p ≡ get_or ps i p → o ≡ get_or os i o → AreBound choice kinds bindings all → IfSome o (λ b. b ≡ bound_of choice kinds bindings p)
old_stands all ps os i p o choice kinds bindings olds lt is there are =
    if_some all p o choice kinds bindings are
    (subst (λ (x : Option BoundPolicy). IfSome x (IsOldOf all p)) (sym there)
    (subst (λ (q : Keyed Policy). IfSome (get_or os i o) (IsOldOf all q)) (sym is) (old_at all ps os i p o olds lt)))

-- a policy with these bindings of its own, as it is by a choice with these kinds
abbrev with_own : Choice → List Kind → Keyed Policy → List (Keyed Binding) → BoundPolicy
with_own choice kinds p own = record {
  name = p.key;
  policy = p.value;
  read = p.value;
  bindings = own;
  pairs = pairs_of (part_of choice p.value.spec) kinds p.value.spec;
  other = other_of (part_of choice p.value.spec) kinds p.value.spec;
}

-- what is bound to some bindings is bound to others of which it has the same
pub same_bindings : (choice : Choice) (kinds : List Kind) (some others : List (Keyed Binding)) (p : Keyed Policy) (b : BoundPolicy)
    → b ≡ bound_of choice kinds some p → b.bindings ≡ bindings_of p.key others → b ≡ bound_of choice kinds others p
same_bindings choice kinds some others p b is same =
    is ∙ ap (with_own choice kinds p) (sym (ap (λ (x : BoundPolicy). x.bindings) is) ∙ same)

same_if_some : (o : Option BoundPolicy) (choice : Choice) (kinds : List Kind) (some others : List (Keyed Binding)) (p : Keyed Policy)
    → IfSome o (λ b. b ≡ bound_of choice kinds some p)
    → IfSome o (λ b. b.bindings ≡ bindings_of p.key others → b ≡ bound_of choice kinds others p)
same_if_some None choice kinds some others p old = tt
same_if_some (Some b) choice kinds some others p old = λ same. same_bindings choice kinds some others p b old same

-- what was bound of a policy at its place, if all are bound as they would be but for their bindings
pub old_stands_at : (all : List BoundPolicy) (ps : List (Keyed Policy)) (os : List (Option BoundPolicy)) (i : ℕ) (p : Keyed Policy)
    (o : Option BoundPolicy) (choice : Choice) (kinds : List Kind) (bindings : List (Keyed Binding)) → AreOldOf all ps os → i < length ps
    → p ≡ get_or ps i p → o ≡ get_or os i o → AreAt choice kinds all
    → IfSome o (λ b. b.bindings ≡ bindings_of p.key bindings → b ≡ bound_of choice kinds bindings p)
old_stands_at all ps os i p o choice kinds bindings olds lt is there at =
    same_if_some o choice kinds at.bindings bindings p
    (old_stands all ps os i p o choice kinds at.bindings olds lt is there at.bound)

-- ---- one policy more

pub old_some : (rest all : List BoundPolicy) (p : Keyed Policy) (o : Option BoundPolicy)
    → ((choice : Choice) (kinds : List Kind) (bindings : List (Keyed Binding)) → AreBound choice kinds bindings all
    → AreBound choice kinds bindings rest) → IfSome o (IsOldOf rest p) → IfSome o (IsOldOf all p)
old_some rest all p None part old = tt
old_some rest all p (Some b) part old = old_among rest all p b part old

pub old_next : (all : List BoundPolicy) (ps : List (Keyed Policy)) (i : ℕ) (p : Keyed Policy) (os new : List (Option BoundPolicy))
    (o : Option BoundPolicy) → i < length ps → p ≡ get_or ps i p → new ≡ os ++ o ∷ [] → AreOldOf all (take i ps) os
    → IfSome o (IsOldOf all p) → AreOldOf all (take (i + 1) ps) new
old_next all ps i p os new o lt is put olds old =
    subst (λ (qs : List (Keyed Policy)). AreOldOf all qs new) (ap (λ q. take i ps ++ q ∷ []) is ∙ sym (take_more ps i p lt))
    (subst (λ (xs : List (Option BoundPolicy)). AreOldOf all (take i ps ++ p ∷ []) xs) (sym put) (old_more all (take i ps) os p o olds old))

pub whole_next : (ps done new : List (Keyed Policy)) (i : ℕ) (p q : Keyed Policy) → new ≡ done ++ q ∷ [] → q ≡ p → i < length ps
    → p ≡ get_or ps i p → done ++ drop i ps ≡ ps → new ++ drop (i + 1) ps ≡ ps
whole_next ps done new i p q put same lt is whole =
    ap (λ xs. xs ++ drop (i + 1) ps) put
    ∙ append_assoc done (q ∷ []) (drop (i + 1) ps)
    ∙ ap (λ x. done ++ x ∷ drop (i + 1) ps) same
    ∙ ap (λ xs. done ++ xs) (sym (next_is ps i p lt is))
    ∙ whole
