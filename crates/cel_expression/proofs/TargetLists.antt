-- Lists of targets, one after another, and what a layout's targets are.
use Rattle.std.proofs.Common.{◌≡◌, ℕ, ◌+◌, ◌≤◌, Bool, true, false, List, [], ◌∷◌, ◌++◌, ◌⊎◌, refl, sym, ◌∙◌, inl, inr, arith}
use Rattle.std.specs.Prelude.{if◌then◌else◌}
use Rattle.cel_value.specs.declared.cel_type.CelType.{CelType}
use Rattle.cel_code.specs.declared.image.Target.{Target}
use Rattle.cel_expression.specs.Compiled.{Layout, target, target_at_end, targets_from}
use Rattle.cel_expression.specs.Jumps.{IsTarget, Rises}

-- one list of targets after another
pub rises_from : (ts : List Target) (a b c : ℕ) → a ≤ b → Rises b ts c → Rises a ts c
rises_from [] a b c le h = omega (arith, h)
rises_from (t ∷ ts) a b c le h = (omega (arith, h.0), h.1)

pub rises_on : (ts us : List Target) (a b c : ℕ) → Rises a ts b → Rises b us c → Rises a (ts ++ us) c
rises_on [] us a b c h k = rises_from us a b c h k
rises_on (t ∷ ts) us a b c h k = (h.0, rises_on ts us (t.at + 1) b c h.1 k)

pub target_left : (ts us : List Target) (x : ℕ) → IsTarget ts x → IsTarget (ts ++ us) x
target_left [] us x h = absurd h
target_left (t ∷ ts) us x (inl h) = inl h
target_left (t ∷ ts) us x (inr h) = inr (target_left ts us x h)

pub target_right : (ts us : List Target) (x : ℕ) → IsTarget us x → IsTarget (ts ++ us) x
target_right [] us x h = h
target_right (t ∷ ts) us x h = inr (target_right ts us x h)

pub target_cases : (ts us : List Target) (x : ℕ) → IsTarget (ts ++ us) x → IsTarget ts x ⊎ IsTarget us x
target_cases [] us x h = inr h
target_cases (t ∷ ts) us x (inl h) = inl (inl h)
target_cases (t ∷ ts) us x (inr h) = elim (target_cases ts us x h) [ inl p ↦ inl (inr p) | inr q ↦ inr q ]

-- the target at an end, if it is one
end_rises : (b : Bool) (at to : ℕ) (types : List CelType) → at ≡ to → Rises to (if b then target at types ∷ [] else []) (to + 1)
end_rises true at to types e = (omega (arith, e), omega (arith, e))
end_rises false at to types e = omega arith

end_target : (b : Bool) (at x : ℕ) (types : List CelType) → b ≡ true → at ≡ x
    → IsTarget (if b then target at types ∷ [] else []) x
end_target true at x types h e = inl e
end_target false at x types h e = cc

pub end_is : (b : Bool) (at x : ℕ) (types : List CelType) → IsTarget (if b then target at types ∷ [] else []) x
    → (b ≡ true) × (at ≡ x)
end_is true at x types (inl e) = (refl, e)
end_is true at x types (inr e) = absurd e
end_is false at x types h = absurd h

pub all_rise : (l : Layout) (from at to : ℕ) (below : List CelType) → at + l.size ≡ to → Rises from (l.within at below) to
    → Rises from (targets_from l at below) (to + 1)
all_rise l from at to below e h =
    rises_on (l.within at below) (target_at_end l at below) from to (to + 1) h
    (end_rises l.joins (at + l.size) to (below ++ l.type ∷ []) e)

-- a place to which a jump goes is a target before the end, or the end if jumps go there
abbrev pub Goes : Layout → ℕ → ℕ → List CelType → ℕ → Type 0
Goes l at to below x = IsTarget (l.within at below) x ⊎ ((x ≡ to) × (l.joins ≡ true))

pub all_go : (l : Layout) (at to : ℕ) (below : List CelType) (x : ℕ) → at + l.size ≡ to → Goes l at to below x
    → IsTarget (targets_from l at below) x
all_go l at to below x e (inl h) = target_left (l.within at below) (target_at_end l at below) x h
all_go l at to below x e (inr h) =
    target_right (l.within at below) (target_at_end l at below) x
    (end_target l.joins (at + l.size) x (below ++ l.type ∷ []) h.1 (e ∙ sym h.0))
