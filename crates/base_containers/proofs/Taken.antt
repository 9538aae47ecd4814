-- What a line takes from the bytes that are unread.
use Rattle.std.proofs.Common.{◌≡◌, ◌≢◌, ℕ, ◌+◌, ◌-◌, ◌≤◌, All, List, [], ◌∷◌, ◌++◌, length, append-nil, take, drop}
use Rattle.std.proofs.Common.{Option, None, Some, slice_range}
use Rattle.std.proofs.Common.{sym, ap, ◌∙◌, arith, append_assoc, drop-drop, length-take}
use Rattle.std.proofs.lemmas.List.{drop-take}
use Rattle.std.proofs.lemmas.List.Elements.{All-append}
use Rattle.std.specs.Io.KnownBytes.{Consumes, prepend_known}
use Rattle.base_containers.specs.Handing.{Hands}
use Rattle.base_containers.specs.Lines.{Begins, IsLine}
use Rattle.base_containers.specs.declared.lines.Ending.{Ending}
use Rattle.base_containers.specs.declared.lines.Ending.TheVariants.{Feed, End, TooLong}

-- the first of what is left is taken too
pub taken_more : (a r : Option (List ℕ)) (l m n : List ℕ) → Consumes a (prepend_known (m ++ n) r) l
    → Consumes a (prepend_known n r) (l ++ m)
taken_more None r l m n h = tt
taken_more (Some xs) None l m n h = absurd h
taken_more (Some xs) (Some ys) l m n h = h ∙ rw (append_assoc, append_assoc)

-- known bytes begin with the first of their first
begins : (r : Option (List ℕ)) (m n : List ℕ) → Begins (prepend_known (m ++ n) r) m
begins None m n = tt
begins (Some ys) m n = (n ++ ys, append_assoc m n ys)

-- what a line is if it has ended so, or goes on
abbrev pub IsHanded : Option Ending → Option (List ℕ) → Option (List ℕ) → List ℕ → Type 0
IsHanded None old new line = Consumes old new line
IsHanded (Some ending) old new line = IsLine old new line ending

-- what is handed on is taken
pub handed : (ending : Option Ending) (a r : Option (List ℕ)) (old new before line : List ℕ)
    → Consumes a (prepend_known old r) before → Hands ending old new before line → IsHanded ending a (prepend_known new r) line
handed None a r old new before line taken (takes, none) =
    rw (takes.grown, none) (taken_more a r before old [] (rw append-nil taken))
handed (Some Feed) a r old new before line taken (part, takes, split) =
    rw (takes.grown, append_assoc) (taken_more a r before (part ++ 10 ∷ []) new (rw append_assoc (rw split at taken)))
handed (Some End) a r old new before line taken none = absurd none
handed (Some TooLong) a r old new before line taken (same, kept, over) = (
  rw (same, kept) taken,
  record {
    more = over.more;
    ahead = rw (kept, over.split) (begins r over.more over.rest);
    plain = over.plain;
    long = over.long;
  },
)

-- a line stays without line feeds
pub handed_plain : (ending : Option Ending) (old new before line : List ℕ) → All (λ x. x ≢ 10) before
    → Hands ending old new before line → All (λ x. x ≢ 10) line
handed_plain None old new before line plain (takes, none) = rw takes.grown (All-append (λ x. x ≢ 10) before old plain takes.plain)
handed_plain (Some Feed) old new before line plain (part, takes, split) =
    rw takes.grown (All-append (λ x. x ≢ 10) before part plain takes.plain)
handed_plain (Some End) old new before line plain none = absurd none
handed_plain (Some TooLong) old new before line plain (same, kept, over) = rw same plain

-- a part of a list with its first n elements gone
pub slice_range-later : (c : List ℕ) (a n e : ℕ) → n ≤ length (slice_range c a e)
    → slice_range c (a + n) e ≡ drop n (slice_range c a e)
slice_range-later c a n e h =
    let most : length (take (e - a) (drop a c)) ≤ e - a = omega (arith, length-take {A = ℕ}) in
    let k : e - a ≡ n + (e - (a + n)) = omega arith in
    rw k (sym (drop-take n (e - (a + n)) (drop a c) ∙ ap (take (e - (a + n))) (drop-drop n a c)))
