-- The wrong macros of each node, and of one tree after another.
use Rattle.std.proofs.Common.{◌≡◌, ℕ, List, map, Option, Some, None, refl, sym, ap, ◌∙◌, arith}
use Rattle.std.specs.Prelude.{not, ◌&&◌}
use Rattle.cel_parse.specs.declared.tree.Tree.{Tree, roll-Tree, Call as call, Method as method}
use Rattle.cel_parse.specs.declared.tree.Tree.TheOpen.{Tree-F}
use Rattle.cel_parse.specs.declared.tree.Tree.TheVariants.{rolls-Call, rolls-Method}
use Rattle.cel_parse.specs.declared.tree.Tree.TheFolds.{map-Tree, fold-roll-Tree}
use Rattle.cel_parse.specs.Words.{is_has, word_at}
use Rattle.cel_parse.specs.Macros.{loop_of, Mark, lesser, wrong_if, suits_has, wrong_method, least, wrong_at, shape_at, mark, first_wrong}

abbrev mark_at : List ℕ → Tree-F Mark → Mark
mark_at source t = record { shape = shape_at t; wrong = wrong_at source t }

rolled : (source : List ℕ) (t : Tree-F Tree) → first_wrong source (roll-Tree t) ≡ wrong_at source (map-Tree Tree Mark (mark source) t)
rolled source t = ap (λ (m : Mark). m.wrong) (fold-roll-Tree Mark (mark_at source) t)

pub wrong-call : (source : List ℕ) (place : ℕ) (es : List Tree) → first_wrong source (call place es)
    ≡ lesser (wrong_if (is_has source place && not (suits_has (map (mark source) es))) place) (least (map (mark source) es))
wrong-call source place es = ap (first_wrong source) (sym (rolls-Call place es)) ∙ rolled source (Tree-F.Call place es)

pub wrong-method : (source : List ℕ) (place : ℕ) (a : Tree) (es : List Tree) → first_wrong source (method place a es) ≡ lesser
    (wrong_method (loop_of (word_at source place)) place (map (mark source) es))
    (lesser (first_wrong source a) (least (map (mark source) es)))
wrong-method source place a es = ap (first_wrong source) (sym (rolls-Method place a es)) ∙ rolled source (Tree-F.Method place a es)

pub lesser_assoc : (a b c : Option ℕ) → lesser (lesser a b) c ≡ lesser a (lesser b c)
lesser_assoc None b c = refl
lesser_assoc (Some a) None c = refl
lesser_assoc (Some a) (Some b) None = refl
lesser_assoc (Some a) (Some b) (Some c) = ap Some (omega arith)

pub lesser_none : (a : Option ℕ) → lesser a None ≡ a
lesser_none None = refl
lesser_none (Some a) = refl
