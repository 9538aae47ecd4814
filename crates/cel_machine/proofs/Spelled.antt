-- A text whose program looks for a pattern spells an expression in which `matches` is given a literal text.
use Rattle.std.proofs.Common.{◌≡◌, Bool, cond, true, false, List, refl, sym, ap, ◌∙◌}
use Rattle.std.specs.Prelude.{Result, Ok, Err, nat_lt}
use Rattle.std.proofs.lemmas.Bool.{true≢false}
use Rattle.cel_value.specs.declared.cel_type.CelType.{CelType}
use Rattle.cel_parse.specs.declared.fault.ParseFault.{ParseFault}
use Rattle.cel_value.specs.declared.expr.Expr.{Expr}
use Rattle.cel_value.specs.Views.{capped}
use Rattle.cel_parse.specs.Parsed.{parsed}
use Rattle.cel_check.specs.declared.tree.TypedTree.{TypedTree}
use Rattle.cel_check.specs.Typing.{Names, Checked, checked_within}
use Rattle.cel_code.specs.declared.image.Image.{Image}
use Rattle.cel_expression.specs.Compiled.{IsCompiled}
use Rattle.cel_code.specs.Matches.{HasMatches}
use Rattle.cel_estimate.specs.Estimate.{estimate_of, budget}
use Rattle.cel_expression.specs.declared.refusal.Refusal.{Refusal}
use Rattle.cel_expression.specs.declared.refusal.Refusal.TheVariants as refusal
use Rattle.cel_expression.specs.Expressions.{Typed, names_in, told, typed_at, typed_of, accepted_of, within_budget}
use Rattle.cel_expression.specs.Patterns.{MayMatch}
use Rattle.cel_expression.specs.Source.{Source}
use Rattle.cel_machine.proofs.PlainCode.{matches_in_tree}
use Rattle.cel_machine.proofs.PlainTrees.{unmatched}

-- a tree that checking answered is the one that it found
told_tree : (c : Checked) (tree : TypedTree) → told c ≡ Ok tree → c ≡ Ok tree
told_tree (Err fault) tree h = absurd cc
told_tree (Ok t) tree h = let same : t ≡ tree = cc in ap Ok same

chosen_tree : (b : Bool) (why : Refusal) (t tree : TypedTree) (typed : Typed) → typed ≡ Ok t → cond b (Err why) typed ≡ Ok tree
    → typed ≡ Ok tree
chosen_tree true why t tree typed is h = absurd cc
chosen_tree false why t tree typed is h = h

-- a tree within the budget is the one that was typed
within_tree : (typed : Typed) (tree : TypedTree) → within_budget typed ≡ Ok tree → typed ≡ Ok tree
within_tree (Err why) tree h = h
within_tree (Ok t) tree h =
    chosen_tree (nat_lt budget (estimate_of t)) (refusal.OverBudget (capped (estimate_of t))) t tree (Ok t) refl h

-- the expression that a typed tree is of
record IsTyped (names : Names) (r : Result Expr ParseFault) (tree : TypedTree) : Type 0 where
  expression : Expr
  spelled : r ≡ Ok expression
  typed : checked_within expression names ≡ Ok tree

typed_from : (names : Names) (r : Result Expr ParseFault) (tree : TypedTree) → typed_at names r ≡ Ok tree → IsTyped names r tree
typed_from names (Err fault) tree h = absurd cc
typed_from names (Ok e) tree h = record { expression = e; spelled = refl; typed = told_tree (checked_within e names) tree h }

accepted_from : (s : Source) (tree : TypedTree) → accepted_of s ≡ Ok tree → IsTyped (names_in s) (parsed s.text) tree
unfolding accepted_of typed_of
accepted_from s tree is = typed_from (names_in s) (parsed s.text) tree (within_tree (typed_of s) tree is)

-- the text of an expression that may be run, if its image looks for a pattern
pub may_match : (s : Source) (tree : TypedTree) (image : Image) (types : List CelType) → accepted_of s ≡ Ok tree
    → IsCompiled image tree types → HasMatches image → MayMatch s
may_match s tree image types is compiled looks =
    let from = accepted_from s tree is in
    record {
      expression = from.expression;
      spelled = from.spelled;
      some = λ none.
          true≢false
          (sym (matches_in_tree image tree types compiled looks) ∙ unmatched from.expression (names_in s) tree from.typed none);
    }
