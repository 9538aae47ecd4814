-- The expression of each node whose parts are a list.
use Rattle.std.proofs.Common.{◌≡◌, ℕ, List, ◌++◌, Result, Ok, sym, ap, subst, ◌∙◌}
use Rattle.cel_value.specs.declared.expr.Expr.{Expr}
use Rattle.cel_value.specs.declared.expr.Entry.{Entry}
use Rattle.cel_value.specs.declared.expr.Syntax.TheVariants as syntax
use Rattle.cel_parse.specs.declared.fault.ParseFault.{ParseFault}
use Rattle.base_containers.specs.declared.failed.Failed.{Failed}
use Rattle.cel_parse.specs.declared.tree.Tree.{Tree, roll-Tree, Call as call, Method as method, List as list, Map as map_tree}
use Rattle.cel_parse.specs.declared.tree.Tree.TheOpen.{Tree-F}
use Rattle.cel_parse.specs.declared.tree.Tree.TheVariants.{rolls-Call, rolls-Method, rolls-List, rolls-Map}
use Rattle.cel_parse.specs.declared.tree.Tree.TheFolds.{map-Tree, fold-roll-Tree}
use Rattle.cel_parse.specs.Views.{same, Gives}
use Rattle.cel_parse.specs.Descent.{◌>>=◌}
use Rattle.cel_parse.specs.Expansion.{expr, Expanded, Expansion, each, each_entry, call_of, method_of}
use Rattle.cel_parse.specs.Expansion.{expanded_at, role_at, expansion, expansions, entry_expansions, expanded}

-- after the expressions that are there already
abbrev pub with_done : {A : Type 0} → List A → Result (List A) ParseFault → Result (List A) ParseFault
with_done front r = r >>= λ es. Ok (front ++ es)

-- one level
abbrev level : List ℕ → Tree-F Expansion → Expansion
level source t = record { role = role_at t; own = expanded_at source t }

rolled : (source : List ℕ) (t : Tree-F Tree)
    → expanded source (roll-Tree t) ≡ expanded_at source (map-Tree Tree Expansion (expansion source) t)
rolled source t = ap (λ (x : Expansion). x.own) (fold-roll-Tree Expansion (level source) t)

gives_by : (r : Result Expr (Failed ParseFault)) (a b : Expanded) → a ≡ b → Gives same r b → Gives same r a
gives_by r a b e g = subst (λ o. Gives same r o) (sym e) g

-- the list that the code reads is the tree's
module _ (source : List ℕ) (place : ℕ) (tree : Tree) (es xs : List Tree) (read : xs ≡ es) where
  pub call_gives : (r : Result Expr (Failed ParseFault)) → tree ≡ call place es → Gives same r (call_of source place (expansions source xs))
      → Gives same r (expanded source tree)
  call_gives r e g =
      gives_by r (expanded source tree) (call_of source place (expansions source xs))
      (ap (expanded source) (e ∙ sym (rolls-Call place es)) ∙ rolled source (Tree-F.Call place es) ∙ ap
      (λ ys. call_of source place (expansions source ys)) (sym read)) g

  pub method_gives : (r : Result Expr (Failed ParseFault)) (a b : Tree) (x : Expr) → tree ≡ method place a es → b ≡ a
      → expanded source b ≡ Ok x → Gives same r (method_of source place (Ok x) (expansions source xs))
      → Gives same r (expanded source tree)
  method_gives r a b x e q h g =
      gives_by r (expanded source tree) (method_of source place (Ok x) (expansions source xs))
      (ap (expanded source) (e ∙ sym (rolls-Method place a es)) ∙ rolled source (Tree-F.Method place a es)
      ∙ ap (λ (o : Expanded). method_of source place o (expansions source es)) (ap (expanded source) (sym q) ∙ h)
      ∙ ap (λ ys. method_of source place (Ok x) (expansions source ys)) (sym read)) g

  abbrev as_list : List Expr → Expanded
  as_list ys = Ok (expr place (syntax.List ys))

  pub list_gives : (r : Result Expr (Failed ParseFault)) → tree ≡ list place es → Gives same r (each (expansions source xs) >>= as_list)
      → Gives same r (expanded source tree)
  list_gives r e g =
      gives_by r (expanded source tree) (each (expansions source xs) >>= as_list)
      (ap (expanded source) (e ∙ sym (rolls-List place es)) ∙ rolled source (Tree-F.List place es) ∙ ap
      (λ ys. each (expansions source ys) >>= as_list) (sym read)) g

-- the entries that the code reads are the tree's
module _ (source : List ℕ) (place : ℕ) (tree : Tree) (es xs : List (Entry Tree)) (read : xs ≡ es) where
  abbrev as_map : List (Entry Expr) → Expanded
  as_map ys = Ok (expr place (syntax.Map ys))

  pub map_gives : (r : Result Expr (Failed ParseFault)) → tree ≡ map_tree place es
      → Gives same r (each_entry (entry_expansions source xs) >>= as_map) → Gives same r (expanded source tree)
  map_gives r e g =
      gives_by r (expanded source tree) (each_entry (entry_expansions source xs) >>= as_map)
      (ap (expanded source) (e ∙ sym (rolls-Map place es)) ∙ rolled source (Tree-F.Map place es) ∙ ap
      (λ ys. each_entry (entry_expansions source ys) >>= as_map) (sym read)) g
