-- What the function of a text answers is what the grammar's relations say.
use Rattle.std.proofs.Common.{◌≡◌, ◌≤◌, ℕ, List, Option, Some, None, Result, Ok, Err, refl, sym, ap, subst, ◌∙◌}
use Rattle.std.specs.Prelude.{IfOk, IfErr, IsErrOf, IsErrAnd, MatchResult}
use Rattle.cel_lex.specs.declared.token.Token.{Token}
use Rattle.cel_lex.specs.declared.fault.LexFault.{LexFault}
use Rattle.cel_lex.specs.Lexis.{IsCut, Refuses}
use Rattle.cel_lex.specs.Answer.{Answer, answer_of}
use Rattle.cel_lex.proofs.Answering.{answer_cut, answer_fault, is_the_cut, is_the_fault}
use Rattle.cel_parse.specs.declared.fault.ParseFault.{ParseFault}
use Rattle.cel_parse.specs.declared.fault.ParseFault.TheVariants.{Lex, BadMacro}
use Rattle.base_containers.specs.declared.failed.Failed.{Failed}
use Rattle.base_containers.specs.declared.failed.Failed.TheVariants as failed
use Rattle.base_containers.specs.Failures.{Widens}
use Rattle.cel_parse.specs.declared.tree.Tree.{Tree}
use Rattle.cel_parse.specs.Descent.{◌>>=◌, all_of}
use Rattle.cel_parse.specs.Trees.{IsTree}
use Rattle.cel_parse.specs.Views.{same, Fails, Gives}
use Rattle.cel_parse.proofs.Answered.{answered_tree, answered_fault}
use Rattle.cel_value.specs.declared.expr.Expr.{Expr}
use Rattle.cel_parse.specs.Macros.{first_wrong}
use Rattle.cel_parse.specs.Expansion.{Expanded, expanded}
use Rattle.cel_parse.specs.Parsed.{lexed, unless_wrong, parsed_tree, parsed}
use Rattle.cel_parse.specs.Parsing.{IsAsDeep, IsParsed, IsRefused, no_cut, no_tree, bad_macro, no_expression}
use Rattle.cel_parse.specs.Total.{IsAnswered, is_parsed, is_refused}
use Rattle.cel_parse.proofs.FewTokens.{few_tokens}
use Rattle.cel_value.specs.Sizes.{depth_of, nodes_of}
use Rattle.cel_parse.proofs.OneExpression.{same_expression, not_both, parsed_depth, parsed_shallow, parsed_small}

-- a text spells this expression, or is refused for this fault
data Tells (text : List ℕ) : Expanded → Type 0 where
  spells : {e : Expr} → IsParsed text e → Tells text (Ok e)
  refuses : {f : ParseFault} → IsRefused text f → Tells text (Err f)

by_expansion : (text : List ℕ) (ts : List Token) (tree : Tree) (r : Expanded) → IsCut text ts → IsTree text ts tree
    → first_wrong text tree ≡ None → expanded text tree ≡ r → Tells text r
by_expansion text ts tree (Ok e) c t m h = spells (record { tokens = ts; cut = c; tree = tree; is_tree = t; macros = m; expanded = h })
by_expansion text ts tree (Err f) c t m h = refuses (no_expression c t m h)

by_macros : (text : List ℕ) (ts : List Token) (tree : Tree) (o : Option ℕ) → IsCut text ts → IsTree text ts tree
    → first_wrong text tree ≡ o → Tells text (unless_wrong o (expanded text tree))
by_macros text ts tree None c t h = by_expansion text ts tree (expanded text tree) c t h refl
by_macros text ts tree (Some place) c t h = refuses (bad_macro c t h)

by_tree : (text : List ℕ) (ts : List Token) (r : Result Tree ParseFault) → IsCut text ts → all_of text ts ≡ r
    → Tells text (r >>= parsed_tree text)
by_tree text ts (Ok tree) c h = by_macros text ts tree (first_wrong text tree) c (answered_tree text ts (few_tokens c) (Ok tree) h) refl
by_tree text ts (Err f) c h = refuses (no_tree c (answered_fault text ts (few_tokens c) (Err (failed.Fault f)) h f refl))

by_cut : (text : List ℕ) (a : Answer) → answer_of text ≡ a → Tells text (lexed a >>= λ ts. all_of text ts >>= parsed_tree text)
by_cut text (Ok ts) h = by_tree text ts (all_of text ts) (is_the_cut text ts h) refl
by_cut text (Err f) h = refuses (no_cut (is_the_fault text f h))

told : (text : List ℕ) → Tells text (parsed text)
unfolding parsed
told text = by_cut text (answer_of text) refl

spelled : {text : List ℕ} {r : Expanded} (e : Expr) → Tells text r → r ≡ Ok e → IsParsed text e
spelled {text} e (spells p) h = subst (λ x. IsParsed text x) (cc) p
spelled e (refuses x) h = absurd cc

refused_for : {text : List ℕ} {r : Expanded} (f : ParseFault) → Tells text r → r ≡ Err f → IsRefused text f
refused_for f (spells p) h = absurd cc
refused_for {text} f (refuses x) h = subst (λ g. IsRefused text g) (cc) x

answered : {text : List ℕ} {r : Expanded} → Tells text r → IsAnswered text
answered (spells p) = is_parsed p
answered (refuses x) = is_refused x

spelled_is : {text : List ℕ} {r : Expanded} (e : Expr) → Tells text r → IsParsed text e → r ≡ Ok e
spelled_is {text} e (spells {e = x} p) q = ap Ok (same_expression text x e p q)
spelled_is {text} e (refuses {f} x) q = absurd (not_both text e f q x)

pub is_spelled : (text : List ℕ) (e : Expr) → parsed text ≡ Ok e → IsParsed text e
is_spelled text e h = spelled e (told text) h

pub is_refused_for : (text : List ℕ) (f : ParseFault) → parsed text ≡ Err f → IsRefused text f
is_refused_for text f h = refused_for f (told text) h

pub spelled_alone : (text : List ℕ) (e : Expr) → IsParsed text e → parsed text ≡ Ok e
spelled_alone text e p = spelled_is e (told text) p

pub is_answered : (text : List ℕ) → IsAnswered text
is_answered text = answered (told text)

-- what the code answers, step by step
of_tokens : (text : List ℕ) (ts : List Token) (r : Result Tree ParseFault) → IsCut text ts → all_of text ts ≡ r
    → parsed text ≡ (r >>= parsed_tree text)
unfolding parsed
of_tokens text ts r c h =
    ap (λ (a : Answer). lexed a >>= λ us. all_of text us >>= parsed_tree text) (answer_cut text ts c)
    ∙ ap (λ (x : Result Tree ParseFault). x >>= parsed_tree text) h

of_fault : (text : List ℕ) (g : LexFault) → Refuses text g → parsed text ≡ Err (Lex g)
unfolding parsed
of_fault text g x = ap (λ (a : Answer). lexed a >>= λ us. all_of text us >>= parsed_tree text) (answer_fault text g x)

cut_fails : (text : List ℕ) (l : Failed LexFault) (e : Failed ParseFault) → Widens (λ g f. f ≡ Lex g) l e
    → ((g : LexFault) → l ≡ failed.Fault g → Refuses text g) → Fails e (parsed text)
cut_fails text failed.OutOfMemory failed.OutOfMemory h x = tt
cut_fails text failed.OutOfMemory (failed.Fault f) h x = absurd h
cut_fails text (failed.Fault g) failed.OutOfMemory h x = absurd h
cut_fails text (failed.Fault g) (failed.Fault f) h x = of_fault text g (x g refl) ∙ ap Err (sym h)

-- the lexer's failure, reported one level up
pub cut_told : {X : Type 0} (text : List ℕ) (r : Result X (Failed LexFault)) (told : Result X (Failed ParseFault))
    → MatchResult r (λ x. told ≡ Ok x) (λ l. IsErrAnd told (Widens (λ g f. f ≡ Lex g) l))
    → ((g : LexFault) → IsErrOf r (failed.Fault g) → Refuses text g) → IfErr told (λ e. Fails e (parsed text))
cut_told text r (Ok x) m h = tt
cut_told text (Ok x) (Err e) m h = absurd cc
cut_told text (Err l) (Err e) m h = cut_fails text l e m (λ g q. h g (ap Err q))

pub tree_fails : (text : List ℕ) (us ts : List Token) (e : Failed ParseFault) → IsCut text us → ts ≡ us → Fails e (all_of text ts)
    → Fails e (parsed text)
tree_fails text us ts failed.OutOfMemory c q h = tt
tree_fails text us ts (failed.Fault f) c q h = of_tokens text us (Err f) c (ap (all_of text) (sym q) ∙ h)

-- the tree is held in a box
module _ (text : List ℕ) (us ts : List Token) (tree boxed : Tree) (cut : IsCut text us) (read : ts ≡ us) (inside : tree ≡ boxed)
    (is_tree : all_of text ts ≡ Ok boxed) where
  of_tree : parsed text ≡ parsed_tree text tree
  of_tree = of_tokens text us (Ok boxed) cut (ap (all_of text) (sym read) ∙ is_tree) ∙ ap (parsed_tree text) (sym inside)

  pub macro_fails : (place : ℕ) → Some place ≡ first_wrong text tree → parsed text ≡ Err (BadMacro place)
  macro_fails place h = of_tree ∙ ap (λ (o : Option ℕ). unless_wrong o (expanded text tree)) (sym h)

  of_expansion : first_wrong text tree ≡ None → parsed text ≡ expanded text tree
  of_expansion m = of_tree ∙ ap (λ (o : Option ℕ). unless_wrong o (expanded text tree)) m

  pub expansion_fails : (e : Failed ParseFault) → first_wrong text tree ≡ None → Fails e (expanded text tree) → Fails e (parsed text)
  expansion_fails failed.OutOfMemory m h = tt
  expansion_fails (failed.Fault f) m h = of_expansion m ∙ h

  pub expression_is : (e x : Expr) → first_wrong text tree ≡ None → expanded text tree ≡ Ok x → e ≡ x → parsed text ≡ Ok e
  expression_is e x m h q = of_expansion m ∙ h ∙ ap Ok (sym q)

-- a result that is what the function answers is what the relations say
pub refused_of : (text : List ℕ) (r : Result Expr (Failed ParseFault)) (f : ParseFault) → Gives same r (parsed text)
    → IsErrOf r (failed.Fault f) → IsRefused text f
refused_of text (Ok e) f g h = absurd cc
refused_of text (Err failed.OutOfMemory) f g h = absurd cc
refused_of text (Err (failed.Fault k)) f g h = is_refused_for text f (let q : k ≡ f = cc in g ∙ ap Err q)

pub spelled_of : (text : List ℕ) (r : Result Expr (Failed ParseFault)) → Gives same r (parsed text) → IfOk r (λ e. IsParsed text e)
spelled_of text (Ok e) g = is_spelled text e g
spelled_of text (Err e) g = tt

pub depth_is : (text : List ℕ) (r : Result Expr (Failed ParseFault)) → Gives same r (parsed text) → IfOk r (λ e. IsAsDeep text e)
depth_is text (Ok e) g = parsed_depth (is_spelled text e g)
depth_is text (Err e) g = tt

pub shallow_is : (text : List ℕ) (r : Result Expr (Failed ParseFault)) → Gives same r (parsed text) → IfOk r (λ e. depth_of e ≤ 100)
shallow_is text (Ok e) g = parsed_shallow (is_spelled text e g)
shallow_is text (Err e) g = tt

pub small_is : (text : List ℕ) (r : Result Expr (Failed ParseFault)) → Gives same r (parsed text) → IfOk r (λ e. nodes_of e ≤ 16384)
small_is text (Ok e) g = parsed_small (is_spelled text e g)
small_is text (Err e) g = tt
