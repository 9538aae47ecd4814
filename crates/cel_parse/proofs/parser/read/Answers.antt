use Rattle.std.proofs.Common.{sym, ◌∙◌}
use Rattle.std.proofs.lemmas.Result.{err_from_is_err_and}
use Rattle.cel_parse.proofs.FewTokens.{few_of}
use Rattle.cel_parse.proofs.Parsed.{tree_fails, macro_fails, expansion_fails, expression_is}
use Rattle.cel_parse.proofs.parser.read.Goals as goal

pub tree_of-requires : goal.tree_of-requires
tree_of-requires c = record { few = few_of c.in_ok-cut.ensures.cut c.as_slice.ensures.value }

pub returns-in_err-cut : goal.returns-in_err-cut
returns-in_err-cut c =
    let p = err_from_is_err_and c.from_residual.result c.from_residual.ensures.1 in
    rw (p.1, p.2) c.in_err-cut.ensures.fault

pub returns-in_err-boxed : goal.returns-in_err-boxed
returns-in_err-boxed c =
    let p = err_from_is_err_and c.from_residual-in_err-boxed.result c.from_residual-in_err-boxed.ensures.1 in
    rw (p.1, p.2) (tree_fails c.args.text.now _ _ c.in_err-boxed.field-0.0 c.in_ok-cut.ensures.cut c.as_slice.ensures.value
    c.in_err-boxed.ensures.read)

pub returns-in-Some : goal.returns-in-Some
returns-in-Some c =
    macro_fails c.args.text.now _ _ c.get-tree.result.now c.in_ok-boxed.boxed c.in_ok-cut.ensures.cut c.as_slice.ensures.value
    c.get-tree.ensures c.in_ok-boxed.ensures.read c.in-Some.place c.in-Some.ensures

pub returns-in_err-expand : goal.returns-in_err-expand
returns-in_err-expand c =
    let p = err_from_is_err_and c.from_residual-in_err-expand.result c.from_residual-in_err-expand.ensures.1 in
    rw (p.1, p.2) (expansion_fails c.args.text.now _ _ c.get-tree.result.now c.in_ok-boxed.boxed c.in_ok-cut.ensures.cut
    c.as_slice.ensures.value c.get-tree.ensures c.in_ok-boxed.ensures.read c.in_err-expand.field-0.0
    (sym c.first_wrong.ensures ∙ c.in_default.is) c.in_err-expand.ensures)

pub returns : goal.returns
returns c =
    expression_is c.args.text.now _ _ c.get-tree.result.now c.in_ok-boxed.boxed c.in_ok-cut.ensures.cut c.as_slice.ensures.value
    c.get-tree.ensures c.in_ok-boxed.ensures.read c.into_inner.result c.in_ok-expand.field-0
    (sym c.first_wrong.ensures ∙ c.in_default.is) c.in_ok-expand.ensures c.into_inner.ensures
