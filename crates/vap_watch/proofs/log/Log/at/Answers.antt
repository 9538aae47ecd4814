use Rattle.std.proofs.Common.{◌≡◌, ◌<◌, ◌≤◌, List, [], Some, get_or, drop, length, sym, ap, ◌∙◌, subst, arith}
use Rattle.std.specs.Prelude.{slice_get}
use Rattle.std.proofs.lemmas.List.{drop_all}
use Rattle.vap_read_objects.specs.Blocks.{joined}
use Rattle.vap_watch.specs.declared.log.Logged.{Logged}
use Rattle.vap_watch.proofs.Blocks.{found, behind}
use Rattle.vap_watch.proofs.log.Log.at.Goals as goal

pub returns-then-left-logged : goal.returns-then-left-logged
returns-then-left-logged c =
    let same : c.as_slice-logged.result.now ≡ c.block-item.result = c.as_slice-logged.ensures ∙ c.get.ensures in
    let log : joined c.deref-block-items.result.now ≡ c.args.self.now =
    ap joined c.deref-block-items.ensures.value ∙ c.self.view_is in
    let d : Logged = c.index-logged-left.result in
    ap (λ (l : List Logged). slice_get l c.args.place) (sym log)
    ∙ (found c.deref-block-items.result.now c.loop-block.block-index c.block-item.result c.loop-block.left c.args.place d
    c.loop-block-test.true c.block-item.is c.loop-block.invariant.0
    (subst (λ (b : List Logged). c.loop-block.left < length b) same c.if-left-logged.true)
    ∙ ap (λ (b : List Logged). Some (get_or b c.loop-block.left d)) (sym same) ∙ ap (λ (x : Logged). Some x) (sym c.index-logged-left.is))

pub loop-block-preserved : goal.loop-block-preserved
loop-block-preserved c =
    let same : c.as_slice-logged.result.now ≡ c.block-item.result = c.as_slice-logged.ensures ∙ c.get.ensures in
    rw same (behind c.deref-block-items.result.now c.loop-block.block-index c.block-item.result c.loop-block.left c.args.place
    c.loop-block-test.true c.block-item.is c.loop-block.invariant
    (subst (λ (b : List Logged). length b ≤ c.loop-block.left) same c.if-left-logged.false))

pub unreachable-requires : goal.unreachable-requires
unreachable-requires c =
    let none : drop c.loop-block.block-index c.deref-block-items.result.now ≡ [] =
    drop_all c.loop-block.block-index c.deref-block-items.result.now c.loop-block-test.false in
    let empty : length (joined (drop c.loop-block.block-index c.deref-block-items.result.now)) ≡ 0 =
    ap (λ (bs : List (List Logged)). length (joined bs)) none in
    omega (arith, empty, c.loop-block.invariant.1)
