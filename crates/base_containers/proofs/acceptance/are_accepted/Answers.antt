use Rattle.std.proofs.Common.{refl, sym, ◌∙◌, arith}
use Rattle.std.proofs.lemmas.Bool.{and_from, and_left, and_right}
use Rattle.json.specs.declared.tape.Node.TheVariants.{Object}
use Rattle.base_containers.proofs.Accepts.{node_goes, node_stops, nodes_over, read_goes, read_over, read_stops}
use Rattle.base_containers.proofs.acceptance.are_accepted.Goals as goal

pub returns-then-not-is_read : goal.returns-then-not-is_read
returns-then-not-is_read c =
    let l = c.loop-node in
    sym (and_left _ _ (l.invariant.read ∙ read_stops c.args.nodes.now l.node-index (Object 0) c.loop-node-test.true
    (sym c.is_read.ensures ∙ c.if-not-is_read.true)))

pub returns-in-None : goal.returns-in-None
returns-in-None c =
    let l = c.loop-node in
    sym (and_right _ _ (l.invariant.left ∙ node_stops c.args.nodes.now (Object 0) l.node-index l.room _ c.loop-node-test.true refl
    (sym c.room_after.ensures.after ∙ c.in-None.is)))

pub loop-node-preserved : goal.loop-node-preserved
loop-node-preserved c =
    let l = c.loop-node in record {
      bound = grind (arith, c.room_after.ensures.bound, c.in-Some.is, l.invariant.bound);
      read = l.invariant.read ∙ read_goes c.args.nodes.now l.node-index (Object 0) c.loop-node-test.true
          (sym c.is_read.ensures ∙ c.if-not-is_read.false);
      left = l.invariant.left ∙ node_goes c.args.nodes.now (Object 0) l.node-index l.room c.in-Some.left _ c.loop-node-test.true refl
          (sym c.room_after.ensures.after ∙ c.in-Some.is);
    }

pub returns : goal.returns
returns c =
    let l = c.loop-node in
    sym (and_from _ _ (l.invariant.read ∙ read_over c.args.nodes.now l.node-index c.loop-node-test.false)
    (l.invariant.left ∙ nodes_over c.args.nodes.now l.node-index l.room c.loop-node-test.false))
