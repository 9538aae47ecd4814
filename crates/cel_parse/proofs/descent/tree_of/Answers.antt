use Rattle.cel_parse.proofs.Answered.{answered_tree, answered_fault}
use Rattle.cel_parse.proofs.descent.tree_of.Goals as goal

pub returns-clause-tree : goal.returns-clause-tree
returns-clause-tree c = answered_tree c.args.source.now c.args.tokens.now c.requires.few c.read_all.result c.read_all.ensures

pub returns-clause-refused : goal.returns-clause-refused
returns-clause-refused c = answered_fault c.args.source.now c.args.tokens.now c.requires.few c.read_all.result c.read_all.ensures
