use Rattle.cel_parse.proofs.Parsed.{spelled_of, refused_of, depth_is, shallow_is, small_is}
use Rattle.cel_parse.proofs.parser.parse.Goals as goal

pub returns-clause-parsed : goal.returns-clause-parsed
returns-clause-parsed c = spelled_of c.args.text.now c.read.result c.read.ensures

pub returns-clause-refused : goal.returns-clause-refused
returns-clause-refused c = λ f. refused_of c.args.text.now c.read.result f c.read.ensures

pub returns-clause-depth : goal.returns-clause-depth
returns-clause-depth c = depth_is c.args.text.now c.read.result c.read.ensures

pub returns-clause-shallow : goal.returns-clause-shallow
returns-clause-shallow c = shallow_is c.args.text.now c.read.result c.read.ensures

pub returns-clause-small : goal.returns-clause-small
returns-clause-small c = small_is c.args.text.now c.read.result c.read.ensures
