use Rattle.std.proofs.Common.{drop}
use Rattle.cel_lex.proofs.NextRead.{reads_ok, near_ok}
use Rattle.cel_lex.proofs.piece.longest.Goals as goal

pub returns-clause-reads : goal.returns-clause-reads
returns-clause-reads c = reads_ok (drop c.args.place c.args.text.now) c.next.result c.next.ensures

pub returns-clause-near : goal.returns-clause-near
returns-clause-near c = near_ok c.args.text.now c.args.place c.next.result c.next.ensures
