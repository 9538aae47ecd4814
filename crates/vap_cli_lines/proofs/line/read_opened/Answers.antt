use Rattle.vap_cli_lines.proofs.Reading.{of_each_review, reads_each}
use Rattle.vap_cli_lines.proofs.line.read_opened.Goals as goal

pub returns-clause-reads : goal.returns-clause-reads
returns-clause-reads c =
    reads_each c.read_document.result c.args.text.now c.args.document.now c.requires.some c.requires.short
    (c.utf8.text, c.requires.spelled) c.read_document.ensures

pub returns-clause-review : goal.returns-clause-review
returns-clause-review c = of_each_review c.read_document.result c.args.document.now c.read_document.ensures
