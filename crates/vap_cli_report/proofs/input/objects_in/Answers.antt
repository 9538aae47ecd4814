use Rattle.base_containers.proofs.BytesRead.{stops_behind}
use Rattle.vap_cli_report.proofs.input.objects_in.Goals as goal

pub returns-in-Some-clause-read : goal.returns-in-Some-clause-read
returns-in-Some-clause-read g c =
    λ is.
    stops_behind g.R.Read.remaining c.in_ok-front.front.ending c.args.input.now c.take_front.new.input c.begun.new.input
    c.in_ok-reader.reader c.take_front.new.reader c.begun.new.reader c.in_ok-reader.ensures.reads c.in_ok-front.ensures.given
    c.in_ok-front.ensures.no_failure (c.begun.ensures.read is)

pub returns-clause-read : goal.returns-clause-read
returns-clause-read g c =
    λ is.
    stops_behind g.R.Read.remaining c.in_ok-front.front.ending c.args.input.now c.take_front.new.input c.of_document.new.input
    c.in_ok-reader.reader c.take_front.new.reader c.of_document.new.reader c.in_ok-reader.ensures.reads c.in_ok-front.ensures.given
    c.in_ok-front.ensures.no_failure (c.of_document.ensures.read is)
