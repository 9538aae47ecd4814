use Rattle.std.proofs.Common.{rules}
use Rattle.vap_cli.proofs.encode.encode_to.Goals as goal

pub returns-clause-told : goal.returns-clause-told
returns-clause-told g c = record { bytes = c.in_ok-told.told.bytes.items; encoded = c.in_ok-told.ensures; written = search rules }

pub returns-clause-all_written : goal.returns-clause-all_written
returns-clause-all_written g c = search rules
