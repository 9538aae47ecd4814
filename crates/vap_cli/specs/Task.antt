-- What the words of a command line ask for.
use Rattle.std.specs.Prelude.{◌≤◌}
use Rattle.vap_cli.specs.declared.words.Task.{Task}
use Rattle.vap_cli.specs.declared.words.Task.TheVariants.{Eval, Check, Encode, Decode, Replay, Report, Kinds}

-- as many workers as there may be
abbrev pub HasWorkersInRange : Task → Type 0
HasWorkersInRange (Eval text) = Unit {0}
HasWorkersInRange (Check file) = Unit {0}
HasWorkersInRange (Encode text) = Unit {0}
HasWorkersInRange (Decode file) = Unit {0}
HasWorkersInRange (Replay file workers audit summary) = (1 ≤ workers) × (workers ≤ 16)
HasWorkersInRange (Report file json) = Unit {0}
HasWorkersInRange (Kinds file) = Unit {0}
