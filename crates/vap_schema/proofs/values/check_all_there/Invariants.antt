use Rattle.std.proofs.Common.{◌≡◌, ◌≤◌, length, drop}
use Rattle.vap_schema.specs.Paths.{path_text}
use Rattle.vap_schema.specs.Seen.{all_there, readers_of}
use Rattle.vap_schema.proofs.values.check_all_there.Given as goal

abbrev pub invariant-loop-field : goal.invariant-loop-field
invariant-loop-field l = record {
  within : l.place ≤ length l.entries;
  rest : all_there (readers_of (drop l.field-index l.fields)) (path_text l.path) (drop l.place l.entries)
      ≡ all_there (readers_of l.fields) (path_text l.path) l.entries;
}
