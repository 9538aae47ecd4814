use Rattle.std.proofs.Common.{◌≡◌, ◌++◌, drop}
use Rattle.serde_json.specs.View.{view, items_view}
use Rattle.vap_read_objects.specs.Kinds.{kinds_by}
use Rattle.vap_read_objects.proofs.kinds.put_versions.Given as goal

-- the kinds so far with those of the versions that are left are all
abbrev pub invariant-loop-version : goal.invariant-loop-version
invariant-loop-version l =
    l.kinds.items ++ kinds_by (view l.spec) (items_view (drop l.version-index l.versions))
    ≡ l.initial.kinds.items ++ kinds_by (view l.spec) (items_view l.versions)
