-- What an event does to a cluster.
use Rattle.std.specs.Prelude.{◌+◌, List, [], ◌∷◌}
use Rattle.std.specs.BTreeMap.{is_at}
use Rattle.std.specs.Map.{remove_entry}
use Rattle.vap_read.specs.Keys.{key_cmp, with_object}
use Rattle.vap_read.specs.declared.event.Event.{Event}
use Rattle.vap_read.specs.declared.event.Event.TheVariants.{Put, Removed, Passed, Replaced}
use Rattle.vap_read.specs.declared.key.Key.{Key}
use Rattle.vap_read.specs.declared.object.Object.{Object}
use Rattle.vap_read_objects.specs.Cluster.{Cluster}

-- before any event
abbrev pub nothing : Cluster
nothing = record { objects = []; events = 0 }

-- the objects after an event: one is put under its key in place of any other, or the one under a key is gone, or all are replaced
abbrev pub objects_after : Event → List (Key × Object) → List (Key × Object)
objects_after (Put o) os = with_object o os
objects_after (Removed k) os = remove_entry (is_at (key_cmp k)) os
objects_after Passed os = os
objects_after (Replaced all) os = all

-- the cluster after an event
abbrev pub after : Event → Cluster → Cluster
after e c = record { objects = objects_after e c.objects; events = c.events + 1 }

-- the cluster after the events of a log, first to last
abbrev pub after_all : List Event → Cluster → Cluster
after_all [] c = c
after_all (e ∷ es) c = after_all es (after e c)

-- the cluster that a log leaves
abbrev pub cluster_of : List Event → Cluster
cluster_of log = after_all log nothing
