-- How much there may be in a cluster.
use Rattle.std.specs.Prelude.{ℕ, ◌+◌, ◌≤◌, Bool, ◌&&◌, if◌then◌else◌, nat_le, nat_lt, length, List, [], ◌∷◌, unwrap_or, option_map}
use Rattle.std.specs.BTreeMap.{is_at}
use Rattle.std.specs.Map.{lookup}
use Rattle.vap_read_objects.specs.Definitions.{is_definition, version_count}
use Rattle.vap_read.specs.Keys.{key_cmp}
use Rattle.vap_read.specs.declared.event.Event.{Event}
use Rattle.vap_read.specs.declared.key.Key.{Key}
use Rattle.vap_read.specs.declared.object.Content.{Content}
use Rattle.vap_read.specs.declared.object.Content.TheVariants as content
use Rattle.vap_read.specs.declared.object.Object.{Object}
use Rattle.vap_read_objects.specs.After.{objects_after}
use Rattle.vap_read_objects.specs.Cluster.{Cluster}
use Rattle.vap_read_objects.specs.declared.tallies.Counted.{Counted}
use Rattle.vap_read_objects.specs.declared.tallies.Counted.TheVariants as counted
use Rattle.vap_read_objects.specs.declared.tallies.Totals.{Totals}

-- a policy counts as one
abbrev pub policy_count : Content → ℕ
policy_count (content.Policy p) = 1
policy_count (content.Binding b) = 0
policy_count content.Other = 0

-- a binding counts as one
abbrev pub binding_count : Content → ℕ
binding_count (content.Policy p) = 0
binding_count (content.Binding b) = 1
binding_count content.Other = 0

-- a definition counts as many versions as it has
abbrev pub versions_in : Object → ℕ
versions_in o = if is_definition o.key then version_count o.document else 0

-- how much an object counts
abbrev pub weight : Counted → Object → ℕ
weight counted.Objects o = 1
weight counted.Policies o = policy_count o.content
weight counted.Bindings o = binding_count o.content
weight counted.Versions o = versions_in o

-- how much all objects count together
abbrev pub total : (Object → ℕ) → List (Key × Object) → ℕ
total f [] = 0
total f (e ∷ es) = f e.1 + total f es

-- how much the object under a key counts, nothing if there is none
abbrev pub held_weight : Counted → Key → List (Key × Object) → ℕ
held_weight what k os = unwrap_or (option_map (weight what) (lookup (is_at (key_cmp k)) os)) 0

-- how much objects count towards each limit
abbrev pub totals_of : List (Key × Object) → Totals
totals_of os = record {
  objects = total (weight counted.Objects) os;
  policies = total (weight counted.Policies) os;
  bindings = total (weight counted.Bindings) os;
  versions = total (weight counted.Versions) os;
}

-- how much they count towards one
abbrev pub counted_in : Counted → Totals → ℕ
counted_in counted.Objects t = t.objects
counted_in counted.Policies t = t.policies
counted_in counted.Bindings t = t.bindings
counted_in counted.Versions t = t.versions

-- how much all may count
abbrev pub limit : Counted → ℕ
limit counted.Objects = 4096
limit counted.Policies = 256
limit counted.Bindings = 256
limit counted.Versions = 2048

-- whether objects count no more than that
abbrev pub is_few : List (Key × Object) → Counted → Bool
is_few os what = nat_le (total (weight what) os) (limit what)

-- whether objects are within all limits
unfoldable pub are_few : List (Key × Object) → Bool
are_few os = is_few os counted.Objects && is_few os counted.Policies && is_few os counted.Bindings && is_few os counted.Versions

-- objects within all limits
pub record AreFew (os : List (Key × Object)) : Type 0 where
  pub objects : length os ≤ 4096
  pub policies : total (weight counted.Policies) os ≤ 256
  pub bindings : total (weight counted.Bindings) os ≤ 256
  pub versions : total (weight counted.Versions) os ≤ 2048

-- a cluster within all limits
pub record IsWithin (c : Cluster) : Type 0 where
  pub events : c.events ≤ 65536
  pub few : AreFew c.objects

-- whether a cluster is within all limits after an event
abbrev pub takes : Event → Cluster → Bool
takes e c = nat_lt c.events 65536 && are_few (objects_after e c.objects)
