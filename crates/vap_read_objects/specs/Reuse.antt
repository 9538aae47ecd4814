-- What stays after events.
use Rattle.std.specs.Prelude.{◌≡◌, Bool, true, List, Some}
use Rattle.vap_read_objects.specs.declared.kind.Kind.{Kind}
use Rattle.vap_read_objects.specs.Classes.{all_miss}
use Rattle.vap_read_objects.specs.Cluster.{Cluster}
use Rattle.vap_read_objects.specs.OfKind.{object_at}
use Rattle.vap_read.specs.declared.event.Event.{Event}
use Rattle.vap_read.specs.declared.key.Key.{Key}
use Rattle.vap_read.specs.declared.object.Object.{Object}
use Rattle.vap_read_objects.specs.Fitted.{Fitted, entries_of, is_of_params, params_of, refitted}
use Rattle.vap_read_objects.specs.Keyed.{is_in}

-- something holds unless an event touches a key of a class
abbrev pub StaysUnless : (Key → Bool) → List Event → Type 0 → Type 0
StaysUnless class events what = all_miss class events ≡ true → what

-- what is under each key of a class is what is wanted, unless an event touches the key
abbrev pub StandUnless : (Key → Bool) → List (Key × Object) → List Event → List (Key × Object) → Type 0
StandUnless class want events old = (k : Key) → all_miss (is_in class k) events ≡ true → object_at k old ≡ object_at k want

-- params are those that objects have of their kind, unless an event touches one; the same holds for each that no event touches
pub record AreStill (c : Cluster) (events : List Event) (q : Fitted) : Type 0 where
  pub all : StaysUnless (is_of_params q.kind) events (q ≡ refitted c q)
  pub each : StandUnless (is_of_params q.kind) (entries_of q.kind c) events q.entries

-- no event touches an object of a kind of params
unfoldable pub is_untouched : List Event → Fitted → Bool
is_untouched events q = all_miss (is_of_params q.kind) events

-- params are those that objects have of their kind, by the type to which they are fitted
abbrev pub AreRefitted : Cluster → Fitted → Type 0
AreRefitted c q = q ≡ refitted c q

-- the kind of params is known, by the type to which they are fitted
abbrev pub IsKnownBy : List Kind → Fitted → Type 0
IsKnownBy kinds q = (c : Cluster) → params_of kinds c (Some q.kind) ≡ Some (refitted c q)
