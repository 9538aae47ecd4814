-- Which objects a set is of before events.
use Rattle.std.specs.Prelude.{◌≡◌, List}
use Rattle.vap_read_objects.specs.After.{after_all}
use Rattle.vap_read_objects.specs.Cluster.{Cluster}
use Rattle.vap_read.specs.declared.event.Event.{Event}
use Rattle.vap_policy_set.specs.Sets.{Holdings, holdings_of}

-- a set is of some objects, and events leave these of them
pub record IsBefore (h : Holdings) (events : List Event) (c : Cluster) : Type 0 where
  pub objects : Cluster
  pub is : h ≡ holdings_of objects h.choice
  pub after : c ≡ after_all events objects
