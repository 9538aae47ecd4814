-- What it takes to take an event.
use Rattle.std.proofs.Common.{◌≡◌, ◌↔◌, Bool, true, sym, ◌∙◌, arith}
use Rattle.std.specs.Prelude.{nat_lt, IsTrue}
use Rattle.std.proofs.lemmas.Bool.{ltb-true, lt-ltb, and_parts, and_from}
use Rattle.vap_read.specs.declared.event.Event.{Event}
use Rattle.vap_read_objects.specs.After.{nothing, objects_after, after}
use Rattle.vap_read_objects.specs.Cluster.{Cluster}
use Rattle.vap_read_objects.specs.Limits.{are_few, takes, IsWithin}
use Rattle.vap_read_objects.proofs.Counts.{few_told, told_few}

-- what is taken leaves a cluster within its limits
within_after : (e : Event) (c : Cluster) → takes e c ≡ true → IsWithin (after e c)
within_after e c taken =
    let parts = and_parts (nat_lt c.events 65536) (are_few (objects_after e c.objects)) taken in
    record {
      events = omega (arith, ltb-true c.events 65536 parts.0);
      few = told_few (objects_after e c.objects) parts.1;
    }

-- what leaves a cluster within its limits is taken
taken_within : (e : Event) (c : Cluster) → IsWithin (after e c) → takes e c ≡ true
taken_within e c within =
    and_from (nat_lt c.events 65536) (are_few (objects_after e c.objects))
    (lt-ltb c.events 65536 (omega (arith, within.events))) (sym (few_told (objects_after e c.objects) within.few))

-- an event is taken exactly if it leaves a cluster within its limits
pub told_within : (told : Bool) (e : Event) (c : Cluster) → told ≡ takes e c → IsTrue told ↔ IsWithin (after e c)
told_within told e c is = ((λ yes. within_after e c (sym is ∙ yes)), (λ within. is ∙ taken_within e c within))

-- before any event a cluster is within its limits
pub nothing_within : IsWithin nothing
nothing_within =
    record {
      events = omega arith;
      few = record { objects = omega arith; policies = omega arith; bindings = omega arith; versions = omega arith };
    }
