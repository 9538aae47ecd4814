-- One more item of a List.
use Rattle.std.proofs.Common.{◌≡◌, List, Ok, Err, Result, refl, ap, sym, ◌∙◌}
use Rattle.serde_json.specs.Data.{Data, Items, item}
use Rattle.base_containers.specs.Failures.{made}
use Rattle.vap_read.specs.Keys.{with_object}
use Rattle.vap_read.specs.Reading.{before, put_all, read_object, read_items}
use Rattle.vap_read.specs.declared.key.Key.{Key}
use Rattle.vap_read.specs.declared.object.Object.{Object}
use Rattle.vap_read.specs.declared.event_fault.EventFault.{EventFault}

-- the objects of some items, after those that there are
abbrev pub All : List (Key × Object) → Items → Result (List (Key × Object)) EventFault
All es ds = made (put_all es) (read_items ds)

-- an object is put, and then those after it
put_one : (es : List (Key × Object)) (o : Object) (r : Result (List Object) EventFault)
    → made (put_all es) (before (Ok o) r) ≡ made (put_all (with_object o es)) r
put_one es o (Ok os) = refl
put_one es o (Err f) = refl

-- if an item is an object, the others go after it
pub with_item : (es fs : List (Key × Object)) (d : Data) (ds : Items) (o : Object) (want : Result (List (Key × Object)) EventFault)
    → All es (item d ds) ≡ want → read_object d ≡ Ok o → fs ≡ with_object o es → All fs ds ≡ want
with_item es fs d ds o want all is put =
    ap (λ x. All x ds) put ∙ (sym (put_one es o (read_items ds))
    ∙ (sym (ap (λ r. made (put_all es) (before r (read_items ds))) is) ∙ all))

-- if an item has a fault, it is the fault of all
pub at_fault : (es : List (Key × Object)) (d : Data) (ds : Items) (f : EventFault) (want : Result (List (Key × Object)) EventFault)
    → All es (item d ds) ≡ want → read_object d ≡ Err f → want ≡ Err f
at_fault es d ds f want all is = sym all ∙ ap (λ r. made (put_all es) (before r (read_items ds))) is
