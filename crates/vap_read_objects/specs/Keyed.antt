-- Params, each under a key.
use Rattle.std.specs.Prelude.{◌≡◌, true, Bool, ◌&&◌, List}
use Rattle.vap_read_objects.specs.Classes.{is_key, misses}
use Rattle.vap_read_objects.specs.OfKind.{object_at}
use Rattle.vap_read.specs.declared.event.Event.{Event}
use Rattle.vap_read.specs.declared.key.Key.{Key}
use Rattle.vap_read.specs.declared.object.Object.{Object}

-- a key is this one, and of a class
abbrev pub is_in : (Key → Bool) → Key → Key → Bool
is_in class this k = class k && is_key this k

-- what is found under each key is what is wanted, if it was so, or the event touches the key
abbrev pub Settles : (Key → Bool) → List (Key × Object) → Event → List (Key × Object) → List (Key × Object) → Type 0
Settles class want event old new =
    (k : Key) → (misses (is_in class k) event ≡ true → object_at k old ≡ object_at k want) → object_at k new ≡ object_at k want
