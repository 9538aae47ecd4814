-- Rows of objects, worked by computing.
use Rattle.std.proofs.Common.{◌≡◌, ◌∷◌, [], true, false, refl}
use Rattle.std.specs.Prelude.{codes}
use Rattle.serde_json.specs.Data as json
use Rattle.vap_read.specs.declared.event.Event.TheVariants.{Put, Removed, Passed, Replaced}
use Rattle.vap_read.specs.declared.key.Key.{Key}
use Rattle.vap_read.specs.declared.object.Content.TheVariants.{Other}
use Rattle.vap_read.specs.declared.object.Object.{Object}
use Rattle.vap_read_objects.specs.After.{after, cluster_of, nothing}
use Rattle.vap_read_objects.specs.Classes.{all_miss, is_namespace, is_rule}
use Rattle.vap_read_objects.specs.OfKind.{namespace_key}

abbrev key : Key
key = namespace_key (codes "d")

abbrev object : Object
object = record { key = key; content = Other; document = json.null }

-- what passes counts as an event and changes nothing else
passed : after Passed nothing ≡ record { objects = []; events = 1 }
passed = refl

-- an object that is put twice is held once
twice : cluster_of (Put object ∷ Put object ∷ []) ≡ record { objects = (key, object) ∷ []; events = 2 }
twice = refl

-- a removed object is gone, and removing it again changes nothing
removed : cluster_of (Put object ∷ Removed key ∷ Removed key ∷ []) ≡ record { objects = []; events = 3 }
removed = refl

-- a List replaces all
replaced : cluster_of (Put object ∷ Replaced [] ∷ []) ≡ record { objects = []; events = 2 }
replaced = refl

-- events on a Namespace touch no policy, binding or definition
missed : all_miss is_rule (Put object ∷ Removed key ∷ Passed ∷ []) ≡ true
missed = refl

-- they touch Namespaces, and a List touches all
touched : all_miss is_namespace (Passed ∷ Removed key ∷ []) ≡ false
touched = refl

all_touched : all_miss is_rule (Replaced [] ∷ []) ≡ false
all_touched = refl
