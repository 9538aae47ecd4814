-- Rows of matching, worked by computing.
use Rattle.std.proofs.Common.{◌≡◌, true, false, [], Some, refl}
use Rattle.std.specs.Prelude.{codes}
use Rattle.serde_json.specs.Data.{null, object, no_members, member}
use Rattle.vap_match.specs.Cover.{covers_resource}
use Rattle.vap_match.specs.RuleForm.{least_fault}
use Rattle.vap_match.specs.declared.match_fault.MatchFault.TheVariants.{BadOperator, EmptyRule}

-- `*` is each resource and no subresource
star : covers_resource (codes "pods") [] (codes "*") ≡ true
star = refl

star_below : covers_resource (codes "pods") (codes "log") (codes "*") ≡ false
star_below = refl

-- `*/scale` is that subresource of each resource
scale : covers_resource (codes "pods") (codes "scale") (codes "*/scale") ≡ true
scale = refl

scale_itself : covers_resource (codes "pods") [] (codes "*/scale") ≡ false
scale_itself = refl

-- `pods/*` is `pods` and all below it
pods_itself : covers_resource (codes "pods") [] (codes "pods/*") ≡ true
pods_itself = refl

pods_below : covers_resource (codes "pods") (codes "log") (codes "pods/*") ≡ true
pods_below = refl

others : covers_resource (codes "nodes") (codes "log") (codes "pods/*") ≡ false
others = refl

-- a resource has no slash in its name
no_slash : covers_resource (codes "pods/log") [] (codes "pods/log") ≡ false
no_slash = refl

-- `*/*` is everything
everything : covers_resource (codes "pods") (codes "log") (codes "*/*") ≡ true
everything = refl

-- the least fault of a document that has two
two_faults : least_fault (object (member (codes "objectSelector") null (member (codes "resourceRules") null no_members))) ≡ Some BadOperator
two_faults = refl

no_object : least_fault null ≡ Some EmptyRule
no_object = refl
