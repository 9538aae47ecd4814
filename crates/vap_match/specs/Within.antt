-- Which limits each request that was read is within.
use Rattle.std.specs.Prelude.{◌≤◌, ℕ, length, List}
use Rattle.std.specs.List.{AllByRecursion}
use Rattle.std.specs.Str.{chars, IsUtf8}
use Rattle.base_containers.specs.declared.text.Keyed.{Keyed}
use Rattle.vap_match.specs.declared.request.Kind.{Kind}
use Rattle.vap_match.specs.declared.request.Resource.{Resource}
use Rattle.vap_match.specs.declared.request.UserInfo.{UserInfo}
use Rattle.vap_match.specs.declared.request.Admission.{Admission}

-- what a request asks
pub record Asked : Type 0 where
  pub admission : Admission

-- a text of at most so many characters
pub record IsText (most : ℕ) (text : List ℕ) : Type 0 where
  pub spelled : IsUtf8 text
  pub short : length (chars text) ≤ most

-- at most 1,024 texts, each of at most 1,024 characters
pub record AreTexts (texts : List (List ℕ)) : Type 0 where
  pub few : length texts ≤ 1024
  pub short : AllByRecursion (IsText 1024) texts

-- such texts under a name of at most 1,024 characters
pub record IsEntry (e : Keyed (List (List ℕ))) : Type 0 where
  pub key : IsText 1024 e.key
  pub value : AreTexts e.value

-- the kind that a request names
pub record IsKind (k : Kind) : Type 0 where
  pub group : IsText 253 k.group
  pub version : IsText 253 k.version
  pub kind : IsText 253 k.kind

-- the resource that it names
pub record IsResource (r : Resource) : Type 0 where
  pub group : IsText 253 r.group
  pub version : IsText 253 r.version
  pub resource : IsText 253 r.resource

-- whose request it is
pub record IsUserInfo (u : UserInfo) : Type 0 where
  pub username : IsText 1024 u.username
  pub uid : IsText 1024 u.uid
  pub groups : AreTexts u.groups
  pub few : length u.extra ≤ 1024
  pub extra : AllByRecursion IsEntry u.extra

-- what is asked is within the limits
pub record IsWithin (r : Admission) : Type 0 where
  pub uid : IsText 253 r.uid
  pub kind : IsKind r.kind
  pub resource : IsResource r.resource
  pub sub_resource : IsText 253 r.sub_resource
  pub name : IsText 253 r.name
  pub namespace : IsText 253 r.namespace
  pub operation : IsText 7 r.operation
  pub user_info : IsUserInfo r.user_info
