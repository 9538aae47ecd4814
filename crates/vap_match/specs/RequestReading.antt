-- Which request a review has.
use Rattle.std.specs.Prelude.{ℕ, Bool, false, codes, List, [], ◌∷◌, Option, Some}
use Rattle.std.specs.Prelude.{unwrap_or, option_and_then, Result}
use Rattle.base_containers.specs.declared.text.Keyed.{Keyed}
use Rattle.serde_json.specs.Data as json
use Rattle.serde_json.specs.Data.{Data, Members}
use Rattle.serde_json.specs.Find.{get, as_bool}
use Rattle.vap_match.specs.Parts.{text_of, text_in, items_of, items_in, each_item}
use Rattle.vap_match.specs.ReaderAnswers.{unless}
use Rattle.vap_match.specs.Faults.{least_fault}
use Rattle.vap_match.specs.declared.review_fault.ReviewFault.{ReviewFault}
use Rattle.vap_match.specs.declared.request.Kind.{Kind}
use Rattle.vap_match.specs.declared.request.Resource.{Resource}
use Rattle.vap_match.specs.declared.request.UserInfo.{UserInfo}
use Rattle.vap_match.specs.declared.request.Admission.{Admission}
use Rattle.vap_match.specs.declared.request.Request.{Request}
use Rattle.vap_match.specs.declared.review.Names.{Names}
use Rattle.vap_match.specs.declared.review.Target.{Target}

-- the request of a review, or the review itself if it has none
abbrev pub asked : Data → Data
asked d = unwrap_or (get (codes "request") d) d

-- the text of a member of a member
abbrev pub text_at : List ℕ → List ℕ → Data → List ℕ
text_at outer inner d = text_in (option_and_then (get inner) (get outer d))

-- the kind that a request names
abbrev pub kind_of : Data → Kind
kind_of d = record {
  group = text_at (codes "kind") (codes "group") d;
  version = text_at (codes "kind") (codes "version") d;
  kind = text_at (codes "kind") (codes "kind") d;
}

-- the resource that a request names
abbrev pub resource_of : Data → Resource
resource_of d = record {
  group = text_at (codes "resource") (codes "group") d;
  version = text_at (codes "resource") (codes "version") d;
  resource = text_at (codes "resource") (codes "resource") d;
}

-- the texts under each name
abbrev pub lists_under : Members → List (Keyed (List (List ℕ)))
lists_under json.no_members = []
lists_under (json.member k d ms) = record { key = k; value = each_item text_of (items_of d) } ∷ lists_under ms

-- the texts under each name of a member
abbrev pub lists_in : Option Data → List (Keyed (List (List ℕ)))
lists_in (Some (json.object ms)) = lists_under ms
lists_in _ = []

-- whose request it is
abbrev pub user_info_of : Data → UserInfo
user_info_of d = record {
  username = text_at (codes "userInfo") (codes "username") d;
  uid = text_at (codes "userInfo") (codes "uid") d;
  groups = each_item text_of (items_in (option_and_then (get (codes "groups")) (get (codes "userInfo") d)));
  extra = lists_in (option_and_then (get (codes "extra")) (get (codes "userInfo") d));
}

-- whether a request is a dry run
abbrev pub dry_run_of : Data → Bool
dry_run_of d = unwrap_or (option_and_then as_bool (get (codes "dryRun") d)) false

-- the texts of a request itself
abbrev pub names_of : Data → Names
names_of d = record {
  uid = text_in (get (codes "uid") d);
  sub_resource = text_in (get (codes "subResource") d);
  name = text_in (get (codes "name") d);
  namespace = text_in (get (codes "namespace") d);
  operation = text_in (get (codes "operation") d);
}

-- what a request is on, and whose it is
abbrev pub target_of : Data → Target
target_of d = record { kind = kind_of d; resource = resource_of d; user_info = user_info_of d }

-- what a document asks, of this review
abbrev pub admission_from : Data → Data → Admission
admission_from review d = record {
  uid = text_in (get (codes "uid") d);
  kind = kind_of d;
  resource = resource_of d;
  sub_resource = text_in (get (codes "subResource") d);
  name = text_in (get (codes "name") d);
  namespace = text_in (get (codes "namespace") d);
  operation = text_in (get (codes "operation") d);
  user_info = user_info_of d;
  dry_run = dry_run_of d;
  review = review;
}

-- the request of a review
abbrev pub request_of : Data → Request
request_of review = record { admission = admission_from review (asked review) }

-- the request of a review, or the review's least fault
abbrev pub read_review : Data → Result Request ReviewFault
read_review review = unless (request_of review) (least_fault review)
