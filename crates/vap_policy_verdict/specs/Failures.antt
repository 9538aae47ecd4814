-- The failures that are kept with a decision, as JSON.
use Rattle.std.specs.Prelude.{ℕ, Bool, true, false, codes, List, [], ◌∷◌, ◌++◌, Option, Some, None, if◌then◌else◌}
use Rattle.std.specs.List.{flat_map}
use Rattle.json.specs.Print.{print}
use Rattle.json.specs.Token.{Token, begin_array, begin_object, end_array, end_object, key, string}
use Rattle.vap_read.specs.declared.binding.ValidationActions.{ValidationActions}
use Rattle.vap_policy_verdict.specs.Members.{text_member, number_member}
use Rattle.vap_policy_verdict.specs.declared.finding.Finding.{Finding}

-- which of a policy's validations failed, if it was one
abbrev pub index_by : Option ℕ → List Token
index_by None = []
index_by (Some n) = number_member (codes "expressionIndex") n

-- the members before the message
unfoldable pub head_members : Finding → List Token
head_members f = text_member (codes "binding") f.binding ++ index_by f.expression_index

-- the message and the policy
unfoldable pub word_members : Finding → List Token
word_members f = text_member (codes "message") f.message ++ text_member (codes "policy") f.policy

-- a word, if it is set
abbrev pub where_set : Bool → List ℕ → List Token
where_set true word = string word ∷ []
where_set false word = []

-- the words of a binding's actions, always in this order
unfoldable pub action_words : ValidationActions → List Token
action_words a = where_set a.deny (codes "Deny") ++ (where_set a.warn (codes "Warn") ++ where_set a.audit (codes "Audit"))

-- the list of these words
unfoldable pub action_list : ValidationActions → List Token
action_list a = begin_array ∷ (action_words a ++ end_array ∷ [])

-- a member that is this list
abbrev pub action_member : List ℕ → ValidationActions → List Token
action_member name a = key name ∷ action_list a

-- the binding's actions
unfoldable pub action_members : Finding → List Token
action_members f = action_member (codes "validationActions") f.actions

-- a failure, its members by the bytes of their keys
unfoldable pub failure_tokens : Finding → List Token
failure_tokens f = begin_object ∷ (head_members f ++ (word_members f ++ (action_members f ++ end_object ∷ [])))

-- a failure, if its binding audits
unfoldable pub audited_tokens : Finding → List Token
audited_tokens f = if f.actions.audit then failure_tokens f else []

-- the list of the failures whose bindings audit
abbrev pub failures_tokens : List Finding → List Token
failures_tokens fs = begin_array ∷ (flat_map audited_tokens fs ++ end_array ∷ [])

-- that list as compact JSON
abbrev pub failures_text : List Finding → List ℕ
failures_text fs = print (failures_tokens fs)
