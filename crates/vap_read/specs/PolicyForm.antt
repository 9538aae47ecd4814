-- Which documents are what a policy says, and which faults they have.
use Rattle.std.specs.Prelude.{ℕ, Bool, true, false, ◌&&◌, ◌||◌, ◌==◌, not, if◌then◌else◌, nat_le, codes, List, [], ◌∷◌}
use Rattle.std.specs.Prelude.{Option, Some, None, is_some, unwrap_or, option_and_then}
use Rattle.std.specs.List.{list_any}
use Rattle.std.specs.Str.{bytes_eq}
use Rattle.serde_json.specs.Data.{Data, Items, null}
use Rattle.serde_json.specs.Events.{items_len}
use Rattle.serde_json.specs.Find.{get, as_str}
use Rattle.vap_match.specs.Forms.{there_and, absent_or, is_text, all_items, has_items, is_list_of}
use Rattle.vap_match.specs.Parts.{text_in, items_in, each_item}
use Rattle.vap_match.specs.RuleForm as rules
use Rattle.vap_read.specs.declared.policy.FailurePolicy.{FailurePolicy}
use Rattle.vap_read.specs.declared.policy.FailurePolicy.TheVariants.{Fail, Ignore}
use Rattle.vap_read.specs.declared.policy.Reason.{Reason}
use Rattle.vap_read.specs.declared.policy.Reason.TheVariants.{Unauthorized, Forbidden, Invalid, RequestEntityTooLarge}
use Rattle.vap_read.specs.declared.policy_fault.PolicyFault.{PolicyFault}
use Rattle.vap_read.specs.declared.policy_fault.PolicyFault.TheVariants.{MissingField, DenyWithWarn, TooMany, BadMessage}
use Rattle.vap_read.specs.declared.policy_fault.PolicyFault.TheVariants.{BadParamRef, DuplicateName, Rules}

-- ---- words

-- the words of `failurePolicy`
abbrev pub failure_word : List ℕ → Option FailurePolicy
failure_word w =
    if bytes_eq w (codes "Fail") then Some Fail
    else (if bytes_eq w (codes "Ignore") then Some Ignore
    else None)

-- the words of `reason`
abbrev pub reason_word : List ℕ → Option Reason
reason_word w =
    if bytes_eq w (codes "Unauthorized") then Some Unauthorized
    else (if bytes_eq w (codes "Forbidden") then Some Forbidden
    else (if bytes_eq w (codes "Invalid") then Some Invalid
    else (if bytes_eq w (codes "RequestEntityTooLarge") then Some RequestEntityTooLarge
    else None)))

-- whether a document is a word of `failurePolicy`
abbrev pub is_failure_policy : Data → Bool
is_failure_policy d = is_some (option_and_then failure_word (as_str d))

-- whether a document is a word of `reason`
abbrev pub is_reason : Data → Bool
is_reason d = is_some (option_and_then reason_word (as_str d))

-- ---- what there must be

-- two members that are texts
abbrev pub has_both : List ℕ → List ℕ → Data → Bool
has_both first second d = there_and is_text (get first d) && there_and is_text (get second d)

-- the items of a member of what a policy says
abbrev pub list_in : List ℕ → Data → Items
list_in name d = items_in (get name d)

-- a validation has an expression, and texts to say if they are there
abbrev pub is_validation : Data → Bool
is_validation d =
    there_and is_text (get (codes "expression") d)
    && absent_or is_text (get (codes "message") d)
    && absent_or is_text (get (codes "messageExpression") d)
    && absent_or is_reason (get (codes "reason") d)

-- constraints have a rule
abbrev pub has_rule : Data → Bool
has_rule d = has_items (list_in (codes "resourceRules") d)

-- there is a validation or an annotation
abbrev pub has_aim : Data → Bool
has_aim d = has_items (list_in (codes "validations") d) || has_items (list_in (codes "auditAnnotations") d)

-- what names the params and the conditions is of its form
abbrev pub has_premises : Data → Bool
has_premises d =
    absent_or (has_both (codes "apiVersion") (codes "kind")) (get (codes "paramKind") d)
    && absent_or (is_list_of (has_both (codes "name") (codes "expression"))) (get (codes "matchConditions") d)
    && absent_or (is_list_of (has_both (codes "name") (codes "expression"))) (get (codes "variables") d)

-- what decides is of its form
abbrev pub has_decisions : Data → Bool
has_decisions d =
    absent_or (is_list_of is_validation) (get (codes "validations") d)
    && absent_or (is_list_of (has_both (codes "key") (codes "valueExpression"))) (get (codes "auditAnnotations") d)
    && absent_or is_failure_policy (get (codes "failurePolicy") d)

-- each needed member is there, and each that is there is of its form, apart from rules
abbrev pub is_formed : Data → Bool
is_formed d = there_and has_rule (get (codes "matchConstraints") d) && has_premises d && has_decisions d && has_aim d

-- ---- counts

-- at most so many items
abbrev pub has_at_most : ℕ → List ℕ → Data → Bool
has_at_most limit name d = nat_le (items_len (list_in name d)) limit

-- each list is within its limit
abbrev pub has_few : Data → Bool
has_few d =
    has_at_most 64 (codes "matchConditions") d
    && has_at_most 20 (codes "auditAnnotations") d
    && has_at_most 128 (codes "variables") d
    && has_at_most 128 (codes "validations") d

-- ---- messages

-- a text has a line feed or a carriage return
abbrev pub has_break : List ℕ → Bool
has_break text = list_any (λ b. b == 10 || b == 13) text

-- a message is one line, and it is not empty if the expression is more than one
abbrev pub is_message : List ℕ → List ℕ → Bool
is_message expression message = not (has_break message) && (not (has_break expression) || not (bytes_eq message []))

-- a validation has a message that is allowed
abbrev pub has_message : Data → Bool
has_message d = is_message (text_in (get (codes "expression") d)) (text_in (get (codes "message") d))

-- ---- names

-- the text that each item has under this key
abbrev pub names_in : List ℕ → Items → List (List ℕ)
names_in key ds = each_item (λ d. text_in (get key d)) ds

-- each of some names occurs once
abbrev pub are_distinct : List (List ℕ) → Bool
are_distinct [] = true
are_distinct (n ∷ ns) = not (list_any (bytes_eq n) ns) && are_distinct ns

-- conditions, variables and annotations each have names of their own
abbrev pub has_distinct_names : Data → Bool
has_distinct_names d =
    are_distinct (names_in (codes "name") (list_in (codes "matchConditions") d))
    && are_distinct (names_in (codes "name") (list_in (codes "variables") d))
    && are_distinct (names_in (codes "key") (list_in (codes "auditAnnotations") d))

-- ---- the faults

-- which faults a policy has, by what it says
abbrev pub applies : Data → PolicyFault → Bool
applies d MissingField = not (is_formed d)
applies d DenyWithWarn = false
applies d TooMany = not (has_few d)
applies d BadMessage = not (all_items has_message (list_in (codes "validations") d))
applies d BadParamRef = false
applies d DuplicateName = not (has_distinct_names d)
applies d (Rules f) = there_and (rules.applies f) (get (codes "matchConstraints") d)

-- what an object says, null if it says nothing
abbrev pub spec_of : Data → Data
spec_of d = unwrap_or (get (codes "spec") d) null

-- which faults a policy object has
abbrev pub has_fault : Data → PolicyFault → Bool
has_fault d f = applies (spec_of d) f
