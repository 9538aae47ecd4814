-- Which documents are what a binding says, and which faults they have.
use Rattle.std.specs.Prelude.{ℕ, Bool, true, false, ◌&&◌, ◌||◌, not, if◌then◌else◌, codes, List}
use Rattle.std.specs.Prelude.{Option, Some, None, is_some}
use Rattle.std.specs.Str.{bytes_eq}
use Rattle.serde_json.specs.Data as json
use Rattle.serde_json.specs.Data.{Data, Items}
use Rattle.serde_json.specs.Find.{get}
use Rattle.vap_match.specs.Forms.{there_and, absent_or, is_text, is_object, is_some_of}
use Rattle.vap_match.specs.Parts.{text_of, text_in, items_in}
use Rattle.vap_match.specs.SelectorForm.{is_selector}
use Rattle.vap_match.specs.declared.match_fault.MatchFault.{MatchFault}
use Rattle.vap_match.specs.declared.match_fault.MatchFault.TheVariants.{BadOperator, BadScope, EmptyRule}
use Rattle.vap_match.specs.RuleForm as rules
use Rattle.vap_read.specs.PolicyForm.{spec_of}
use Rattle.vap_read.specs.declared.policy_fault.PolicyFault.{PolicyFault}
use Rattle.vap_read.specs.declared.policy_fault.PolicyFault.TheVariants.{MissingField, DenyWithWarn, TooMany, BadMessage}
use Rattle.vap_read.specs.declared.policy_fault.PolicyFault.TheVariants.{BadParamRef, DuplicateName, Rules}
use Rattle.vap_read.specs.declared.binding.NotFoundAction.{NotFoundAction}
use Rattle.vap_read.specs.declared.binding.NotFoundAction.TheVariants.{Allow, Deny}

-- ---- words

-- the words of `parameterNotFoundAction`
abbrev pub not_found_word : List ℕ → Option NotFoundAction
not_found_word w =
    if bytes_eq w (codes "Allow") then Some Allow
    else (if bytes_eq w (codes "Deny") then Some Deny
    else None)

-- the action of a reference to params, if it is there and one of its words
abbrev pub not_found_action : Data → Option NotFoundAction
not_found_action d = not_found_word (text_in (get (codes "parameterNotFoundAction") d))

-- whether a text is one of the words of `validationActions`
abbrev pub is_action_word : List ℕ → Bool
is_action_word w = bytes_eq w (codes "Deny") || bytes_eq w (codes "Warn") || bytes_eq w (codes "Audit")

-- whether a document is one of these words
abbrev pub is_action : Data → Bool
is_action d = is_action_word (text_of d)

-- whether a word is among these items
abbrev pub names : List ℕ → Items → Bool
names word json.no_items = false
names word (json.item d ds) = bytes_eq (text_of d) word || names word ds

-- ---- what there must be

-- a reference to params is an object of texts and a selector, if they are there; its action is looked at separately
abbrev pub is_param_ref : Data → Bool
is_param_ref d =
    is_object d
    && absent_or is_text (get (codes "name") d)
    && absent_or is_text (get (codes "namespace") d)
    && absent_or is_object (get (codes "selector") d)

-- each needed member is there, and each that is there is of its form, apart from rules and selectors
abbrev pub is_formed : Data → Bool
is_formed d =
    there_and is_text (get (codes "policyName") d)
    && absent_or is_param_ref (get (codes "paramRef") d)
    && absent_or is_object (get (codes "matchResources") d)
    && there_and (is_some_of is_action) (get (codes "validationActions") d)

-- ---- actions

-- the items of `validationActions`
abbrev pub actions_in : Data → Items
actions_in d = items_in (get (codes "validationActions") d)

-- a binding denies and warns
abbrev pub denies_and_warns : Data → Bool
denies_and_warns d = names (codes "Deny") (actions_in d) && names (codes "Warn") (actions_in d)

-- ---- params

-- one and not both
abbrev pub one_of : Bool → Bool → Bool
one_of a b = if a then not b else b

-- a reference has a name or a selector and not both, and says what to do if nothing is found
abbrev pub does_refer : Data → Bool
does_refer d = one_of (is_some (get (codes "name") d)) (is_some (get (codes "selector") d)) && is_some (not_found_action d)

-- ---- rules and selectors

-- a reference to params has a selector that is one, if it has any
abbrev pub has_selector : Data → Bool
has_selector d = absent_or is_selector (get (codes "selector") d)

-- the selector of a reference or the rules of a binding have this fault
abbrev pub rules_have : MatchFault → Data → Bool
rules_have BadOperator d =
    not (absent_or has_selector (get (codes "paramRef") d)) || there_and (rules.applies BadOperator) (get (codes "matchResources") d)
rules_have BadScope d = there_and (rules.applies BadScope) (get (codes "matchResources") d)
rules_have EmptyRule d = there_and (rules.applies EmptyRule) (get (codes "matchResources") d)

-- ---- the faults

-- which faults a binding has, by what it says
abbrev pub applies : Data → PolicyFault → Bool
applies d MissingField = not (is_formed d)
applies d DenyWithWarn = denies_and_warns d
applies d TooMany = false
applies d BadMessage = false
applies d BadParamRef = not (absent_or does_refer (get (codes "paramRef") d))
applies d DuplicateName = false
applies d (Rules f) = rules_have f d

-- which faults a binding object has
abbrev pub has_fault : Data → PolicyFault → Bool
has_fault d f = applies (spec_of d) f
