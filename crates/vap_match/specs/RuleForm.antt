-- Which documents are rules, which rules a document is, and which faults it has.
use Rattle.std.specs.Prelude.{◌≡◌, ◌<◌, ℕ, Bool, true, false, ◌&&◌, ◌||◌, not, if◌then◌else◌, codes, List, [], ◌∷◌}
use Rattle.std.specs.Prelude.{Option, Some, None, is_some, unwrap_or, option_map, option_and_then, Result}
use Rattle.std.specs.List.{find}
use Rattle.std.specs.Str.{bytes_eq}
use Rattle.serde_json.specs.Data.{Data, Items}
use Rattle.serde_json.specs.Find.{get, as_str}
use Rattle.vap_match.specs.Forms.{there_and, absent_or, is_text, is_object, all_items, is_list_of, is_some_of}
use Rattle.vap_match.specs.Parts.{items_in, each_item, texts_in}
use Rattle.vap_match.specs.ReaderAnswers.{unless}
use Rattle.vap_match.specs.SelectorForm.{is_selector, selector_of}
use Rattle.vap_match.specs.declared.match_fault.MatchFault.{MatchFault}
use Rattle.vap_match.specs.declared.match_fault.MatchFault.TheVariants.{BadOperator, BadScope, EmptyRule}
use Rattle.vap_match.specs.declared.rules.Operation.{Operation}
use Rattle.vap_match.specs.declared.rules.Operation.TheVariants as operation
use Rattle.vap_match.specs.declared.rules.Scope.{Scope}
use Rattle.vap_match.specs.declared.rules.Scope.TheVariants as scope
use Rattle.vap_match.specs.declared.rules.Rule.{Rule}
use Rattle.vap_match.specs.declared.rules.Rules.{Rules}

-- ---- words

-- the words of `operations`
abbrev pub operation_word : List ℕ → Option Operation
operation_word w =
    if bytes_eq w (codes "CREATE") then Some operation.Create
    else (if bytes_eq w (codes "UPDATE") then Some operation.Update
    else (if bytes_eq w (codes "DELETE") then Some operation.Delete
    else (if bytes_eq w (codes "CONNECT") then Some operation.Connect
    else (if bytes_eq w (codes "*") then Some operation.Any
    else None))))

-- the words of `scope`
abbrev pub scope_word : List ℕ → Option Scope
scope_word w =
    if bytes_eq w (codes "*") then Some scope.Any
    else (if bytes_eq w (codes "Cluster") then Some scope.Cluster
    else (if bytes_eq w (codes "Namespaced") then Some scope.Namespaced
    else None))

-- the operation that a document names, if it does
abbrev pub operation_at : Data → Option Operation
operation_at d = option_and_then operation_word (as_str d)

-- the scope that a document names, if it does
abbrev pub scope_at : Data → Option Scope
scope_at d = option_and_then scope_word (as_str d)

-- whether a document is a word of `operations`
abbrev pub is_operation : Data → Bool
is_operation d = is_some (operation_at d)

-- whether a document is a word of `scope`
abbrev pub is_scope : Data → Bool
is_scope d = is_some (scope_at d)

-- the words of `matchPolicy`
abbrev pub is_policy_word : List ℕ → Bool
is_policy_word w = bytes_eq w (codes "Exact") || bytes_eq w (codes "Equivalent")

-- whether a document is a word of `matchPolicy`
abbrev pub is_policy : Data → Bool
is_policy d = unwrap_or (option_map is_policy_word (as_str d)) false

-- ---- the faults

-- the rules of `resourceRules`
abbrev pub rules_in : Data → Items
rules_in d = items_in (get (codes "resourceRules") d)

-- the rules of `excludeResourceRules`
abbrev pub excluded_in : Data → Items
excluded_in d = items_in (get (codes "excludeResourceRules") d)

-- both selectors are selectors, if they are there
abbrev pub has_selectors : Data → Bool
has_selectors d = absent_or is_selector (get (codes "namespaceSelector") d) && absent_or is_selector (get (codes "objectSelector") d)

-- the scope of a rule is one of its words, if it is there
abbrev pub has_scope : Data → Bool
has_scope d = absent_or is_scope (get (codes "scope") d)

-- each rule's scope is one of its words
abbrev pub has_scopes : Data → Bool
has_scopes d = all_items has_scope (rules_in d) && all_items has_scope (excluded_in d)

-- four lists that are not empty, and the names of objects, if they are there
abbrev pub is_rule : Data → Bool
is_rule d =
    there_and (is_some_of is_operation) (get (codes "operations") d)
    && there_and (is_some_of is_text) (get (codes "apiGroups") d)
    && there_and (is_some_of is_text) (get (codes "apiVersions") d)
    && there_and (is_some_of is_text) (get (codes "resources") d)
    && absent_or (is_list_of is_text) (get (codes "resourceNames") d)

-- an object of rules, if they are there, and of a word of `matchPolicy`, if it is there
abbrev pub has_rules : Data → Bool
has_rules d =
    is_object d
    && absent_or (is_list_of is_rule) (get (codes "resourceRules") d)
    && absent_or (is_list_of is_rule) (get (codes "excludeResourceRules") d)
    && absent_or is_policy (get (codes "matchPolicy") d)

-- which faults a document has
abbrev pub applies : MatchFault → Data → Bool
applies BadOperator d = not (has_selectors d)
applies BadScope d = not (has_scopes d)
applies EmptyRule d = not (has_rules d)

-- the faults by their numbers
abbrev pub faults : List MatchFault
faults = BadOperator ∷ BadScope ∷ EmptyRule ∷ []

-- the fault of the least number that a document has
abbrev pub least_fault : Data → Option MatchFault
least_fault d = find (λ f. applies f d) faults

-- the number of a fault
abbrev pub number_of : MatchFault → ℕ
number_of BadOperator = 1
number_of BadScope = 2
number_of EmptyRule = 3

-- a document has this fault, and none of a lesser number
abbrev pub IsLeast : Data → MatchFault → Type 0
IsLeast d f = (applies f d ≡ true) × ((g : MatchFault) → number_of g < number_of f → applies g d ≡ false)

-- ---- the rules

-- the operation that an item names
abbrev pub operation_of : Data → Operation
operation_of d = unwrap_or (operation_at d) operation.Any

-- the scope of a rule: any if none is named
abbrev pub scope_of : Data → Scope
scope_of d = unwrap_or (option_and_then scope_at (get (codes "scope") d)) scope.Any

-- the rule that a document is
abbrev pub rule_of : Data → Rule
rule_of d = record {
  operations = each_item operation_of (items_in (get (codes "operations") d));
  api_groups = texts_in (get (codes "apiGroups") d);
  api_versions = texts_in (get (codes "apiVersions") d);
  resources = texts_in (get (codes "resources") d);
  scope = scope_of d;
  resource_names = texts_in (get (codes "resourceNames") d);
}

-- the rules that a document is
abbrev pub rules_of : Data → Rules
rules_of d = record {
  resource_rules = each_item rule_of (rules_in d);
  exclude_resource_rules = each_item rule_of (excluded_in d);
  namespace_selector = option_map selector_of (get (codes "namespaceSelector") d);
  object_selector = option_map selector_of (get (codes "objectSelector") d);
}

-- rules that say nothing, which match every request
abbrev pub no_rules : Rules
no_rules = record { resource_rules = []; exclude_resource_rules = []; namespace_selector = None; object_selector = None }

-- the rules of a member, which say nothing if it is absent
abbrev pub rules_under : Option Data → Rules
rules_under None = no_rules
rules_under (Some d) = rules_of d

-- the rules that a document is, or its least fault
abbrev pub read_rules : Data → Result Rules MatchFault
read_rules d = unless (rules_of d) (least_fault d)
