-- Which documents are selectors, and which selector a document is.
use Rattle.std.specs.Prelude.{◌≡◌, ℕ, Bool, true, false, ◌&&◌, not, if◌then◌else◌, codes, List, [], ◌∷◌, Option, Some, None}
use Rattle.std.specs.Prelude.{unwrap_or, option_and_then, Result, Ok, Err}
use Rattle.std.specs.Str.{bytes_eq}
use Rattle.base_containers.specs.declared.text.Keyed.{Keyed}
use Rattle.serde_json.specs.Data as json
use Rattle.serde_json.specs.Data.{Data, Members}
use Rattle.serde_json.specs.Find.{get, as_str}
use Rattle.vap_match.specs.Forms.{there_and, absent_or, is_text, is_object, is_list_of, is_map_of, is_some_of, is_empty_list}
use Rattle.vap_match.specs.Parts.{text_of, text_in, items_in, each_item, texts_in}
use Rattle.vap_match.specs.declared.match_fault.MatchFault.{MatchFault}
use Rattle.vap_match.specs.declared.match_fault.MatchFault.TheVariants.{BadOperator, BadScope, EmptyRule}
use Rattle.vap_match.specs.declared.selector.Operator.{Operator}
use Rattle.vap_match.specs.declared.selector.Operator.TheVariants.{In, NotIn, Exists, DoesNotExist}
use Rattle.vap_match.specs.declared.selector.Requirement.{Requirement}
use Rattle.vap_match.specs.declared.selector.Selector.{Selector}

-- the words of `operator`
abbrev pub operator_word : List ℕ → Option Operator
operator_word w =
    if bytes_eq w (codes "In") then Some In
    else (if bytes_eq w (codes "NotIn") then Some NotIn
    else (if bytes_eq w (codes "Exists") then Some Exists
    else (if bytes_eq w (codes "DoesNotExist") then Some DoesNotExist
    else None)))

-- the operator of a requirement, if its word is one
abbrev pub operator_in : Data → Option Operator
operator_in d = option_and_then operator_word (option_and_then as_str (get (codes "operator") d))

-- In and NotIn have values, Exists and DoesNotExist have none
abbrev pub has_values_for : Option Operator → Option Data → Bool
has_values_for None values = false
has_values_for (Some In) values = there_and (is_some_of is_text) values
has_values_for (Some NotIn) values = there_and (is_some_of is_text) values
has_values_for (Some Exists) values = absent_or is_empty_list values
has_values_for (Some DoesNotExist) values = absent_or is_empty_list values

-- whether a document is a requirement
abbrev pub is_requirement : Data → Bool
is_requirement d = there_and is_text (get (codes "key") d) && has_values_for (operator_in d) (get (codes "values") d)

-- whether a document is a selector
abbrev pub is_selector : Data → Bool
is_selector d =
    is_object d
    && absent_or (is_map_of is_text) (get (codes "matchLabels") d)
    && absent_or (is_list_of is_requirement) (get (codes "matchExpressions") d)

-- which faults a document has as a selector: at most one
abbrev pub has_fault : Data → MatchFault → Bool
has_fault d BadOperator = not (is_selector d)
has_fault d BadScope = false
has_fault d EmptyRule = false

-- a document has this fault as a selector, and no other
abbrev pub IsOnly : Data → MatchFault → Type 0
IsOnly d f = (has_fault d f ≡ true) × ((g : MatchFault) → has_fault d g ≡ true → g ≡ f)

-- the requirement that a document is
abbrev pub requirement_of : Data → Requirement
requirement_of d = record {
  key = text_in (get (codes "key") d);
  operator = unwrap_or (operator_in d) Exists;
  values = texts_in (get (codes "values") d);
}

-- the text under each name
abbrev pub texts_under : Members → List (Keyed (List ℕ))
texts_under json.no_members = []
texts_under (json.member k d ms) = record { key = k; value = text_of d } ∷ texts_under ms

-- the labels that are wanted
abbrev pub wanted_labels : Option Data → List (Keyed (List ℕ))
wanted_labels (Some (json.object ms)) = texts_under ms
wanted_labels _ = []

-- the selector that a document is
abbrev pub selector_of : Data → Selector
selector_of d = record {
  match_labels = wanted_labels (get (codes "matchLabels") d);
  match_expressions = each_item requirement_of (items_in (get (codes "matchExpressions") d));
}

-- the selector, or that the document is none
abbrev pub read_selector : Data → Result Selector MatchFault
read_selector d = if is_selector d then Ok (selector_of d) else Err BadOperator
