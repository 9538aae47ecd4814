-- Which form a document or a member has.
use Rattle.std.specs.Prelude.{Bool, true, false, ◌&&◌, not, Option, Some, None, is_some}
use Rattle.serde_json.specs.Data as json
use Rattle.serde_json.specs.Data.{Data, Items, Members}
use Rattle.serde_json.specs.Find.{as_str, as_object}

-- a test of documents
abbrev pub Test : Type 0
Test = Data → Bool

-- something is there, and passes the test
abbrev pub there_and : Test → Option Data → Bool
there_and is None = false
there_and is (Some d) = is d

-- what is there passes the test, if anything is there
abbrev pub absent_or : Test → Option Data → Bool
absent_or is None = true
absent_or is (Some d) = is d

-- whether a document is a text
abbrev pub is_text : Test
is_text d = is_some (as_str d)

-- whether a document is an object
abbrev pub is_object : Test
is_object d = is_some (as_object d)

-- whether each item passes the test
abbrev pub all_items : Test → Items → Bool
all_items is json.no_items = true
all_items is (json.item d ds) = is d && all_items is ds

-- whether what is under each name passes the test
abbrev pub all_members : Test → Members → Bool
all_members is json.no_members = true
all_members is (json.member k d ms) = is d && all_members is ms

-- whether a document is a list of items that pass the test
abbrev pub is_list_of : Test → Test
is_list_of is (json.array ds) = all_items is ds
is_list_of is _ = false

-- whether a document is an object with members that pass the test
abbrev pub is_map_of : Test → Test
is_map_of is (json.object ms) = all_members is ms
is_map_of is _ = false

-- whether there are items
abbrev pub has_items : Items → Bool
has_items json.no_items = false
has_items (json.item d ds) = true

-- whether a document is a list of no items
abbrev pub is_empty_list : Test
is_empty_list (json.array ds) = not (has_items ds)
is_empty_list _ = false

-- whether a document is a list of items that pass the test, and has at least one
abbrev pub is_some_of : Test → Test
is_some_of is (json.array ds) = has_items ds && all_items is ds
is_some_of is _ = false
