-- Worked rows of the definitions.
use Rattle.std.proofs.Common.{◌≡◌, true, false, refl}
use Rattle.std.specs.Prelude.{codes}
use Rattle.cel_check.specs.Selectors.{selects, escaped}

pub dash_is_a_word : escaped (codes "a-b") ≡ codes "a__dash__b"
dash_is_a_word = refl

pub underscores_are_a_word : escaped (codes "__a") ≡ codes "__underscores__a"
underscores_are_a_word = refl

pub third_underscore_is_itself : escaped (codes "___") ≡ codes "__underscores___"
third_underscore_is_itself = refl

pub dot_and_slash_are_words : escaped (codes "a.b/c") ≡ codes "a__dot__b__slash__c"
dot_and_slash_are_words = refl

pub reserved_word_is_underlined : selects (codes "__for__") (codes "for") ≡ true
reserved_word_is_underlined = refl

pub reserved_word_is_selected_by_itself : selects (codes "for") (codes "for") ≡ true
reserved_word_is_selected_by_itself = refl

pub namespace_is_selected_by_itself : selects (codes "namespace") (codes "namespace") ≡ true
namespace_is_selected_by_itself = refl

pub keyword_is_underlined : selects (codes "__true__") (codes "true") ≡ true
keyword_is_underlined = refl

pub keyword_is_not_selected_by_itself : selects (codes "true") (codes "true") ≡ false
keyword_is_not_selected_by_itself = refl

pub escaped_text_is_no_name_of_another : selects (codes "a__dash__b") (codes "a__dash__b") ≡ false
escaped_text_is_no_name_of_another = refl
