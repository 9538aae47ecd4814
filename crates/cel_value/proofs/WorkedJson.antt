-- Values as JSON, worked out.
use Rattle.std.proofs.Common.{◌≡◌, List, [], ◌∷◌, ◌++◌, codes, decimal, true, negsuc, append-nil, refl, ap, sym, ◌∙◌}
use Rattle.json.specs.Print.{escape_byte, print, print_from}
use Rattle.json.specs.Token.{Token}
use Rattle.cel_value.specs.declared.value.Value as value
use Rattle.cel_value.specs.declared.value.Value.TheFolds.{fold-roll-Value}
use Rattle.cel_value.specs.declared.value.Value.TheOpen.{Value-F}
use Rattle.cel_value.specs.declared.value.Value.TheVariants.{rolls-Bool, rolls-Int, rolls-Text}
use Rattle.cel_value.specs.JsonText.{json_text, tokens_of, tokens_step}
use Rattle.cel_value.proofs.JsonLevels.{tokens_of-List}

pub true_text : json_text (value.Bool true) ≡ codes "true"
unfolding print_from
true_text = ap json_text (sym (rolls-Bool true)) ∙ ap print (fold-roll-Value (List Token) tokens_step (Value-F.Bool true))

pub negative_text : json_text (value.Int (negsuc 6)) ≡ codes "-" ++ decimal 7
unfolding print_from
negative_text = ap json_text (sym (rolls-Int (negsuc 6))) ∙ ap print (fold-roll-Value (List Token) tokens_step (Value-F.Int (negsuc 6)))
    ∙ append-nil _

quoted_text : json_text (value.Text (codes "a\"b")) ≡ codes "\"a\\\"b\""
unfolding print_from escape_byte
quoted_text = ap json_text (sym (rolls-Text
    (codes "a\"b"))) ∙ ap print (fold-roll-Value (List Token) tokens_step (Value-F.Text (codes "a\"b")))

true_tokens : tokens_of (value.Bool true) ≡ Token.boolean true ∷ []
true_tokens = ap tokens_of (sym (rolls-Bool true)) ∙ fold-roll-Value (List Token) tokens_step (Value-F.Bool true)

listed_text : json_text (value.List (value.Bool true ∷ value.Bool true ∷ [])) ≡ codes "[true,true]"
unfolding print_from
listed_text = ap print (tokens_of-List (value.Bool true ∷ value.Bool true ∷ [])) ∙ rw (true_tokens) refl
