-- The tokens of lists, maps and objects.
use Rattle.std.proofs.Common.{◌≡◌, List, [], ◌∷◌, ◌++◌, flat_map, map, refl, ap, sym, ◌∙◌}
use Rattle.json.specs.Token.{Token, begin_array, begin_object, end_array, end_object, key}
use Rattle.base_containers.specs.declared.text.Keyed.{Keyed}
use Rattle.cel_value.specs.declared.value.Value.{Value, Map, Object, List as ListOf}
use Rattle.cel_value.specs.declared.value.Value.TheFolds.{fold-roll-Value}
use Rattle.cel_value.specs.declared.value.Value.TheOpen.{Value-F}
use Rattle.cel_value.specs.declared.value.Value.TheVariants.{rolls-List, rolls-Map, rolls-Object}
use Rattle.cel_value.specs.JsonText.{tokens_of, tokens_step, items_tokens, members_tokens}

flat_map-map : {X Y Z : Type 0} (f : Y → List Z) (g : X → Y) (xs : List X) → flat_map f (map g xs) ≡ flat_map (λ x. f (g x)) xs
flat_map-map f g [] = refl
flat_map-map f g (x ∷ xs) = ap (λ zs. f (g x) ++ zs) (flat_map-map f g xs)

pub tokens_of-List : (items : List Value) → tokens_of (ListOf items) ≡ begin_array ∷ (items_tokens items ++ end_array ∷ [])
tokens_of-List items =
    ap tokens_of (sym (rolls-List items)) ∙ fold-roll-Value (List Token) tokens_step (Value-F.List items)
    ∙ ap (λ ts. begin_array ∷ (ts ++ end_array ∷ [])) (flat_map-map _ tokens_of items)

pub tokens_of-Map : (members : List (Keyed Value)) → tokens_of (Map members) ≡ begin_object ∷ (members_tokens members ++ end_object ∷ [])
tokens_of-Map members =
    ap tokens_of (sym (rolls-Map members)) ∙ fold-roll-Value (List Token) tokens_step (Value-F.Map members)
    ∙ ap (λ ts. begin_object ∷ (ts ++ end_object ∷ [])) (flat_map-map (λ member. key member.key ∷ member.value) _ members)

pub tokens_of-Object : (members : List (Keyed Value))
    → tokens_of (Object members) ≡ begin_object ∷ (members_tokens members ++ end_object ∷ [])
tokens_of-Object members =
    ap tokens_of (sym (rolls-Object members)) ∙ fold-roll-Value (List Token) tokens_step (Value-F.Object members)
    ∙ ap (λ ts. begin_object ∷ (ts ++ end_object ∷ [])) (flat_map-map (λ member. key member.key ∷ member.value) _ members)
