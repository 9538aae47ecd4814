-- How selectors name properties (Kubernetes, "CEL in Kubernetes", Escaping).
use Rattle.std.specs.Prelude.{ℕ, Bool, ◌&&◌, ◌||◌, List, [], ◌∷◌, ◌++◌, is_some, if◌then◌else◌, codes}
use Rattle.std.specs.Str.{bytes_eq}
use Rattle.cel_lex.specs.Words.{keyword, is_reserved}

-- one character of a name as selectors spell it: a dot, a dash and a slash by a word
abbrev pub spelling : ℕ → List ℕ
spelling b =
    if bytes_eq (b ∷ []) (codes ".") then codes "__dot__"
    else (if bytes_eq (b ∷ []) (codes "-") then codes "__dash__"
    else (if bytes_eq (b ∷ []) (codes "/") then codes "__slash__"
    else b ∷ []))

-- a property name as selectors spell it: two underscores by a word, and each other character by itself
abbrev pub spelled_out : List ℕ → List ℕ
spelled_out [] = []
spelled_out (b ∷ []) = spelling b
spelled_out (b ∷ c ∷ bs) =
    if bytes_eq (b ∷ c ∷ []) (codes "__") then codes "__underscores__" ++ spelled_out bs else spelling b ++ spelled_out (c ∷ bs)

-- a keyword or reserved word is written between underscores; any other name is spelled out
abbrev pub escaped : List ℕ → List ℕ
escaped name = if is_some (keyword name) || is_reserved name then codes "__" ++ (name ++ codes "__") else spelled_out name

-- whether a selector selects the property of a name: escaped, or by itself if it is reserved
abbrev pub selects : List ℕ → List ℕ → Bool
selects selector name = bytes_eq (escaped name) selector || (is_reserved name && bytes_eq name selector)
