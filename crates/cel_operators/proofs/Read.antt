-- What a text is read as, and what follows for what was built of it.
use Rattle.std.proofs.Common.{◌≡◌, ◌≢◌, inl, inr, ℕ, ◌<◌, ◌≤◌, List, All, Option, None, Some, IsSome, IfSome, IsSomeAnd, true, false}
use Rattle.std.proofs.Common.{nat_le, is_some, length, refl, sym, ap, ◌∙◌, rules, arith}
use Rattle.std.specs.Prelude.{option_and_then, chars}
use Rattle.regex_syntax.specs.Brackets.{Nested}
use Rattle.regex_syntax.specs.Grammar.{Names, read, group_count}
use Rattle.regex_syntax.specs.Captures.{SameCaptures}
use Rattle.regex_syntax.specs.Verdict.{Reads, Refuses}
use Rattle.regex_syntax.specs.declared.error.ErrorKind.{ErrorKind}
use Rattle.regex_syntax.specs.declared.error.ErrorKind.TheVariants.{OutOfMemory}
use Rattle.regex_syntax.proofs.CapturesLemmas.{spans, find_str_alike}
use Rattle.regex_syntax.proofs.Written.{is_some-option_map}
use Rattle.regex_hir.specs.Meaning.{meaning}
use Rattle.regex_hir.specs.declared.hir.Hir.{Hir}
use Rattle.regex.specs.Patterns.{Re, default_config, find_str}
use Rattle.regex.specs.Failures.{IsPattern}
use Rattle.regex.specs.Strings.{regex_pattern, regex_source}
use Rattle.regex.specs.declared.string.regex.Regex.{Regex}
use Rattle.cel_operators.specs.PatternMeaning.{within, tree_of, is_found}
use Rattle.cel_operators.specs.Building.{IsRegexOf, AnswersText}

low : (depth most : ℕ) → depth ≤ most → nat_le depth most ≡ true
low depth most h = search (rules, arith)

high : (depth most : ℕ) → most < depth → nat_le depth most ≡ false
high depth most h = search (rules, arith)

-- what is read within the limit is the tree
abbrev ReadsIn : Option (Nested Re × Names) → Re → Names → Type 0
ReadsIn o tree names = IsSomeAnd o (λ (re, found). (re.depth ≤ 250) × SameCaptures tree re.value × (names ≡ found)
    × (group_count tree ≤ length names))

tree_step : (o : Option (Nested Re × Names)) (tree : Re) (names : Names) → ReadsIn o tree names → IsSome (option_and_then (within 250) o)
tree_step None tree names h = absurd h
tree_step (Some found) tree names h = rw (low found.0.depth 250 h.0) refl

-- a text that is read is a pattern
pub is_pattern : (text : List ℕ) (hir : Hir) (names : Names) → Reads default_config text hir names → IsSome (tree_of text)
unfolding tree_of Reads
is_pattern text hir names h = tree_step (read default_config (chars text)) (meaning hir) names h

deep_step : (o : Option (Nested Re × Names)) → IfSome o (λ (re, _). 250 < re.depth) → option_and_then (within 250) o ≡ None
deep_step None h = refl
deep_step (Some found) h = rw (high found.0.depth 250 h) refl

-- a text that is refused for a cause other than memory is no pattern
pub no_pattern : (text : List ℕ) (kind : ErrorKind) → Refuses default_config text kind → kind ≢ OutOfMemory → tree_of text ≡ None
unfolding tree_of Refuses
no_pattern text kind (inl memory) other = absurd (other memory)
no_pattern text kind (inr (inl none)) other = rw none refl
no_pattern text kind (inr (inr deep)) other = deep_step (read default_config (chars text)) deep.1

found_step : (o : Option (Nested Re × Names)) (tree : Re) (names : Names) (text : List ℕ) → All (λ b. b < 256) text → ReadsIn o tree names →
    is_some (find_str tree text 0) ≡ is_some (option_and_then (λ re. find_str re text 0) (option_and_then (within 250) o))
found_step None tree names text bytes h = absurd h
found_step (Some found) tree names text bytes h =
    rw (low found.0.depth 250 h.0)
    (sym (is_some-option_map spans _) ∙ ap is_some (find_str_alike tree found.0.value h.1 text bytes 0) ∙ is_some-option_map spans _)

-- what `regex` built of a text is found if the text's pattern is
pub answers_its_text : (text : List ℕ) (r : Regex) → IsRegexOf text r → AnswersText (regex_pattern r) (regex_source r)
unfolding is_found tree_of Reads
answers_its_text pattern r (source, config, reads) text bytes = found_step _ _ _ text bytes (rw config at reads)

pub regex_is_pattern : (text : List ℕ) (r : Regex) → IsRegexOf text r → IsSome (tree_of text)
regex_is_pattern text r (source, config, reads) = is_pattern text _ _ (rw (config, source) at reads)

pub one_is_pattern : (text : List ℕ) → IsPattern default_config text → IsSome (tree_of text)
one_is_pattern text (hir, names, reads) = is_pattern text hir names reads
