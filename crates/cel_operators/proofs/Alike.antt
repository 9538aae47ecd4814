-- Two programs that are read from one text find alike.
use Rattle.std.proofs.Common.{◌≡◌, ℕ, ◌<◌, ◌≤◌, List, All, Option, None, Some, is_some, IsSomeAnd, length, sym, ap, ◌∙◌, arith}
use Rattle.std.specs.Prelude.{chars}
use Rattle.regex_hir.specs.Re.{attempt, accept, Trace}
use Rattle.regex_syntax.specs.Brackets.{Nested}
use Rattle.regex_syntax.specs.Grammar.{Names, read, group_count}
use Rattle.regex_syntax.specs.Captures.{SameCaptures, outcome}
use Rattle.regex_syntax.specs.Verdict.{Reads}
use Rattle.regex_syntax.proofs.CapturesLemmas.{spans, find_alike, alike_sym, ◌also◌}
use Rattle.regex_syntax.proofs.Written.{is_some-option_map}
use Rattle.regex_meta.specs.Programs.{pattern_of, leftmost}
use Rattle.regex_meta.specs.declared.program.Program.{Program}
use Rattle.regex_meta.proofs.ProgramLemmas.{value_of_option_map, no_shorter_lem, unanchored_end}
use Rattle.regex_dfa.specs.Search.{end_from}
use Rattle.regex.specs.Patterns.{Re, default_config}
use Rattle.regex.specs.Strings.{regex_pattern}
use Rattle.regex.specs.declared.string.regex.Regex.{Regex}
use Rattle.regex.proofs.Utf8Lemmas.{find_str_of_filled}
use Rattle.cel_operators.specs.PatternMeaning.{is_found}
use Rattle.cel_operators.specs.Building.{IsRegexOf, IsProgramOf, FindsAlike}
use Rattle.cel_operators.specs.BuiltText.{built_text}
use Rattle.cel_operators.specs.declared.built.Built.{Built}

one_tree : (o : Option (Nested Re × Names)) (most : ℕ) (a b : Re) (ns ms : Names) →
    IsSomeAnd o (λ (re, found). (re.depth ≤ most) × SameCaptures a re.value × (ns ≡ found) × (group_count a ≤ length ns)) →
    IsSomeAnd o (λ (re, found). (re.depth ≤ most) × SameCaptures b re.value × (ms ≡ found) × (group_count b ≤ length ms)) → SameCaptures a b
one_tree None most a b ns ms p q = absurd p
one_tree (Some found) most a b ns ms p q = p.1 also alike_sym q.1

-- the program and the pattern have the same captures
pub one_text : (text : List ℕ) (r : Regex) (p : Program) → IsRegexOf text r → IsProgramOf text p
    → SameCaptures (pattern_of p) (regex_pattern r)
unfolding Reads
one_text text r p (source, config, reads) (names, mine) =
    one_tree (read default_config (chars text)) _ _ _ _ _ mine (rw (config, source) at reads)

filled : (p : Program) (tree : Re) (text : List ℕ) → All (λ b. b < 256) text → SameCaptures (pattern_of p) tree → 0 < p.min_len →
    (i : ℕ) (t : Trace) → attempt text tree accept i ≡ Some t → i < t.end
unfolding outcome
filled p tree text bytes same some i t e =
    let v = value_of_option_map _ _ _ (same.at text bytes accept i ∙ ap outcome e) in
    let long = no_shorter_lem p text i v.0 v.1 in
    let ends : v.0.end ≡ t.end = ap (λ x. x.0) v.2 in
    omega (arith, long, ends)

finds_alike : (p : Program) (r : Regex) → SameCaptures (pattern_of p) (regex_pattern r) → FindsAlike p (regex_pattern r)
finds_alike p r same some text bytes =
    sym (is_some-option_map spans _) ∙ ap is_some (find_alike (pattern_of p) (regex_pattern r) same text bytes 0)
    ∙ is_some-option_map spans _
    ∙ ap is_some (find_str_of_filled (regex_pattern r) text bytes r.whole_characters (filled p (regex_pattern r) text bytes same some) 0)

-- what two readings of one text keep
pub alike : (text : List ℕ) (r : Regex) (p : Program) → IsRegexOf text r → IsProgramOf text p → FindsAlike p (regex_pattern r)
alike text r p regex program = finds_alike p r (one_text text r p regex program)

ended : (p : Program) (text : List ℕ) → All (λ b. b < 256) text →
    is_some (end_from p.dfa.nfa text (length text) p.dfa.nfa.unanchored 0) ≡ is_some (leftmost p text 0)
ended p text bytes = ap is_some (unanchored_end p text bytes 0 (omega arith)) ∙ is_some-option_map _ _

-- what the end of the automaton's search says
pub said : (b : Built) (text : List ℕ) → All (λ c. c < 256) text → 0 < b.program.min_len →
    is_some (end_from b.program.dfa.nfa text (length text) b.program.dfa.nfa.unanchored 0) ≡ is_found (built_text b) text
said b text bytes some = ended b.program text bytes ∙ b.alike some text bytes ∙ b.answers text bytes
