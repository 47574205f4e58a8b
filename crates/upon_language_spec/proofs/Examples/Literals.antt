-- Texts with a literal, and the trees that they have.
use Rattle.std.proofs.Common.{pos, negsuc, [], ◌∷◌, true, false, refl, codes}
use Rattle.upon_language_spec.proofs.Computation.Computing.{computing}
use Rattle.upon_types.specs.declared.types.token.Token.TheVariants.{Plus, Minus, Whitespace, Keyword, Number, String}
use Rattle.upon_types.specs.Val.{bool_val}
use Rattle.upon_types.specs.Expression.{literal}
use Rattle.upon_language_spec.specs.DefaultDelimiters.{default_delimiters}
use Rattle.upon_language_spec.specs.Grammar.{HasTree}
use Rattle.upon_language_spec.proofs.Computation.HasTreeTests.{has_tree_tested}
use Rattle.upon_language_spec.specs.ShortTrees.{at}
use Rattle.upon_language_spec.proofs.Examples.ShortTrees.{lex, braced, number, quote, only}

-- `{{ true }}`
yes : HasTree default_delimiters (codes "{{ true }}") (only (literal (bool_val true) (at 3 7)) 10)
unfolding computing
yes = has_tree_tested _ _ (braced (lex Keyword 3 7 ∷ []) 7) _ refl

-- `{{ false }}`
no : HasTree default_delimiters (codes "{{ false }}") (only (literal (bool_val false) (at 3 8)) 11)
unfolding computing
no = has_tree_tested _ _ (braced (lex Keyword 3 8 ∷ []) 8) _ refl

-- `{{ - 5 }}`: whitespace may be after the sign; `negsuc 4` is -5
minus_five : HasTree default_delimiters (codes "{{ - 5 }}") (only (number (negsuc 4) 3 6) 9)
unfolding computing
minus_five = has_tree_tested _ _ (braced (lex Minus 3 4 ∷ lex Whitespace 4 5 ∷ lex Number 5 6 ∷ []) 6) _ refl

-- `{{ +5 }}`
plus_five : HasTree default_delimiters (codes "{{ +5 }}") (only (number (pos 5) 3 5) 8)
unfolding computing
plus_five = has_tree_tested _ _ (braced (lex Plus 3 4 ∷ lex Number 4 5 ∷ []) 5) _ refl

-- `{{ -0b101 }}`
minus_binary : HasTree default_delimiters (codes "{{ -0b101 }}") (only (number (negsuc 4) 3 9) 12)
unfolding computing
minus_binary = has_tree_tested _ _ (braced (lex Minus 3 4 ∷ lex Number 4 9 ∷ []) 9) _ refl

-- `{{ 0o17 }}`
octal : HasTree default_delimiters (codes "{{ 0o17 }}") (only (number (pos 15) 3 7) 10)
unfolding computing
octal = has_tree_tested _ _ (braced (lex Number 3 7 ∷ []) 7) _ refl

-- `{{ 0x }}`: no digits are 0
bare_prefix : HasTree default_delimiters (codes "{{ 0x }}") (only (number (pos 0) 3 5) 8)
unfolding computing
bare_prefix = has_tree_tested _ _ (braced (lex Number 3 5 ∷ []) 5) _ refl

-- `{{ 0xff_ }}`: underscores do not count
hex : HasTree default_delimiters (codes "{{ 0xff_ }}") (only (number (pos 255) 3 8) 11)
unfolding computing
hex = has_tree_tested _ _ (braced (lex Number 3 8 ∷ []) 8) _ refl

-- `{{ 1_000 }}`
grouped : HasTree default_delimiters (codes "{{ 1_000 }}") (only (number (pos 1000) 3 8) 11)
unfolding computing
grouped = has_tree_tested _ _ (braced (lex Number 3 8 ∷ []) 8) _ refl

-- `{{ 9223372036854775807 }}`
greatest : HasTree default_delimiters (codes "{{ 9223372036854775807 }}") (only (number (pos 9223372036854775807) 3 22) 25)
unfolding computing
greatest = has_tree_tested _ _ (braced (lex Number 3 22 ∷ []) 22) _ refl

-- `{{ -9223372036854775808 }}`: `negsuc n` is -n - 1
least : HasTree default_delimiters (codes "{{ -9223372036854775808 }}") (only (number (negsuc 9223372036854775807) 3 23) 26)
unfolding computing
least = has_tree_tested _ _ (braced (lex Minus 3 4 ∷ lex Number 4 23 ∷ []) 23) _ refl

-- `{{ "a" }}`
text : HasTree default_delimiters (codes "{{ \"a\" }}") (only (quote (codes "a") 3 6) 9)
unfolding computing
text = has_tree_tested _ _ (braced (lex String 3 6 ∷ []) 6) _ refl

-- `{{ "" }}`
empty_text : HasTree default_delimiters (codes "{{ \"\" }}") (only (quote [] 3 5) 8)
unfolding computing
empty_text = has_tree_tested _ _ (braced (lex String 3 5 ∷ []) 5) _ refl

-- `{{ "a\n\"" }}`: the bytes of `a`, a line feed and a quote
escapes : HasTree default_delimiters (codes "{{ \"a\\n\\\"\" }}") (only (quote (97 ∷ 10 ∷ 34 ∷ []) 3 10) 13)
unfolding computing
escapes = has_tree_tested _ _ (braced (lex String 3 10 ∷ []) 10) _ refl

-- `{{ "\r\t\\" }}`
more_escapes : HasTree default_delimiters (codes "{{ \"\\r\\t\\\\\" }}") (only (quote (13 ∷ 9 ∷ 92 ∷ []) 3 11) 14)
unfolding computing
more_escapes = has_tree_tested _ _ (braced (lex String 3 11 ∷ []) 11) _ refl

-- `{{ "}}" }}`: a delimiter in quotes ends nothing
braces_in_text : HasTree default_delimiters (codes "{{ \"}}\" }}") (only (quote (codes "}}") 3 7) 10)
unfolding computing
braces_in_text = has_tree_tested _ _ (braced (lex String 3 7 ∷ []) 7) _ refl
