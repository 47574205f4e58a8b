-- What begins a statement: its first token, and of a block its first word, say which it is.
use Rattle.std.proofs.Common.{◌≡◌, ℕ, List, [], Option, Some, None, Bool, true, false, not, ◌&&◌, refl, sym, ap, ◌∙◌, codes}
use Rattle.std.specs.Option.{is_none}
use Rattle.std.specs.Str.{bytes_eq}
use Rattle.upon_types.specs.declared.types.Span.{Span}
use Rattle.upon_types.specs.declared.types.token.Token.{Token}
use Rattle.upon_types.specs.declared.types.token.Token.TheVariants.{Raw, BeginExpr, BeginBlock, Keyword}
use Rattle.upon_types.specs.Span.{slice}
use Rattle.upon_types.specs.Expression.{Expression}
use Rattle.upon_types.specs.BlockKinds.{Block, Opening, opened_kind, block_word, end_word, kind_with}
use Rattle.upon_types.specs.Tree.{Statement, raw, inline_expr, include, block}
use Rattle.upon_language_spec.specs.Cut.{Lexeme}
use Rattle.upon_language_spec.specs.Tokens.{Goes}
use Rattle.upon_language_spec.specs.Grammar.{BeginsBlock, IsOpeningTag, IsStatement}
use Rattle.upon_language_spec.proofs.BlockKinds.{ended_by, ends_no_begin, block_is_no_else, end_is_no_else}
use Rattle.upon_language_spec.proofs.OneTree.Token.{first_token, first_word, second_word, goes_first}

pub data Mark : Type 0 where
  text : Mark
  shown : Mark
  tagged : List ℕ → Mark

abbrev pub block_by : Option (List ℕ) → Option Mark
block_by (Some word) = Some (tagged word)
block_by None = None

abbrev pub mark_by : Option Token → Option (List ℕ) → Option Mark
mark_by (Some Raw) word = Some text
mark_by (Some BeginExpr) word = Some shown
mark_by (Some BeginBlock) word = block_by word
mark_by t word = None

abbrev pub mark_at : List ℕ → List Lexeme → Option Mark
mark_at s ts = mark_by (first_token ts) (second_word s ts)

abbrev pub mark : Statement → Mark
mark (raw span) = text
mark (inline_expr e span) = shown
mark (include name context) = tagged (codes "include")
mark (block opening e body other) = tagged (block_word (opened_kind opening))

-- a word begins a statement, but `else` and those that end a block
abbrev pub begins : Mark → Bool
begins (tagged word) = not (bytes_eq word (codes "else")) && is_none (kind_with end_word word)
begins m = true

kind_begins : (kind : Block) → begins (tagged (block_word kind)) ≡ true
kind_begins kind = (λ i. not (block_is_no_else kind i) && is_none (ends_no_begin kind i))

pub end_begins_nothing : (kind : Block) → begins (tagged (end_word kind)) ≡ false
end_begins_nothing kind = (λ i. not (end_is_no_else kind i) && is_none (ended_by kind i))

mark_begins : (t : Statement) → begins (mark t) ≡ true
mark_begins (raw span) = refl
mark_begins (inline_expr e span) = refl
mark_begins (include name context) = refl
mark_begins (block opening e body other) = kind_begins (opened_kind opening)

differ : (m n : Mark) → Some m ≡ Some n → begins m ≡ false → begins n ≡ true → ⊥
differ m n e h k = let same : m ≡ n = cc in let moved = ap begins same in cc

module _ (s : List ℕ) where
  goes_word : (t : Token) (span : Span) (ts r : List Lexeme) → Goes t span ts r → first_word s ts ≡ Some (slice s span)
  goes_word t span ts r g = ap (first_word s) g.is ∙ ap (λ p. Some (slice s p)) g.at

  goes_mark : (t : Token) (span : Span) (ts r : List Lexeme) → Goes t span ts r → mark_at s ts ≡ mark_by (Some t) (first_word s r)
  goes_mark t span ts r g = (λ i. mark_by (goes_first t span ts r g i) (second_word s (g.is i)))

  pub block_mark : (word : List ℕ) (ts r : List Lexeme) → BeginsBlock s word ts r → mark_at s ts ≡ Some (tagged word)
  block_mark word ts r h =
      goes_mark BeginBlock h.1.0 ts h.0 h.1.1
      ∙ ap block_by (goes_word Keyword h.2.0 h.0 r h.2.1.0 ∙ ap Some h.2.1.1)

  pub opening_mark : (opening : Opening) (e : Expression) (ts r : List Lexeme) → IsOpeningTag s opening e ts r → mark_at s ts ≡ Some (tagged (block_word (opened_kind opening)))
  opening_mark opening e ts r h = block_mark (block_word (opened_kind opening)) ts h.0 h.2

  statement_mark : (t : Statement) (ts r : List Lexeme) → IsStatement s t ts r → mark_at s ts ≡ Some (mark t)
  statement_mark (raw span) ts r h = goes_mark Raw span ts r h
  statement_mark (inline_expr e span) ts r h = goes_mark BeginExpr h.0 ts h.2 h.4
  statement_mark (include name context) ts r h = block_mark (codes "include") ts h.0 h.3
  statement_mark (block opening e body other) ts r h = opening_mark opening e ts h.0 h.2

  pub same_mark : (t u : Statement) (ts us r x : List Lexeme) → ts ≡ us → IsStatement s t ts r → IsStatement s u us x → Some (mark t) ≡ Some (mark u)
  same_mark t u ts us r x same h k = sym (statement_mark t ts r h) ∙ ap (mark_at s) same ∙ statement_mark u us x k

  -- no statement begins there
  abbrev pub NoStatement : List Lexeme → Type 0
  NoStatement ts = (t : Statement) (us x : List Lexeme) → ts ≡ us → IsStatement s t us x → ⊥

  pub block_begins_none : (word : List ℕ) (ts r : List Lexeme) → begins (tagged word) ≡ false → BeginsBlock s word ts r → NoStatement ts
  block_begins_none word ts r none h t us x same k =
      differ (tagged word) (mark t) (sym (block_mark word ts r h) ∙ ap (mark_at s) same ∙ statement_mark t us x k) none (mark_begins t)

  pub end_begins_none : NoStatement []
  end_begins_none t us x same k = let e : None ≡ Some (mark t) = ap (mark_at s) same ∙ statement_mark t us x k in cc
