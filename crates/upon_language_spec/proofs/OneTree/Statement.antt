-- Tokens are one statement at most, where they are one body at most.
use Rattle.std.proofs.Common.{◌≡◌, ℕ, List, Option, Bool, false, inl, inr, refl, sym, ap, ◌∙◌, subst, codes, Some}
use Rattle.upon_types.specs.declared.types.Span.{Span}
use Rattle.upon_types.specs.declared.types.token.Token.TheVariants.{Raw, BeginExpr, EndExpr}
use Rattle.upon_types.specs.Path.{Ident}
use Rattle.upon_types.specs.Expression.{Expression}
use Rattle.upon_types.specs.BlockKinds.{Block, if_block, Opening, if_tag, opened_kind, block_word, end_word}
use Rattle.upon_types.specs.Tree.{Statement, raw, inline_expr, include, block, Statements, no_statements, statement_then, Else, no_else, otherwise}
use Rattle.upon_language_spec.specs.Cut.{Lexeme}
use Rattle.upon_language_spec.specs.Tokens.{GoesKeyword, from_to}
use Rattle.upon_language_spec.specs.Grammar.{BeginsBlock, IsWordTag, IsStatement, AreStatements, IsBlockEnd, IsElseIf, IsIfAfterElse}
use Rattle.upon_language_spec.proofs.BlockKinds.{else_is_no_end, block_is_no_include}
use Rattle.upon_language_spec.proofs.OneTree.Token.{one_goes, one_string}
use Rattle.upon_language_spec.proofs.OneTree.Expression.{one_expression}
use Rattle.upon_language_spec.proofs.OneTree.Mark.{tagged, begins, end_begins_nothing, same_mark, NoStatement, block_begins_none}
use Rattle.upon_language_spec.proofs.OneTree.Block.{expression_ends_at, word_ends_no_tag, one_begins_block, one_word_tag, one_opening, one_else_if_tag, one_context}

abbrev pub OneStatement : List ℕ → Statement → Type 0
OneStatement s t = (u : Statement) (ts us r x : List Lexeme) → ts ≡ us → IsStatement s t ts r → IsStatement s u us x → (t ≡ u) × (r ≡ x)

abbrev pub OneStatements : List ℕ → Statements → Type 0
OneStatements s a = (b : Statements) (ts us r x : List Lexeme) → ts ≡ us → AreStatements s a ts r → NoStatement s r → AreStatements s b us x → NoStatement s x → (a ≡ b) × (r ≡ x)

abbrev pub OneBlockEnd : List ℕ → Block → Else → Type 0
OneBlockEnd s kind a = (b : Else) (ts us r x : List Lexeme) → ts ≡ us → IsBlockEnd s kind a ts r → IsBlockEnd s kind b us x → (a ≡ b) × (r ≡ x)

abbrev pub OneElseIf : List ℕ → Statements → Type 0
OneElseIf s a = (b : Statements) (ts us r x : List Lexeme) → ts ≡ us → IsElseIf s a ts r → IsElseIf s b us x → (a ≡ b) × (r ≡ x)

abbrev pub OneIfAfterElse : List ℕ → Statement → Type 0
OneIfAfterElse s t = (u : Statement) (ts us r x : List Lexeme) → ts ≡ us → IsIfAfterElse s t ts r → IsIfAfterElse s u us x → (t ≡ u) × (r ≡ x)

module _ (s : List ℕ) where
  -- `else` and after it `if`
  else_if_words : (t : Statement) (ts r : List Lexeme) → IsIfAfterElse s t ts r → (start mid : List Lexeme) × BeginsBlock s (codes "else") ts start × GoesKeyword s (codes "if") start mid
  else_if_words (block (if_tag negated) e body other) ts r h = (h.2.0, h.2.1, h.2.3, h.2.4)
  else_if_words t ts r h = absurd h

  else_if_begins : (body : Statements) (ts r : List Lexeme) → IsElseIf s body ts r → (start mid : List Lexeme) × BeginsBlock s (codes "else") ts start × GoesKeyword s (codes "if") start mid
  else_if_begins no_statements ts r h = absurd h
  else_if_begins (statement_then t no_statements) ts r h = else_if_words t ts r h
  else_if_begins (statement_then t (statement_then u us)) ts r h = absurd h

  -- a body ends where a tag of a word begins that begins no statement
  word_ends_body : (word : List ℕ) (ts r : List Lexeme) → begins (tagged word) ≡ false → IsWordTag s word ts r → NoStatement s ts
  word_ends_body word ts r none h = block_begins_none s word ts h.0 none h.1

  -- a body ends where its block's other branch or end begins
  end_ends_body : (kind : Block) (other : Else) (ts r : List Lexeme) → IsBlockEnd s kind other ts r → NoStatement s ts
  end_ends_body kind no_else ts r h = word_ends_body (end_word kind) ts r (end_begins_nothing kind) h
  end_ends_body kind (otherwise body) ts r (inl h) = block_begins_none s (codes "else") ts h.3.0 refl h.3.1
  end_ends_body kind (otherwise body) ts r (inr h) = let b = else_if_begins body ts r h.1 in block_begins_none s (codes "else") ts b.0 refl b.2

  -- a body, and the other branch or the end of its block
  one_branches : (kind : Block) (body rest : Statements) (a b : Else) (ts us after after' r x : List Lexeme) → OneStatements s body → OneBlockEnd s kind a → ts ≡ us
      → AreStatements s body ts after → IsBlockEnd s kind a after r → AreStatements s rest us after' → IsBlockEnd s kind b after' x → (body ≡ rest) × (a ≡ b) × (r ≡ x)
  one_branches kind body rest a b ts us after after' r x bodies ends same h p k q =
      let o = bodies rest ts us after after' same h (end_ends_body kind a after r p) k (end_ends_body kind b after' x q) in
      let e = ends b after after' r x o.1 p q in
      (o.0, e.0, e.1)

  pub one_raw : (span : Span) → OneStatement s (raw span)
  one_raw span (raw place) ts us r x same h k = let o = one_goes Raw Raw span place ts us r x same h k in (ap raw o.1, o.2)
  one_raw span u ts us r x same h k = let e = same_mark s (raw span) u ts us r x same h k in absurd (cc)

  pub one_inline : (e : Expression) (span : Span) → OneStatement s (inline_expr e span)
  one_inline e span (inline_expr f place) ts us r x same h k =
      let b = one_goes BeginExpr BeginExpr h.0 k.0 ts us h.2 k.2 same h.4 k.4 in
      let o = one_expression s e f h.2 k.2 h.3 k.3 b.2 h.5 (expression_ends_at EndExpr h.3 r refl refl refl (h.1, h.6)) k.5 (expression_ends_at EndExpr k.3 x refl refl refl (k.1, k.6)) in
      let l = one_goes EndExpr EndExpr h.1 k.1 h.3 k.3 r x o.1 h.6 k.6 in
      let tree : e ≡ f = o.0 in
      let from : h.0 ≡ k.0 = b.1 in
      let to : h.1 ≡ k.1 = l.1 in
      let at : span ≡ place = h.7 ∙ (λ i. from_to (from i) (to i)) ∙ sym k.7 in
      ((λ i. inline_expr (tree i) (at i)), l.2)
  one_inline e span u ts us r x same h k = let e = same_mark s (inline_expr e span) u ts us r x same h k in absurd (cc)

  pub one_include : (name : Ident) (context : Option Expression) → OneStatement s (include name context)
  one_include name context (include word other) ts us r x same h k =
      let start = (one_begins_block s (codes "include") (codes "include") ts us h.0 k.0 same h.3 k.3).1 in
      let n = one_string s name word h.0 k.0 h.1 k.1 start h.4 k.4 in
      let c = one_context s context other h.1 k.1 h.2 k.2 r x n.1 h.5 h.6 k.5 k.6 in
      let named : name ≡ word = n.0 in
      let given : context ≡ other = c.0 in
      ((λ i. include (named i) (given i)), c.1)
  one_include name context (block opening e body last) ts us r x same h k =
      let e : Some (tagged (codes "include")) ≡ Some (tagged (block_word (opened_kind opening))) = same_mark s (include name context) (block opening e body last) ts us r x same h k in
      let word : block_word (opened_kind opening) ≡ codes "include" = cc in
      absurd (block_is_no_include (opened_kind opening) word)
  one_include name context u ts us r x same h k = let e = same_mark s (include name context) u ts us r x same h k in absurd (cc)

  pub one_block : (opening : Opening) (e : Expression) (body : Statements) (other : Else) → OneStatements s body → OneBlockEnd s (opened_kind opening) other → OneStatement s (block opening e body other)
  one_block opening e body other bodies ends (block first f rest last) ts us r x same h k =
      let t = one_opening s opening first e f ts us h.0 k.0 same h.2 k.2 in
      let opened : opening ≡ first = t.0 in
      let F : Opening → Type 0 = λ o. IsBlockEnd s (opened_kind o) last k.1 x in
      let p = one_branches (opened_kind opening) body rest other last h.0 k.0 h.1 k.1 r x bodies ends t.2 h.3 h.4 k.3 (subst F (sym opened) k.4) in
      let tree : e ≡ f = t.1 in
      let inside : body ≡ rest = p.0 in
      let behind : other ≡ last = p.1 in
      ((λ i. block (opened i) (tree i) (inside i) (behind i)), p.2)
  one_block opening e body other bodies ends (include name context) ts us r x same h k =
      let e : Some (tagged (block_word (opened_kind opening))) ≡ Some (tagged (codes "include")) = same_mark s (block opening e body other) (include name context) ts us r x same h k in
      let word : block_word (opened_kind opening) ≡ codes "include" = cc in
      absurd (block_is_no_include (opened_kind opening) word)
  one_block opening e body other bodies ends u ts us r x same h k = let e = same_mark s (block opening e body other) u ts us r x same h k in absurd (cc)

  pub one_if_after_else : (negated : Bool) (e : Expression) (body : Statements) (other : Else) → OneStatements s body → OneBlockEnd s if_block other → OneIfAfterElse s (block (if_tag negated) e body other)
  one_if_after_else negated e body other bodies ends (block (if_tag b) f rest last) ts us r x same h k =
      let t = one_else_if_tag s negated b e f ts us h.0 k.0 same h.2 k.2 in
      let p = one_branches if_block body rest other last h.0 k.0 h.1 k.1 r x bodies ends t.2 h.3 h.4 k.3 k.4 in
      let sign : negated ≡ b = t.0 in
      let tree : e ≡ f = t.1 in
      let inside : body ≡ rest = p.0 in
      let behind : other ≡ last = p.1 in
      ((λ i. block (if_tag (sign i)) (tree i) (inside i) (behind i)), p.2)
  one_if_after_else negated e body other bodies ends u ts us r x same h k = absurd k

  end_is_no_else : (kind : Block) (ts us r start : List Lexeme) → ts ≡ us → IsWordTag s (end_word kind) ts r → BeginsBlock s (codes "else") us start → ⊥
  end_is_no_else kind ts us r start same h k = else_is_no_end kind (sym (one_begins_block s (end_word kind) (codes "else") ts us h.0 start same h.1 k).0)

  no_else_is_no_other : (kind : Block) (body : Statements) (ts us r x : List Lexeme) → ts ≡ us → IsWordTag s (end_word kind) ts r → IsBlockEnd s kind (otherwise body) us x → ⊥
  no_else_is_no_other kind body ts us r x same h (inl k) = end_is_no_else kind ts us r k.3.0 same h k.3.1
  no_else_is_no_other kind body ts us r x same h (inr k) = let b = else_if_begins body us x k.1 in end_is_no_else kind ts us r b.0 same h b.2

  -- `else` alone in its tag is no `else if`
  else_is_no_else_if : (body : Statements) (ts us r x : List Lexeme) → ts ≡ us → IsWordTag s (codes "else") ts r → IsElseIf s body us x → ⊥
  else_is_no_else_if body ts us r x same h k =
      let b = else_if_begins body us x k in
      let start = (one_begins_block s (codes "else") (codes "else") ts us h.0 b.0 same h.1 b.2).1 in
      word_ends_no_tag s (codes "if") b.0 h.0 b.1 r (sym start) b.3 h.2

  pub one_no_else : (kind : Block) → OneBlockEnd s kind no_else
  one_no_else kind no_else ts us r x same h k = (refl, one_word_tag s (end_word kind) ts us r x same h k)
  one_no_else kind (otherwise body) ts us r x same h k = absurd (no_else_is_no_other kind body ts us r x same h k)

  pub one_otherwise : (kind : Block) (body : Statements) → OneStatements s body → OneElseIf s body → OneBlockEnd s kind (otherwise body)
  one_otherwise kind body bodies chain no_else ts us r x same h k = absurd (no_else_is_no_other kind body us ts x r (sym same) k h)
  one_otherwise kind body bodies chain (otherwise rest) ts us r x same (inl h) (inl k) =
      let start = one_word_tag s (codes "else") ts us h.0 k.0 same h.3 k.3 in
      let ends : (us r : List Lexeme) → IsWordTag s (end_word kind) us r → NoStatement s us = λ us r w. word_ends_body (end_word kind) us r (end_begins_nothing kind) w in
      let o = bodies rest h.0 k.0 h.1 k.1 start h.4 (ends h.1 r h.5) k.4 (ends k.1 x k.5) in
      (ap otherwise o.0, one_word_tag s (end_word kind) h.1 k.1 r x o.1 h.5 k.5)
  one_otherwise kind body bodies chain (otherwise rest) ts us r x same (inl h) (inr k) = absurd (else_is_no_else_if rest ts us h.0 x same h.3 k.1)
  one_otherwise kind body bodies chain (otherwise rest) ts us r x same (inr h) (inl k) = absurd (else_is_no_else_if body us ts k.0 r (sym same) k.3 h.1)
  one_otherwise kind body bodies chain (otherwise rest) ts us r x same (inr h) (inr k) = let o = chain rest ts us r x same h.1 k.1 in (ap otherwise o.0, o.1)
