-- A text with a fault of cutting, or that ends in a tag or a comment, is not cut whole: it has no tree.
use Rattle.std.proofs.Common.{◌≡◌, inl, inr, ℕ, ◌+◌, ◌<◌, ◌≤◌, List, [], ◌∷◌, length, Bool, Some, None, refl, sym, ap, ◌∙◌, subst, arith, encode_utf8, lit<}
use Rattle.upon_types.specs.declared.types.Span.{Span}
use Rattle.upon_types.specs.declared.types.Delimiter.{Delimiter}
use Rattle.upon_types.specs.declared.types.Delimiter.TheVariants.{BeginExpr, EndExpr, BeginExprTrim, EndExprTrim, BeginBlock, EndBlock, BeginBlockTrim, EndBlockTrim, BeginComment, EndComment, BeginCommentTrim, EndCommentTrim}
use Rattle.upon_types.specs.declared.types.token.Token.{Token}
use Rattle.upon_types.specs.declared.types.token.Token.TheVariants.{QuestionDot, Ident, String}
use Rattle.upon_types.specs.Tree.{Statements}
use Rattle.upon_language_spec.specs.Search.{DelimiterText, HasTexts, Occurs, NoneAt}
use Rattle.upon_language_spec.specs.Delimiters.{Sort, comment, begin_sort, end_sort}
use Rattle.upon_language_spec.specs.Cut.{Lexeme, Mode, outside, in_tag, in_comment, Begins, Ends, Cut}
use Rattle.upon_language_spec.specs.Inside.{token_kind, Extent, start_kind, IsInside, IsQuoted}
use Rattle.upon_language_spec.proofs.OneCut.Delimiter.{one_stands, not_bare, stands_ends}
use Rattle.upon_language_spec.proofs.OneCut.Raw.{raw_is_no_delimiter}
use Rattle.upon_language_spec.proofs.OneCut.Run.{one_char, char_has_bytes}
use Rattle.upon_language_spec.proofs.OneCut.Inside.{cases_begin}
use Rattle.upon_language_spec.proofs.SpansLieIn.Offsets.{occurs_within}
use Rattle.std.proofs.lemmas.Str.{encode_ascii}
use Rattle.upon_language_spec.proofs.OneCut.Cut.{NoStep, no_cut, no_cut_inside}
use Rattle.upon_language_spec.specs.Grammar.{HasTree}
use Rattle.upon_language_spec.specs.Faults.{UnexpectedEnd, UnclosedTag, UnexpectedCharacter, UndelimitedString, UnexpectedEof, awaited_sort, BeginsNoToken}
use Rattle.upon_language_spec.specs.LaterFaults.{CommentEof}

kind_of_question : (path : Bool) → token_kind path 63 ≡ Some QuestionDot
kind_of_question path = refl

kind_of_quote : (path : Bool) → token_kind path 34 ≡ Some String
kind_of_quote path = refl

-- no delimiter both begins and ends
both_sorts : (kind : Delimiter) (a b : Sort) → begin_sort kind ≡ Some a → end_sort kind ≡ Some b → ⊥
both_sorts BeginExpr a b x y = cc
both_sorts BeginExprTrim a b x y = cc
both_sorts BeginBlock a b x y = cc
both_sorts BeginBlockTrim a b x y = cc
both_sorts BeginComment a b x y = cc
both_sorts BeginCommentTrim a b x y = cc
both_sorts EndExpr a b x y = cc
both_sorts EndExprTrim a b x y = cc
both_sorts EndBlock a b x y = cc
both_sorts EndBlockTrim a b x y = cc
both_sorts EndComment a b x y = cc
both_sorts EndCommentTrim a b x y = cc

module _ (delimiters : List DelimiterText) (s : List ℕ) (texts : HasTexts delimiters) where
  -- where nothing steps before the end of the text
  stuck : (mode : Mode) (p : ℕ) (ls : List Lexeme) (tree : Statements) → Cut delimiters s outside 0 ls mode p → NoStep delimiters s mode p → p < length s → HasTree delimiters s tree → ⊥
  stuck mode p ls tree reads none l h = no_cut delimiters s mode outside p (length s) ls h.lexemes texts reads none l h.cut

  pub one_sort : (a b : Sort) (h k : Bool) (p m n : ℕ) → Ends delimiters s a h p m → Ends delimiters s b k p n → a ≡ b
  one_sort a b h k p m n x y =
      let e = one_stands delimiters s x.kind y.kind p m n x.occurs y.occurs in
      let kinds : x.kind ≡ y.kind = e.0 in
      let sorts : Some a ≡ Some b = sym x.of_sort ∙ ap end_sort kinds ∙ y.of_sort in
      cc

  pub begin_is_no_end : (a : Sort) (h : Bool) (b : Sort) (k : Bool) (p m n : ℕ) → Ends delimiters s a h p m → Begins delimiters s b k p n → ⊥
  begin_is_no_end a h b k p m n x y =
      let e = one_stands delimiters s x.kind y.kind p m n x.occurs y.occurs in
      both_sorts y.kind b a y.of_sort (sym (ap end_sort e.0) ∙ x.of_sort)

  -- an end that the mode does not await
  pub no_step_at_end : (mode : Mode) (sort : Sort) (hyphen : Bool) (p to : ℕ) → Ends delimiters s sort hyphen p to → (awaited_sort mode ≡ Some sort → ⊥) → NoStep delimiters s mode p
  no_step_at_end outside sort hyphen p to e h t k n (inl r) = raw_is_no_delimiter delimiters s e.kind p n to r.2 e.occurs
  no_step_at_end outside sort hyphen p to e h t k n (inr b) = begin_is_no_end sort hyphen b.0 k p to n e b.2
  no_step_at_end (in_tag other path) sort hyphen p to e h t k n (inl x) = h (ap Some (one_sort other sort k hyphen p n to x.1 e))
  no_step_at_end (in_tag other path) sort hyphen p to e h t k n (inr x) = not_bare delimiters s e.kind p to e.occurs x.1.bare
  no_step_at_end in_comment sort hyphen p to e h t k n (inl r) = raw_is_no_delimiter delimiters s e.kind p n to r.2 e.occurs
  no_step_at_end in_comment sort hyphen p to e h t k n (inr x) = h (ap Some (one_sort comment sort k hyphen p n to x.1 e))

  -- a begin in a tag or a comment
  pub no_step_at_begin : (mode : Mode) (sort begin_sort : Sort) (hyphen : Bool) (p to : ℕ) → awaited_sort mode ≡ Some sort → Begins delimiters s begin_sort hyphen p to → NoStep delimiters s mode p
  no_step_at_begin outside sort begin_sort hyphen p to a b t k n x = absurd cc
  no_step_at_begin (in_tag other path) sort begin_sort hyphen p to a b t k n (inl x) = begin_is_no_end other k begin_sort hyphen p n to x.1 b
  no_step_at_begin (in_tag other path) sort begin_sort hyphen p to a b t k n (inr x) = not_bare delimiters s b.kind p to b.occurs x.1.bare
  no_step_at_begin in_comment sort begin_sort hyphen p to a b t k n (inl r) = raw_is_no_delimiter delimiters s b.kind p n to r.2 b.occurs
  no_step_at_begin in_comment sort begin_sort hyphen p to a b t k n (inr x) = begin_is_no_end comment k begin_sort hyphen p n to x.1 b

  pub no_tree_unexpected_end : (p : ℕ) (place : Span) (reason : List ℕ) → UnexpectedEnd delimiters s p place reason → (tree : Statements) → HasTree delimiters s tree → ⊥
  no_tree_unexpected_end p place reason f tree h =
      let ends = stands_ends delimiters s f.ends.kind p f.to texts f.ends.occurs in
      stuck f.mode p f.lexemes tree f.reads (no_step_at_end f.mode f.sort f.hyphen p f.to f.ends f.unexpected) (omega (arith, ends.0, ends.1)) h

  pub no_tree_unclosed_tag : (p : ℕ) (place : Span) (reason : List ℕ) → UnclosedTag delimiters s p place reason → (tree : Statements) → HasTree delimiters s tree → ⊥
  no_tree_unclosed_tag p place reason f tree h =
      let ends = stands_ends delimiters s f.begins.kind p f.to texts f.begins.occurs in
      stuck f.mode p f.lexemes tree f.reads (no_step_at_begin f.mode f.sort f.opening f.hyphen p f.to f.awaits f.begins) (omega (arith, ends.0, ends.1)) h

  inside_is_not_outside : (sort : Sort) (path : Bool) → in_tag sort path ≡ outside → ⊥
  inside_is_not_outside sort path e = cc

  comment_is_not_outside : in_comment ≡ outside → ⊥
  comment_is_not_outside e = cc

  pub no_tree_unexpected_eof : (p : ℕ) (place : Span) (reason : List ℕ) → UnexpectedEof delimiters s p place reason → (tree : Statements) → HasTree delimiters s tree → ⊥
  no_tree_unexpected_eof p place reason f tree h =
      let F : ℕ → Type 0 = λ q. Cut delimiters s outside 0 f.lexemes (in_tag f.sort f.in_path) q in
      no_cut_inside delimiters s (in_tag f.sort f.in_path) f.lexemes h.lexemes texts (subst F f.eof f.reads) (inside_is_not_outside f.sort f.in_path) h.cut

  pub no_tree_comment_eof : (p : ℕ) (place : Span) (reason : List ℕ) → CommentEof delimiters s p place reason → (tree : Statements) → HasTree delimiters s tree → ⊥
  no_tree_comment_eof p place reason f tree h =
      let F : ℕ → Type 0 = λ q. Cut delimiters s outside 0 f.lexemes in_comment q in
      no_cut_inside delimiters s in_comment f.lexemes h.lexemes texts (subst F f.eof f.reads) comment_is_not_outside h.cut

  begun_as : (t u : Token) → start_kind t ≡ u → (u ≡ Ident → ⊥) → t ≡ u
  begun_as t u e other = elim (cases_begin t) [ inl same ↦ same ∙ e | inr keyword ↦ absurd (other (sym e ∙ ap start_kind keyword)) ]

  question_is_no_name : QuestionDot ≡ Ident → ⊥
  question_is_no_name e = cc

  string_is_no_name : String ≡ Ident → ⊥
  string_is_no_name e = cc

  -- a character that begins no token
  no_token : (path : Bool) (c p to : ℕ) → BeginsNoToken s path c p to → (t : Token) (n : ℕ) → Occurs s p (encode_utf8 c) → IsInside delimiters s path t p n → ⊥
  no_token path c p to (inl none) t n o x =
      let same : x.first ≡ c = one_char s p x.first c x.occurs o in
      let some : token_kind path c ≡ Some (start_kind t) = sym (ap (token_kind path) same) ∙ x.of_kind in
      let nothing : token_kind path c ≡ None = none.0 in
      cc
  no_token path c p to (inr question) t n o x =
      let same : x.first ≡ 63 = one_char s p x.first c x.occurs o ∙ question.0 in
      let kinds : Some QuestionDot ≡ Some (start_kind t) = sym (kind_of_question path) ∙ sym (ap (token_kind path) same) ∙ x.of_kind in
      let begins : start_kind t ≡ QuestionDot = cc in
      let F : Token → Type 0 = λ y. Extent s y p n in
      let extent : Extent s QuestionDot p n = subst F (begun_as t QuestionDot begins question_is_no_name) x.extent in
      question.1 extent.0

  pub no_step_at_character : (sort : Sort) (path : Bool) (c p to : ℕ) → NoneAt delimiters s p → Occurs s p (encode_utf8 c) → BeginsNoToken s path c p to → NoStep delimiters s (in_tag sort path) p
  no_step_at_character sort path c p to bare o none t k n (inl x) = not_bare delimiters s x.1.kind p n x.1.occurs bare
  no_step_at_character sort path c p to bare o none t k n (inr x) = no_token path c p to none t n o x.1

  pub no_tree_unexpected_character : (p : ℕ) (place : Span) (reason : List ℕ) → UnexpectedCharacter delimiters s p place reason → (tree : Statements) → HasTree delimiters s tree → ⊥
  no_tree_unexpected_character p place reason f tree h =
      stuck (in_tag f.sort f.in_path) p f.lexemes tree f.reads (no_step_at_character f.sort f.in_path f.c p f.to f.bare f.occurs f.nothing) (omega (arith, occurs_within s p (encode_utf8 f.c) (char_has_bytes f.c) f.occurs, char_has_bytes f.c)) h

  -- a quote that begins no string
  no_string : (path : Bool) (p : ℕ) → Occurs s p (34 ∷ []) → ((n : ℕ) → IsQuoted s p n → ⊥) → (t : Token) (n : ℕ) → IsInside delimiters s path t p n → ⊥
  no_string path p o none t n x =
      let quote : Occurs s p (encode_utf8 34) = subst (Occurs s p) (sym (encode_ascii 34 (lit< tt))) o in
      let same : x.first ≡ 34 = one_char s p x.first 34 x.occurs quote in
      let kinds : Some String ≡ Some (start_kind t) = sym (kind_of_quote path) ∙ sym (ap (token_kind path) same) ∙ x.of_kind in
      let begins : start_kind t ≡ String = cc in
      let F : Token → Type 0 = λ y. Extent s y p n in
      none n (subst F (begun_as t String begins string_is_no_name) x.extent)

  pub no_step_at_quote : (sort : Sort) (path : Bool) (p : ℕ) → NoneAt delimiters s p → Occurs s p (34 ∷ []) → ((n : ℕ) → IsQuoted s p n → ⊥) → NoStep delimiters s (in_tag sort path) p
  no_step_at_quote sort path p bare o none t k n (inl x) = not_bare delimiters s x.1.kind p n x.1.occurs bare
  no_step_at_quote sort path p bare o none t k n (inr x) = no_string path p o none t n x.1

  one_more : (p : ℕ) → p + 1 ≤ length s → p < length s
  one_more p l = omega arith

  pub no_tree_undelimited_string : (p : ℕ) (place : Span) (reason : List ℕ) → UndelimitedString delimiters s p place reason → (tree : Statements) → HasTree delimiters s tree → ⊥
  no_tree_undelimited_string p place reason f tree h =
      stuck (in_tag f.sort f.in_path) p f.lexemes tree f.reads (no_step_at_quote f.sort f.in_path p f.bare f.quote f.no_string) (one_more p (occurs_within s p (34 ∷ []) (lit< tt) f.quote)) h
