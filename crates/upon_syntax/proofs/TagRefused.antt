-- A tag whose tokens go no further: what the code reports is the text's first fault.
use Rattle.std.proofs.Common.{◌≡◌, inl, inr, ◌⊎◌, ℕ, List, [], ◌∷◌, ◌++◌, length, Bool, true, false, Option, Some, None, refl, sym, ap, ◌∙◌, subst, codes, if◌then◌else◌}
use Rattle.std.proofs.lemmas.List.{append-nil}
use Rattle.upon_types.specs.declared.types.Span.{Span}
use Rattle.upon_types.specs.declared.types.token.Token.{Token}
use Rattle.upon_types.specs.declared.types.token.Token.TheVariants.{Index, Number, String}
use Rattle.upon_types.specs.declared.error.Error.{Error}
use Rattle.upon_types.specs.Error.{fault_of}
use Rattle.upon_types.specs.Fault.{OrMemory}
use Rattle.upon_language_spec.specs.Search.{DelimiterText}
use Rattle.upon_language_spec.specs.Delimiters.{Sort, expression, block, comment, end_token}
use Rattle.upon_language_spec.specs.Cut.{Lexeme, outside, in_tag, IsToken}
use Rattle.upon_language_spec.specs.Tokens.{is_space, without_spaces}
use Rattle.upon_language_spec.specs.Tags.{symbols_of, word_of}
use Rattle.upon_language_spec.specs.Keys.{Key, keyword_of}
use Rattle.upon_language_spec.specs.Faults.{span_of, lexeme_at}
use Rattle.upon_language_spec.specs.LaterFaults.{Report}
use Rattle.upon_language_spec.specs.CutFaults.{ClearTo}
use Rattle.upon_language_spec.specs.FirstFault.{IsFirstFault}
use Rattle.upon_language_spec.specs.LiteralWords.{fits_word}
use Rattle.upon_language_spec.specs.Parts.{Part, after, Path, wanted_at}
use Rattle.upon_language_spec.specs.Wanted.{Wanted, reason_for, wanted_at_end, expected_found}
use Rattle.upon_language_spec.specs.InTags.{last_or, ends_a_tag}
use Rattle.upon_language_spec.proofs.NoTreeWithFault.InsideTag.{end_is_no_space}
use Rattle.upon_language_spec.proofs.Wanted.LiteralWords.{Decided, number_decided, string_decided, index_decided}
use Rattle.upon_lexer.specs.declared.literal.Lexed.{Lexed}
use Rattle.upon_lexer.specs.declared.literal_fault.Refusal.{Refusal}
use Rattle.upon_tag_parser.specs.declared.compile.parse.want.Want.{Want}
use Rattle.upon_syntax.specs.declared.compile.parse.tag_tokens.Ended.{Ended}
use Rattle.upon_syntax.specs.declared.compile.parse.tag_tokens.Ended.TheVariants.{End, Fault as CutFault, Literal, Eof}
use Rattle.upon_lexer.specs.Literals.{lexeme_of}
use Rattle.upon_lexer.specs.LiteralReasons.{report_of, literal_reason}
use Rattle.upon_tag_parser.specs.TagTokens.{lexemes_of}
use Rattle.upon_tag_parser.specs.TagParsing.{Refuses}
use Rattle.upon_syntax.specs.TagReading.{IsSyntaxError}
use Rattle.upon_syntax.specs.TagEnds.{syntax_fault, tag_end, DenotesNothing, ReadsEnd, ReadsWrong, ReportsCut, EndsBy}
use Rattle.upon_syntax.specs.TagFaults.{token_fault, GoesNoFurther}
use Rattle.upon_tag_parser.specs.Wants.{wanted_of}
use Rattle.upon_syntax.proofs.CutParts.{cut_rest}
use Rattle.upon_syntax.proofs.ReadTag.{reads_on, stuck_inside, stuck_next, stuck_eof, stuck_cut, stuck_literal}

-- tokens that are left without whitespace are none
abbrev EachCounts : List Lexeme → Type 0
EachCounts [] = Unit {0}
EachCounts (l ∷ ls) = (is_space l.token ≡ false) × EachCounts ls

each_counts : (xs : List Lexeme) → EachCounts (without_spaces xs)
each_counts [] = tt
each_counts (x ∷ xs) = by_space (is_space x.token) refl (each_counts xs)
  where
    by_space : (b : Bool) → is_space x.token ≡ b → EachCounts (without_spaces xs) → EachCounts (if b then without_spaces xs else (x ∷ without_spaces xs))
    by_space true e others = others
    by_space false e others = (e, others)

counts_at : (read others : List Lexeme) (l : Lexeme) → EachCounts (read ++ l ∷ others) → is_space l.token ≡ false
counts_at [] others l h = h.0
counts_at (k ∷ ks) others l h = counts_at ks others l h.1

-- a literal that denotes nothing may be there exactly where the wanted word says so
decided : (s : List ℕ) (before : Option Lexeme) (t : Token) (span : Span) (report : Report) (ps : List Part) (k : Key) → DenotesNothing s before t span report → Decided t (wanted_at ps) (after ps t k)
decided s before Number span report ps k wrong = number_decided ps k
decided s before Index span report ps k wrong = index_decided ps k
decided s before String span report ps k wrong = string_decided ps k
decided s before t span report ps k wrong = absurd wrong

no_literal_space : (s : List ℕ) (before : Option Lexeme) (t : Token) (span : Span) (report : Report) → DenotesNothing s before t span report → is_space t ≡ false
no_literal_space s before Number span report wrong = refl
no_literal_space s before Index span report wrong = refl
no_literal_space s before String span report wrong = refl
no_literal_space s before t span report wrong = absurd wrong

-- what is reported is the first fault, or that there was no memory
pub told : (delimiters : List DelimiterText) (s : List ℕ) (span : Span) (reason : List ℕ) (e : Error) → IsFirstFault delimiters s span reason → OrMemory (syntax_fault s span reason) (fault_of e) → IsSyntaxError delimiters s e
told delimiters s span reason e first (inl same) = inr (span, reason, first, same)
told delimiters s span reason e first (inr memory) = inl memory

module _ (delimiters : List DelimiterText) (s : List ℕ) (want : Want) (tokens_left : List Lexed) (ended : Ended) (g : GoesNoFurther delimiters s want tokens_left ended) where
  -- a token inside may not be there
  pub refused_inside : (found : Lexed) (others : List Lexed) (e : Error) → tokens_left ≡ found ∷ others → OrMemory (token_fault s (wanted_of want) found) (fault_of e) → IsSyntaxError delimiters s e
  refused_inside found others e same fault = by_refused g.refuses
    where
      splits : g.tokens ≡ g.leads.read ++ lexeme_of found ∷ lexemes_of others
      splits = g.leads.splits ∙ ap (λ (x : List Lexed). g.leads.read ++ lexemes_of x) same

      counts : is_space found.token ≡ false
      counts = let F : List Lexeme → Type 0 = λ x. EachCounts x in counts_at g.leads.read (lexemes_of others) (lexeme_of found) (subst F (g.tag.reads.reads.same ∙ splits) (each_counts g.tag.reads.reads.inner))

      by_refused : Refuses s g.to (lexemes_of tokens_left) ⊎ ((tokens_left ≡ []) × (tag_end ended ≡ None)) → IsSyntaxError delimiters s e
      by_refused (inl refused) =
          let F : List Lexed → Type 0 = λ x. Refuses s g.to (lexemes_of x) in
          let first = stuck_inside delimiters s g.sort g.ls g.from g.tokens g.after ended g.tag g.leads.read (lexemes_of others) (lexeme_of found) g.to (wanted_of want) splits g.leads.path counts (subst F same refused) g.wants in
          told delimiters s found.span (reason_for (wanted_of want) found.token (word_of s found.token found.span)) e first fault
      by_refused (inr none) = let no : found ∷ others ≡ [] = sym same ∙ none.0 in absurd (cc)

  -- all the tokens lead on
  module _ (empty : tokens_left ≡ []) where
    leads_all : Path g.from (symbols_of s g.tokens) g.to
    leads_all =
        let all : g.tokens ≡ g.leads.read = g.leads.splits ∙ ap (λ (x : List Lexed). g.leads.read ++ lexemes_of x) empty ∙ append-nil g.leads.read in
        let F : List Lexeme → Type 0 = λ x. Path g.from (symbols_of s x) g.to in
        subst F (sym all) g.leads.path

    abbrev here : ℕ
    here = g.tag.reads.left.offset

    abbrev all : List Lexeme
    all = g.ls ++ g.tag.reads.reads.inner

    abbrev Ends : Ended → Type 0
    Ends x = EndsBy delimiters s g.sort all g.tag.reads.reads.path (last_or None g.tokens) g.tag.reads.left g.after x

    ends_by : (x : Ended) → ended ≡ x → Ends x
    ends_by x e = subst Ends e g.tag.reads.ends

    -- the token that is read next
    at_token : (l : Lexed) (hyphen : Bool) → l.span.m ≡ here → IsToken delimiters s (in_tag g.sort g.tag.reads.reads.path) l.token hyphen here l.span.n → ClearTo delimiters s l.span.n → is_space l.token ≡ false → after g.to l.token (keyword_of (word_of s l.token (span_of here l.span.n))) ≡ None → (e : Error) → OrMemory (token_fault s (wanted_of want) l) (fault_of e) → IsSyntaxError delimiters s e
    at_token l hyphen from step clear counts refused e fault =
        let at : span_of here l.span.n ≡ l.span = λ i. record { m = sym from i; n = l.span.n } in
        let F : Span → Type 0 = λ x. IsFirstFault delimiters s x (reason_for (wanted_of want) l.token (word_of s l.token x)) in
        let first = stuck_next delimiters s g.sort g.ls g.from g.tokens g.after ended g.tag g.to leads_all l.token hyphen l.span.n (wanted_of want) step clear counts refused g.wants in
        told delimiters s l.span (reason_for (wanted_of want) l.token (word_of s l.token l.span)) e (subst F at first) fault

    -- the tag's end may not be there
    pub refused_at_end : (l : Lexed) (e : Error) → ended ≡ End l → OrMemory (token_fault s (wanted_of want) l) (fault_of e) → IsSyntaxError delimiters s e
    refused_at_end l e is fault = at_token l end.hyphen end.from (inl (end.of_token, end.ends)) clear (ap is_space end.of_token ∙ end_is_no_space g.sort) (by_refused g.refuses) e fault
      where
        end : ReadsEnd delimiters s g.sort all g.tag.reads.left g.after l
        end = ends_by (End l) is

        clear : ClearTo delimiters s l.span.n
        clear =
            let reads = reads_on delimiters s g.sort g.ls g.from g.tokens g.after ended g.tag in
            let cut = cut_rest delimiters s outside (in_tag g.sort g.tag.reads.reads.path) g.after.mode 0 here g.after.offset all (lexeme_at (end_token g.sort) end.hyphen here l.span.n ∷ []) reads end.read.reads in
            let F : ℕ → Type 0 = λ x. ClearTo delimiters s x in
            subst F (sym cut.2.1) end.read.clear

        by_sort : (x : Sort) (k : Key) → ends_a_tag (end_token x) ≡ true → Refuses s g.to [] → after g.to (end_token x) k ≡ None
        by_sort expression k h r = (r k).0
        by_sort block k h r = (r k).1
        by_sort comment k h r = absurd cc

        by_refused : Refuses s g.to (lexemes_of tokens_left) ⊎ ((tokens_left ≡ []) × (tag_end ended ≡ None)) → after g.to l.token (keyword_of (word_of s l.token (span_of here l.span.n))) ≡ None
        by_refused (inl refused) =
            let F : List Lexed → Type 0 = λ x. Refuses s g.to (lexemes_of x) in
            ap (λ (t : Token). after g.to t (keyword_of (word_of s l.token (span_of here l.span.n)))) end.of_token ∙ by_sort g.sort (keyword_of (word_of s l.token (span_of here l.span.n))) g.tag.of_tag (subst F empty refused)
        by_refused (inr none) = let no : Some l ≡ None = sym (ap tag_end is) ∙ none.1 in absurd (cc)

    -- the text can't be cut further, or there was no memory
    pub refused_at_fault : (e : Error) → ended ≡ CutFault e → IsSyntaxError delimiters s e
    refused_at_fault e is = by_report (ends_by (CutFault e) is)
      where
        by_report : ReportsCut delimiters s here e → IsSyntaxError delimiters s e
        by_report (inl memory) = inl memory
        by_report (inr (span, reason, first, same)) = inr (span, reason, stuck_cut delimiters s g.sort g.ls g.from g.tokens g.after ended g.tag g.to leads_all span reason first, same)

    -- the text ends
    pub refused_at_eof : (e : Error) → ended ≡ Eof → OrMemory (syntax_fault s (span_of (length s) (length s)) (expected_found (wanted_at_end (wanted_of want)) (codes "EOF"))) (fault_of e) → IsSyntaxError delimiters s e
    refused_at_eof e is fault =
        let at : here ≡ length s = ends_by Eof is in
        let reason = expected_found (wanted_at_end (wanted_of want)) (codes "EOF") in
        let F : ℕ → Type 0 = λ x. IsFirstFault delimiters s (span_of x x) reason in
        told delimiters s (span_of (length s) (length s)) reason e (subst F at (stuck_eof delimiters s g.sort g.ls g.from g.tokens g.after ended g.tag g.to leads_all (wanted_of want) at g.wants)) fault

    -- a literal denotes nothing
    module _ (l : Lexed) (refusal : Refusal) (is : ended ≡ Literal l refusal) (e : Error) where
      abbrev wrong : ReadsWrong delimiters s g.tag.reads.reads.path g.tag.reads.left (last_or None g.tokens) l refusal
      wrong = ends_by (Literal l refusal) is

      placed : l.span ≡ span_of here l.span.n
      placed = λ i. record { m = wrong.from i; n = l.span.n }

      by_word : Decided l.token (Some (wanted_of want)) (after g.to l.token (keyword_of (word_of s l.token (span_of here l.span.n))))
      by_word =
          let F : Option Wanted → Type 0 = λ o. Decided l.token o (after g.to l.token (keyword_of (word_of s l.token (span_of here l.span.n)))) in
          subst F g.wants (decided s (last_or None g.tokens) l.token l.span (report_of refusal) g.to (keyword_of (word_of s l.token (span_of here l.span.n))) wrong.wrong)

      pub refused_literal : fits_word l.token (wanted_of want) ≡ true → OrMemory (syntax_fault s refusal.span (literal_reason refusal.fault)) (fault_of e) → IsSyntaxError delimiters s e
      refused_literal fits fault =
          let next = rw fits at by_word in
          let F : Span → Type 0 = λ x. DenotesNothing s (last_or None g.tokens) l.token x (report_of refusal) in
          told delimiters s refusal.span (literal_reason refusal.fault) e (stuck_literal delimiters s g.sort g.ls g.from g.tokens g.after ended g.tag g.to leads_all l.token l.span.n (report_of refusal) next.0 wrong.inside (subst F placed wrong.wrong) next.1) fault

      pub refused_token : fits_word l.token (wanted_of want) ≡ false → OrMemory (token_fault s (wanted_of want) l) (fault_of e) → IsSyntaxError delimiters s e
      refused_token fits fault = at_token l false wrong.from (inr (refl, wrong.inside)) wrong.clear (no_literal_space s (last_or None g.tokens) l.token l.span (report_of refusal) wrong.wrong) (rw fits at by_word) e fault
