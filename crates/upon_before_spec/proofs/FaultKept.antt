-- A fault of today is one of before, and a fault of before is one of today or an `else` in a `for`.
use Rattle.std.proofs.Common.{◌≡◌, ◌⊎◌, inl, inr, ℕ, List, [], ◌∷◌, ◌++◌, map, Bool, true, false, Option, Some, None, option_map, refl, sym, ap, ◌∙◌, subst, codes}
use Rattle.upon_types.specs.declared.types.Span.{Span}
use Rattle.upon_types.specs.declared.types.token.Token.TheVariants.{EndBlock}
use Rattle.upon_language_spec.specs.Cut.{Lexeme}
use Rattle.upon_types.specs.BlockKinds.{Block, if_block, for_block, with_block}
use Rattle.upon_language_spec.specs.Search.{DelimiterText}
use Rattle.upon_language_spec.specs.Tokens.{significant}
use Rattle.upon_language_spec.specs.Wanted.{in_quotes}
use Rattle.upon_language_spec.specs.Reading.{before_tag}
use Rattle.upon_language_spec.specs.Blocks.{OpenBlock, Closer, else_if, plain_else, end_of, block_takes, takes, open_blocks, outermost}
use Rattle.upon_language_spec.specs.Faults.{tag_tokens, lexeme_at}
use Rattle.upon_language_spec.specs.LaterFaults.{UnexpectedBlock, UnclosedBlock}
use Rattle.upon_language_spec.specs.FirstFault.{SyntaxFault, unexpected_end, unclosed_tag, unclosed_bracket, unexpected_close, unexpected_character, undelimited_string, unexpected_token, unexpected_eof, empty_comment, comment_eof, wrong_number, wrong_index, wrong_escape, unclosed_block, unexpected_block, Holds, IsFirstFault}
use Rattle.upon_before_spec.specs.Blocks.{Block as BlockBefore, for_block as for_before, OpenBlock as OpenBefore, Closer as CloserBefore, else_if as else_if_before, plain_else as plain_else_before, end_if, end_for, end_with, block_takes as block_took, takes as took, outermost as was_outermost, block_word as word_before}
use Rattle.upon_before_spec.specs.Faults.{UnexpectedBlock as WasUnexpected, UnclosedBlock as WasUnclosed, Holds as Held, IsFirstFault as WasFirstFault, ElseInFor}
use Rattle.upon_before_spec.proofs.TagsKept.{tag_now, tag_was, begins_now, begins_was, wanted_now, wanted_was}
use Rattle.upon_before_spec.proofs.BlocksKept.{kind_was, opened_was, closer_was, closer_now, closer_of_was, closing_now, words_were, words_now, word_was, open_was, outermost_was}

block_less : (kind : Block) (has_else : Bool) (closer : Closer) → block_takes kind has_else closer ≡ false → block_took (kind_was kind) has_else (closer_was closer) ≡ false
block_less if_block true else_if h = refl
block_less if_block false else_if h = absurd cc
block_less if_block true plain_else h = refl
block_less if_block false plain_else h = absurd cc
block_less if_block has_else (end_of if_block) h = absurd cc
block_less if_block true (end_of for_block) h = refl
block_less if_block false (end_of for_block) h = refl
block_less if_block true (end_of with_block) h = refl
block_less if_block false (end_of with_block) h = refl
block_less for_block has_else else_if h = refl
block_less for_block has_else plain_else h = refl
block_less for_block has_else (end_of if_block) h = refl
block_less for_block has_else (end_of for_block) h = absurd cc
block_less for_block has_else (end_of with_block) h = refl
block_less with_block has_else else_if h = refl
block_less with_block has_else plain_else h = refl
block_less with_block has_else (end_of if_block) h = refl
block_less with_block has_else (end_of for_block) h = refl
block_less with_block has_else (end_of with_block) h = absurd cc

-- what is refused today was refused before
less : (stack : List OpenBlock) (closer : Closer) → takes stack closer ≡ false → took (map opened_was stack) (closer_was closer) ≡ false
less [] closer h = refl
less (o ∷ stack) closer h = block_less o.kind o.has_else closer h

-- what was refused before is refused today, or is the `else` of a `for`
abbrev ForElse : BlockBefore → Bool → CloserBefore → Type 0
ForElse kind has_else closer = (closer ≡ plain_else_before) × (kind ≡ for_before) × (has_else ≡ false)

block_more : (kind : Block) (has_else : Bool) (closer : CloserBefore) → block_took (kind_was kind) has_else closer ≡ false → (block_takes kind has_else (closer_now closer) ≡ false) ⊎ ForElse (kind_was kind) has_else closer
block_more if_block true else_if_before h = inl refl
block_more if_block false else_if_before h = absurd cc
block_more if_block true plain_else_before h = inl refl
block_more if_block false plain_else_before h = absurd cc
block_more if_block has_else end_if h = absurd cc
block_more if_block has_else end_for h = inl refl
block_more if_block has_else end_with h = inl refl
block_more for_block true else_if_before h = inl refl
block_more for_block false else_if_before h = inl refl
block_more for_block true plain_else_before h = inl refl
block_more for_block false plain_else_before h = inr (refl, refl, refl)
block_more for_block has_else end_if h = inl refl
block_more for_block has_else end_for h = absurd cc
block_more for_block has_else end_with h = inl refl
block_more with_block true else_if_before h = inl refl
block_more with_block false else_if_before h = inl refl
block_more with_block true plain_else_before h = inl refl
block_more with_block false plain_else_before h = inl refl
block_more with_block has_else end_if h = inl refl
block_more with_block has_else end_for h = inl refl
block_more with_block has_else end_with h = absurd cc

abbrev OpenFor : List OpenBefore → CloserBefore → Type 0
OpenFor stack closer = (o : OpenBefore) × (around : List OpenBefore) × (stack ≡ o ∷ around) × ForElse o.kind o.has_else closer

more : (stack : List OpenBlock) (closer : CloserBefore) → took (map opened_was stack) closer ≡ false → (takes stack (closer_now closer) ≡ false) ⊎ OpenFor (map opened_was stack) closer
more [] closer h = inl refl
more (o ∷ stack) closer h = elim (block_more o.kind o.has_else closer h) [ inl k ↦ inl k | inr k ↦ inr (opened_was o, map opened_was stack, refl, k) ]

-- the outermost block, as it was
outer_now : (x : Option OpenBlock) (o : OpenBefore) → option_map opened_was x ≡ Some o → (p : OpenBlock) × (x ≡ Some p) × (opened_was p ≡ o)
outer_now None o e = absurd cc
outer_now (Some p) o e = (p, refl, ap (λ (x : Option OpenBefore). elim x [ None ↦ o | Some q ↦ q ]) e)

module _ (delimiters : List DelimiterText) (s : List ℕ) where
  -- the tokens of the tag that ends here
  abbrev ended_tag : List Lexeme → Bool → ℕ → ℕ → List Lexeme
  ended_tag lexemes hyphen p to = tag_tokens lexemes ++ lexeme_at EndBlock hyphen p to ∷ []

  unexpected_was : (p : ℕ) (span : Span) (reason : List ℕ) → UnexpectedBlock delimiters s p span reason → WasUnexpected delimiters s p span reason
  unexpected_was p span reason h = record {
    lexemes = h.lexemes;
    in_path = h.in_path;
    reads = h.reads;
    hyphen = h.hyphen;
    to = h.to;
    ends = h.ends;
    whole = tag_was s (ended_tag h.lexemes h.hyphen p h.to) [] h.whole;
    closer = closer_was h.closer;
    closing = closer_of_was s (ended_tag h.lexemes h.hyphen p h.to) ∙ ap (option_map closer_was) h.closing;
    refused = ap (λ (x : List OpenBefore). took x (closer_was h.closer)) (open_was s (significant (before_tag h.lexemes))) ∙ less (open_blocks s (significant (before_tag h.lexemes))) h.closer h.refused;
    begin = h.begin;
    begins = h.begins;
    at = h.at;
    words = h.words ∙ ap (λ (word : List ℕ). codes "unexpected " ++ (in_quotes word ++ codes " block")) (sym (words_were h.closer));
  }

  unclosed_was : (p : ℕ) (span : Span) (reason : List ℕ) → UnclosedBlock delimiters s p span reason → WasUnclosed delimiters s p span reason
  unclosed_was p span reason h = record {
    lexemes = h.lexemes;
    reads = h.reads;
    eof = h.eof;
    opening = opened_was h.opening;
    outer = ap was_outermost (open_was s (significant h.lexemes)) ∙ outermost_was (open_blocks s (significant h.lexemes)) ∙ ap (option_map opened_was) h.outer;
    at = h.at;
    words = h.words ∙ ap (λ (word : List ℕ). codes "unclosed " ++ (in_quotes word ++ codes " block")) (sym (word_was h.opening.kind));
  }

  held : (row : SyntaxFault) (p : ℕ) (span : Span) (reason : List ℕ) → Holds delimiters s row p span reason → Held delimiters s row p span reason
  held unexpected_block p span reason h = unexpected_was p span reason h
  held unclosed_block p span reason h = unclosed_was p span reason h
  held unexpected_token p span reason h = record { lexemes = h.lexemes; sort = h.sort; in_path = h.in_path; reads = h.reads; t = h.t; hyphen = h.hyphen; to = h.to; occurs = h.occurs; counts = h.counts; wanted = h.wanted; wants = wanted_was _ _ h.wants; stuck = λ b. h.stuck (begins_now _ b); at = h.at; words = h.words }
  held unexpected_eof p span reason h = record { lexemes = h.lexemes; sort = h.sort; in_path = h.in_path; reads = h.reads; eof = h.eof; wanted = h.wanted; wants = wanted_was _ _ h.wants; at = h.at; words = h.words }
  held wrong_number p span reason h = record { lexemes = h.lexemes; sort = h.sort; in_path = h.in_path; reads = h.reads; to = h.to; occurs = h.occurs; fits = begins_was _ h.fits; words = h.words }
  held wrong_index p span reason h = record { lexemes = h.lexemes; sort = h.sort; in_path = h.in_path; reads = h.reads; to = h.to; occurs = h.occurs; fits = begins_was _ h.fits; large = h.large; at = h.at; words = h.words }
  held wrong_escape p span reason h = record { lexemes = h.lexemes; sort = h.sort; in_path = h.in_path; reads = h.reads; to = h.to; occurs = h.occurs; string = h.string; fits = begins_was _ h.fits; from = h.from; long = h.long; escape = h.escape; at = h.at; words = h.words }
  held unexpected_end p span reason h = h
  held unclosed_tag p span reason h = h
  held unclosed_bracket p span reason h = h
  held unexpected_close p span reason h = h
  held unexpected_character p span reason h = h
  held undelimited_string p span reason h = h
  held empty_comment p span reason h = h
  held comment_eof p span reason h = h

  unclosed_now : (p : ℕ) (span : Span) (reason : List ℕ) → WasUnclosed delimiters s p span reason → UnclosedBlock delimiters s p span reason
  unclosed_now p span reason h =
      let o = outer_now (outermost (open_blocks s (significant h.lexemes))) h.opening (sym (ap was_outermost (open_was s (significant h.lexemes)) ∙ outermost_was (open_blocks s (significant h.lexemes))) ∙ h.outer) in
      record {
        lexemes = h.lexemes;
        reads = h.reads;
        eof = h.eof;
        opening = o.0;
        outer = o.1;
        at = h.at ∙ ap (λ (b : OpenBefore). b.span) (sym o.2);
        words = h.words ∙ ap (λ (word : List ℕ). codes "unclosed " ++ (in_quotes word ++ codes " block")) (ap (λ (b : OpenBefore). word_before b.kind) (sym o.2) ∙ word_was o.0.kind);
      }

  unexpected_now : (p : ℕ) (span : Span) (reason : List ℕ) → WasUnexpected delimiters s p span reason → UnexpectedBlock delimiters s p span reason ⊎ ElseInFor delimiters s span reason
  unexpected_now p span reason h =
      let blocks = open_was s (significant (before_tag h.lexemes)) in
      elim (more (open_blocks s (significant (before_tag h.lexemes))) h.closer (ap (λ (x : List OpenBefore). took x h.closer) (sym blocks) ∙ h.refused)) [
        | inl refused ↦ inl (record {
          lexemes = h.lexemes;
          in_path = h.in_path;
          reads = h.reads;
          hyphen = h.hyphen;
          to = h.to;
          ends = h.ends;
          whole = tag_now s (ended_tag h.lexemes h.hyphen p h.to) [] h.whole;
          closer = closer_now h.closer;
          closing = closing_now s (ended_tag h.lexemes h.hyphen p h.to) h.closer h.closing;
          refused = refused;
          begin = h.begin;
          begins = h.begins;
          at = h.at;
          words = h.words ∙ ap (λ (word : List ℕ). codes "unexpected " ++ (in_quotes word ++ codes " block")) (sym (words_now h.closer));
        })
        | inr k ↦ inr (record { point = p; fault = h; else_tag = k.3.0; innermost = k.0; around = k.1; blocks = blocks ∙ k.2; is_for = k.3.1; no_else_yet = k.3.2 })
      ]

  holds : (row : SyntaxFault) (p : ℕ) (span : Span) (reason : List ℕ) → Held delimiters s row p span reason → Holds delimiters s row p span reason ⊎ ElseInFor delimiters s span reason
  holds unexpected_block p span reason h = unexpected_now p span reason h
  holds unclosed_block p span reason h = inl (unclosed_now p span reason h)
  holds unexpected_token p span reason h = inl (record { lexemes = h.lexemes; sort = h.sort; in_path = h.in_path; reads = h.reads; t = h.t; hyphen = h.hyphen; to = h.to; occurs = h.occurs; counts = h.counts; wanted = h.wanted; wants = wanted_now _ _ h.wants; stuck = λ b. h.stuck (begins_was _ b); at = h.at; words = h.words })
  holds unexpected_eof p span reason h = inl (record { lexemes = h.lexemes; sort = h.sort; in_path = h.in_path; reads = h.reads; eof = h.eof; wanted = h.wanted; wants = wanted_now _ _ h.wants; at = h.at; words = h.words })
  holds wrong_number p span reason h = inl (record { lexemes = h.lexemes; sort = h.sort; in_path = h.in_path; reads = h.reads; to = h.to; occurs = h.occurs; fits = begins_now _ h.fits; words = h.words })
  holds wrong_index p span reason h = inl (record { lexemes = h.lexemes; sort = h.sort; in_path = h.in_path; reads = h.reads; to = h.to; occurs = h.occurs; fits = begins_now _ h.fits; large = h.large; at = h.at; words = h.words })
  holds wrong_escape p span reason h = inl (record { lexemes = h.lexemes; sort = h.sort; in_path = h.in_path; reads = h.reads; to = h.to; occurs = h.occurs; string = h.string; fits = begins_now _ h.fits; from = h.from; long = h.long; escape = h.escape; at = h.at; words = h.words })
  holds unexpected_end p span reason h = inl h
  holds unclosed_tag p span reason h = inl h
  holds unclosed_bracket p span reason h = inl h
  holds unexpected_close p span reason h = inl h
  holds unexpected_character p span reason h = inl h
  holds undelimited_string p span reason h = inl h
  holds empty_comment p span reason h = inl h
  holds comment_eof p span reason h = inl h

  pub fault_kept : (span : Span) (reason : List ℕ) → WasFirstFault delimiters s span reason → IsFirstFault delimiters s span reason ⊎ ElseInFor delimiters s span reason
  fault_kept span reason was = elim (holds was.fault was.point span reason was.holds) [
    | inl h ↦ inl (record { fault = was.fault; point = was.point; holds = h; first = λ other q its words k. was.first other q its words (held other q its words k) })
    | inr e ↦ inr e
  ]
