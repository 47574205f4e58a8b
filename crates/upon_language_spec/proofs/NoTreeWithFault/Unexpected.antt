-- A text with a closing tag that the innermost open block does not take has no tree.
use Rattle.std.proofs.Common.{◌≡◌, inl, ℕ, List, [], ◌∷◌, ◌++◌, length, Bool, true, false, Option, Some, None, refl, sym, ap, ◌∙◌, subst, append_assoc, arith, if◌then◌else◌}
use Rattle.upon_types.specs.declared.types.Span.{Span}
use Rattle.upon_types.specs.declared.types.token.Token.{Token}
use Rattle.upon_types.specs.declared.types.token.Token.TheVariants.{BeginBlock, EndBlock, Keyword}
use Rattle.upon_types.specs.Span.{slice}
use Rattle.upon_types.specs.Expression.{Expression}
use Rattle.upon_types.specs.Tree.{Statements}
use Rattle.upon_language_spec.specs.Search.{DelimiterText, HasTexts}
use Rattle.upon_language_spec.specs.Delimiters.{block}
use Rattle.upon_language_spec.specs.Cut.{Lexeme, outside, in_tag, Ends, Cut}
use Rattle.upon_language_spec.specs.Tokens.{is_space, begins_comment, without_spaces, significant}
use Rattle.upon_language_spec.specs.Reading.{open_tag, before_tag}
use Rattle.upon_language_spec.specs.Expressions.{IsExpression}
use Rattle.upon_language_spec.specs.Grammar.{HasTree}
use Rattle.upon_language_spec.proofs.NoTreeWithFault.Fine.{Passes}
use Rattle.upon_language_spec.proofs.OneCut.Token.{one_step}
use Rattle.upon_language_spec.proofs.OneCut.Cut.{cut_on, cut_ends}
use Rattle.upon_language_spec.specs.Faults.{tag_tokens, lexeme_at}
use Rattle.upon_language_spec.specs.LaterFaults.{UnexpectedBlock}
use Rattle.upon_language_spec.specs.InTags.{EachInside}
use Rattle.upon_language_spec.proofs.NoTreeWithFault.InsideTag.{inside_is_no_comment, one_read, kept, spaces_append}
use Rattle.upon_language_spec.specs.Blocks.{OpenBlock, Closer, else_if, plain_else, else_by, closer_by, closer_of, takes, end_from, blocks_from}
use Rattle.upon_language_spec.specs.ClosingTags.{is_word, blocks_past, word_next, closer_in, Closing, TokenTaken, AllTaken}
use Rattle.upon_language_spec.proofs.NoTreeWithFault.TagBlocks.{begins_block}
use Rattle.upon_language_spec.proofs.NoTreeWithFault.Unclosed.{same_by_word, same_closer_by, tree_taken}
use Rattle.upon_language_spec.proofs.NoTreeWithFault.BeforeTag.{split_before, open_tag_is, before_tag_is}
use Rattle.upon_language_spec.proofs.NoTreeWithFault.ReadBefore.{ends_block, has_end, Ended, read_before}

end_or_later : (begin : Span) (t : Token) (l : Lexeme) (ls ys : List Lexeme) → (if ends_block t then true else has_end ls) ≡ true → (has_end ls ≡ true → end_from begin (ls ++ ys) ≡ end_from begin ls)
    → (elim t as (λ _. Span) [ EndBlock ↦ l.span | _ ↦ end_from begin (ls ++ ys) ]) ≡ (elim t as (λ _. Span) [ EndBlock ↦ l.span | _ ↦ end_from begin ls ])
end_or_later begin EndBlock l ls ys h k = refl
end_or_later begin t l ls ys h k = k h

pub end_within : (begin : Span) (ls ys : List Lexeme) → has_end ls ≡ true → end_from begin (ls ++ ys) ≡ end_from begin ls
end_within begin [] ys h = absurd cc
end_within begin (l ∷ ls) ys h = end_or_later begin l.token l ls ys h (end_within begin ls ys)

pub else_within : (s : List ℕ) (ls ys : List Lexeme) → has_end ls ≡ true → else_by s (ls ++ ys) ≡ else_by s ls
else_within s [] ys h = absurd cc
else_within s (l ∷ ls) ys h = refl

pub word_ends_nothing : (t : Token) → is_word t ≡ true → ends_block t ≡ false
word_ends_nothing Keyword h = refl
word_ends_nothing _ h = absurd cc

module _ (s : List ℕ) where
  begin_within : (begin : Span) (a : List OpenBlock) (ls ys : List Lexeme) → has_end ls ≡ true → word_next (ls ++ ys) ≡ true → blocks_past s a BeginBlock begin (ls ++ ys) ≡ blocks_past s a BeginBlock begin ls
  begin_within begin a [] ys h w = absurd cc
  begin_within begin a (k ∷ ls) ys h w =
      let ended : has_end ls ≡ true = sym (ap (λ (x : Bool). if x then true else has_end ls) (word_ends_nothing k.token w)) ∙ h in
      same_by_word s begin (slice s k.span) (ls ++ ys) ls a (end_within begin ls ys ended) (else_within s ls ys ended)

  step_within : (a : List OpenBlock) (t : Token) (span : Span) (ls ys : List Lexeme) → (begins_block t ≡ true → has_end ls ≡ true) → TokenTaken s a t (ls ++ ys) → blocks_past s a t span (ls ++ ys) ≡ blocks_past s a t span ls
  step_within a BeginBlock span ls ys e h = begin_within span a ls ys (e refl) h.0
  step_within a t span ls ys e h = refl

  -- after the front, the tokens are taken with the blocks that it leaves open
  taken_behind : (a : List OpenBlock) (front ys : List Lexeme) → Ended front → AllTaken s a (front ++ ys) → AllTaken s (blocks_from s a front) ys
  taken_behind a [] ys e h = h
  taken_behind a (l ∷ ls) ys e h =
      let F : List OpenBlock → Type 0 = λ x. AllTaken s x (ls ++ ys) in
      taken_behind (blocks_past s a l.token l.span ls) ls ys e.1 (subst F (step_within a l.token l.span ls ys e.0 h.0) h.1)

  -- a tag's tokens and its end
  abbrev closer_as : Token → Option Closer → Option Closer
  closer_as t closer = elim t [ BeginBlock ↦ closer | _ ↦ None ]

  else_alike : (e r : Lexeme) (ls more : List Lexeme) → e.token ≡ r.token → else_by s (ls ++ e ∷ []) ≡ else_by s (ls ++ r ∷ more)
  else_alike e r [] more t = ap (λ (x : Token). elim x as (λ _. Closer) [ Keyword ↦ else_if | _ ↦ plain_else ]) t
  else_alike e r (l ∷ ls) more t = refl

  no_word_next : (a : List OpenBlock) (t : Token) (r : Lexeme) (more : List Lexeme) (found : Option Closer) (closer : Closer) → r.token ≡ EndBlock → TokenTaken s a t (r ∷ more) → closer_as t found ≡ Some closer → ⊥
  no_word_next a BeginBlock r more found closer t h e = let w : is_word r.token ≡ false = ap is_word t in let v : is_word r.token ≡ true = h.0 in cc
  no_word_next a _ r more found closer t h e = cc

  closing_taken : (a : List OpenBlock) (t : Token) (ls : List Lexeme) (found : Option Closer) (closer : Closer) → found ≡ closer_in s ls → TokenTaken s a t ls → closer_as t found ≡ Some closer → takes a closer ≡ true
  closing_taken a BeginBlock ls found closer same h e = let F : Option Closer → Type 0 = λ x. Closing a x in subst F (sym same ∙ e) h.1
  closing_taken a _ ls found closer same h e = absurd cc

  tag_taken : (a : List OpenBlock) (tag : List Lexeme) (e r : Lexeme) (more : List Lexeme) (closer : Closer) → e.token ≡ EndBlock → r.token ≡ EndBlock → AllTaken s a (tag ++ r ∷ more) → closer_of s (tag ++ e ∷ []) ≡ Some closer → takes a closer ≡ true
  tag_taken a [] e r more closer t u h c = absurd cc
  tag_taken a (l ∷ []) e r more closer t u h c = absurd (no_word_next a l.token r more (closer_by s (slice s e.span) []) closer u h.0 c)
  tag_taken a (l ∷ k ∷ ls) e r more closer t u h c =
      closing_taken a l.token (k ∷ (ls ++ r ∷ more)) (closer_by s (slice s k.span) (ls ++ e ∷ [])) closer (same_closer_by s (slice s k.span) (ls ++ e ∷ []) (ls ++ r ∷ more) (else_alike e r ls more (t ∙ sym u))) h.0 c

-- what is read from a begin on, up to the tag's end
read_more : (l : Lexeme) (ls ys : List Lexeme) → begins_comment l.token ≡ false → significant (ls ++ ys) ≡ without_spaces ls ++ significant ys → significant (l ∷ (ls ++ ys)) ≡ without_spaces (l ∷ ls) ++ significant ys
read_more l ls ys h e =
    one_read (is_space l.token) l (ls ++ ys) refl h ∙ ap (λ (x : List Lexeme). without_spaces (l ∷ []) ++ x) e ∙ sym (append_assoc (without_spaces (l ∷ [])) (without_spaces ls) (significant ys))
    ∙ ap (λ (x : List Lexeme). x ++ significant ys) (sym (spaces_append (l ∷ []) ls))

inner_read : (inner : List Lexeme) (ys : List Lexeme) → EachInside inner → significant (inner ++ ys) ≡ without_spaces inner ++ significant ys
inner_read [] ys each = refl
inner_read (l ∷ ls) ys each = read_more l ls ys (inside_is_no_comment l.token each.0) (inner_read ls ys each.1)

no_tag_outside : (path : Bool) → in_tag block path ≡ outside → ⊥
no_tag_outside path e = cc

not_both : (b : Bool) → b ≡ true → b ≡ false → ⊥
not_both b e h = cc

module _ (delimiters : List DelimiterText) (s : List ℕ) (texts : HasTexts delimiters) where
  -- the next token is the end that the fault says of
  end_next : (path hyphen : Bool) (p to : ℕ) (r : Lexeme) (more : List Lexeme) → Cut delimiters s (in_tag block path) p (r ∷ more) outside (length s) → Ends delimiters s block hyphen p to → r.token ≡ EndBlock
  end_next path hyphen p to r more h e = (one_step delimiters s (in_tag block path) r.token EndBlock r.hyphen hyphen p r.span.n to h.1 (inl (refl, e))).0

  module _ (passes : (e : Expression) (ts rest : List Lexeme) → IsExpression s e ts rest → Passes s ts rest) where
    refuted : (f_lexemes lexemes : List Lexeme) (path hyphen : Bool) (p to : ℕ) (closer : Closer) (rest : List Lexeme) → Cut delimiters s outside 0 f_lexemes (in_tag block path) p → Cut delimiters s (in_tag block path) p rest outside (length s) → Ends delimiters s block hyphen p to
        → closer_of s (tag_tokens f_lexemes ++ lexeme_at EndBlock hyphen p to ∷ []) ≡ Some closer → lexemes ≡ f_lexemes ++ rest → AllTaken s [] (significant lexemes) → takes (blocks_from s [] (significant (before_tag f_lexemes))) closer ≡ true
    refuted ls lexemes path hyphen p to closer [] reads left ends c is taken = absurd (no_tag_outside path left.0)
    refuted ls lexemes path hyphen p to closer (r ∷ more) reads left ends c is taken =
        let t = split_before delimiters s block path p ls reads in
        let tag = t.begin ∷ t.inner in
        let end : r.token ≡ EndBlock = end_next path hyphen p to r more left ends in
        let before : before_tag ls ≡ t.front = ap before_tag t.is ∙ before_tag_is t.front t.begin t.inner t.opens t.inside in
        let opened : open_tag ls ≡ tag = ap open_tag t.is ∙ open_tag_is t.front t.begin t.inner t.opens t.inside in
        let ys = tag ++ (r ∷ more) in
        let parts = read_before delimiters s 0 t.offset t.front ys t.cut in
        let tail : significant ys ≡ without_spaces tag ++ (r ∷ significant more) = read_more t.begin t.inner (r ∷ more) t.no_comment (inner_read t.inner (r ∷ more) t.inside) ∙ ap (λ (x : List Lexeme). without_spaces tag ++ x) (kept r more (ap is_space end) (ap begins_comment end)) in
        let whole : lexemes ≡ t.front ++ ys = is ∙ ap (λ (x : List Lexeme). x ++ (r ∷ more)) t.is ∙ append_assoc t.front tag (r ∷ more) in
        let all : significant lexemes ≡ significant t.front ++ (without_spaces tag ++ (r ∷ significant more)) = ap significant whole ∙ parts.0 ∙ ap (λ (x : List Lexeme). significant t.front ++ x) tail in
        let F : List Lexeme → Type 0 = λ x. AllTaken s [] x in
        let G : List Lexeme → Type 0 = λ x. closer_of s (without_spaces x ++ lexeme_at EndBlock hyphen p to ∷ []) ≡ Some closer in
        let stack = blocks_from s [] (significant t.front) in
        ap (λ (x : List Lexeme). takes (blocks_from s [] (significant x)) closer) before
        ∙ tag_taken s stack (without_spaces tag) (lexeme_at EndBlock hyphen p to) r (significant more) closer refl end
        (taken_behind s [] (significant t.front) (without_spaces tag ++ (r ∷ significant more)) parts.1 (subst F all taken)) (subst G opened c)

    pub no_tree_unexpected_block : (p : ℕ) (place : Span) (reason : List ℕ) → UnexpectedBlock delimiters s p place reason → (tree : Statements) → HasTree delimiters s tree → ⊥
    no_tree_unexpected_block p place reason f tree h =
        let within = cut_ends delimiters s texts outside (in_tag block f.in_path) 0 p f.lexemes (omega arith) f.reads in
        let on = cut_on delimiters s texts outside (in_tag block f.in_path) outside 0 p (length s) f.lexemes h.lexemes within.1 f.reads h.cut in
        not_both (takes (blocks_from s [] (significant (before_tag f.lexemes))) f.closer)
        (refuted f.lexemes h.lexemes f.in_path f.hyphen p f.to f.closer on.0 f.reads on.2 f.ends f.closing on.1 (tree_taken delimiters s texts passes tree h)) f.refused
