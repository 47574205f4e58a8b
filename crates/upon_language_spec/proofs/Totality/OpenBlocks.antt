-- The open blocks after tokens with more tokens after, and what a whole tag does to them and to the tree.
use Rattle.std.proofs.Common.{◌≡◌, ℕ, List, [], ◌∷◌, ◌++◌, Bool, true, false, Option, Some, None, refl, sym, ap, ◌∙◌, subst, codes, if◌then◌else◌}
use Rattle.upon_types.specs.declared.types.Span.{Span}
use Rattle.upon_types.specs.declared.types.token.Token.{Token}
use Rattle.upon_types.specs.declared.types.token.Token.TheVariants.{BeginBlock, EndBlock, Keyword}
use Rattle.upon_types.specs.Span.{slice}
use Rattle.upon_types.specs.Expression.{Expression}
use Rattle.upon_types.specs.Tree.{inline_expr, include}
use Rattle.upon_types.specs.BlockKinds.{Block, if_block, opened_kind, end_word}
use Rattle.upon_language_spec.proofs.BlockKinds.{same_end, only_if}
use Rattle.upon_language_spec.specs.Cut.{Lexeme}
use Rattle.upon_language_spec.specs.Grammar.{BeginsBlock, IsWordTag, IsElseIfTag}
use Rattle.upon_language_spec.specs.Tags.{IsTag, an_inline, an_include, an_opening, an_else_if, an_else, an_end}
use Rattle.upon_language_spec.proofs.NoTreeWithFault.FineExpression.{passes_expression}
use Rattle.upon_language_spec.proofs.NoTreeWithFault.ReadBefore.{has_end, Ended}
use Rattle.upon_language_spec.specs.Blocks.{OpenBlock, Closer, else_if, plain_else, end_of, closer_by, closer_of, block_takes, takes, blocks_from}
use Rattle.upon_language_spec.proofs.NoTreeWithFault.Unclosed.{same_by_word, same_closer_by}
use Rattle.upon_language_spec.specs.ClosingTags.{is_word, blocks_past, word_next, closer_in, Closing, TokenTaken, AllTaken}
use Rattle.upon_language_spec.proofs.NoTreeWithFault.TagBlocks.{end_closer, else_at, begins_block, Walks, walks_end, walks_opening, walks_else_if, walks_include, walks_inline, walks_plain_else}
use Rattle.upon_language_spec.proofs.Totality.TagMore.{inline_more, include_more, word_tag_more, opening_more, else_if_tag_more}
use Rattle.upon_language_spec.proofs.Totality.BlockTrees.{EndsBlocks, opening, statement_first, opening_first, else_first, else_if_first, end_first}
use Rattle.upon_language_spec.proofs.NoTreeWithFault.Unexpected.{end_within, else_within, word_ends_nothing}

-- ---- with more tokens after
module _ (s : List ℕ) where
  behind_word : (k : Lexeme) (ls : List Lexeme) → has_end (k ∷ ls) ≡ true → is_word k.token ≡ true → has_end ls ≡ true
  behind_word k ls h w = sym (ap (λ (x : Bool). if x then true else has_end ls) (word_ends_nothing k.token w)) ∙ h

  begin_within : (begin : Span) (a : List OpenBlock) (ls ys : List Lexeme) → has_end ls ≡ true → word_next ls ≡ true → blocks_past s a BeginBlock begin (ls ++ ys) ≡ blocks_past s a BeginBlock begin ls
  begin_within begin a [] ys h w = absurd cc
  begin_within begin a (k ∷ ls) ys h w =
      let ended = behind_word k ls h w in
      same_by_word s begin (slice s k.span) (ls ++ ys) ls a (end_within begin ls ys ended) (else_within s ls ys ended)

  closer_within : (a : List OpenBlock) (ls ys : List Lexeme) → has_end ls ≡ true → word_next ls ≡ true → Closing a (closer_in s ls) → (word_next (ls ++ ys) ≡ true) × Closing a (closer_in s (ls ++ ys))
  closer_within a [] ys h w c = absurd cc
  closer_within a (k ∷ ls) ys h w c =
      let F : Option Closer → Type 0 = λ x. Closing a x in
      (w, subst F (sym (same_closer_by s (slice s k.span) (ls ++ ys) ls (else_within s ls ys (behind_word k ls h w)))) c)

  step_within : (a : List OpenBlock) (t : Token) (span : Span) (ls ys : List Lexeme) → (begins_block t ≡ true → has_end ls ≡ true) → TokenTaken s a t ls → blocks_past s a t span (ls ++ ys) ≡ blocks_past s a t span ls
  step_within a BeginBlock span ls ys e h = begin_within span a ls ys (e refl) h.0
  step_within a t span ls ys e h = refl

  token_within : (a : List OpenBlock) (t : Token) (ls ys : List Lexeme) → (begins_block t ≡ true → has_end ls ≡ true) → TokenTaken s a t ls → TokenTaken s a t (ls ++ ys)
  token_within a BeginBlock ls ys e h = closer_within a ls ys (e refl) h.0 h.1
  token_within a t ls ys e h = tt

  -- the open blocks after some tokens that are ended, and others
  pub blocks_append : (a : List OpenBlock) (xs ys : List Lexeme) → Ended xs → AllTaken s a xs → blocks_from s a (xs ++ ys) ≡ blocks_from s (blocks_from s a xs) ys
  blocks_append a [] ys e h = refl
  blocks_append a (l ∷ ls) ys e h =
      ap (λ (x : List OpenBlock). blocks_from s x (ls ++ ys)) (step_within a l.token l.span ls ys e.0 h.0) ∙ blocks_append (blocks_past s a l.token l.span ls) ls ys e.1 h.1

  pub taken_append : (a : List OpenBlock) (xs ys : List Lexeme) → Ended xs → AllTaken s a xs → AllTaken s (blocks_from s a xs) ys → AllTaken s a (xs ++ ys)
  taken_append a [] ys e h k = k
  taken_append a (l ∷ ls) ys e h k =
      let F : List OpenBlock → Type 0 = λ x. AllTaken s x (ls ++ ys) in
      (token_within a l.token ls ys e.0 h.0, subst F (sym (step_within a l.token l.span ls ys e.0 h.0)) (taken_append (blocks_past s a l.token l.span ls) ls ys e.1 h.1 k))

  -- ---- closing tags
  pub closer_is : (word : List ℕ) (ts rest : List Lexeme) (g : BeginsBlock s word ts rest) → closer_of s ts ≡ closer_by s word rest
  closer_is word ts rest g =
      let l = g.1.1.lexeme in
      let k = g.2.1.0.lexeme in
      ap (closer_of s) (g.1.1.is ∙ ap (λ (x : List Lexeme). l ∷ x) g.2.1.0.is)
      ∙ ap (λ (t : Token). elim t as (λ _. Option Closer) [ BeginBlock ↦ closer_by s (slice s k.span) rest | _ ↦ None ]) g.1.1.of_token
      ∙ ap (λ (x : List ℕ). closer_by s x rest) (ap (slice s) g.2.1.0.at ∙ g.2.1.1)

-- what a whole tag does to the open blocks, and how the rest reads on
pub record TagStep (s : List ℕ) (a : List OpenBlock) (all : List Lexeme) : Type 0 where
  pub stack : List OpenBlock
  pub walks : Walks s a all stack []
  pub back : (rest : List Lexeme) → EndsBlocks s stack rest → EndsBlocks s a (all ++ rest)

no_take : (b : Bool) → b ≡ false → b ≡ true → ⊥
no_take b e h = cc

module _ (s : List ℕ) (all : List Lexeme) where
  abbrev Taken : List OpenBlock → Type 0
  Taken a = (closer : Closer) → closer_of s all ≡ Some closer → takes a closer ≡ true

  -- the last tag of a block that is open
  closed_end : (kind ended : Block) (has_else : Bool) (span : Span) (a : List OpenBlock) → kind ≡ ended → IsWordTag s (end_word ended) all [] → TagStep s (opening kind has_else span ∷ a) all
  closed_end kind ended has_else span a same g =
      let F : Block → Type 0 = λ k. TagStep s (opening k has_else span ∷ a) all in
      subst F (sym same) (record { stack = a; walks = walks_end s ended a has_else span all [] g; back = λ rest more. end_first s ended a has_else span (all ++ rest) rest (word_tag_more s rest (end_word ended) all [] g) more })

  closed_else : (kind : Block) (has_else : Bool) (span : Span) (a : List OpenBlock) → IsWordTag s (codes "else") all [] → block_takes kind has_else plain_else ≡ true → TagStep s (opening kind has_else span ∷ a) all
  closed_else kind true span a g h = absurd cc
  closed_else kind false span a g h = record { stack = opening kind true span ∷ a; walks = walks_plain_else s kind a span all [] h g; back = λ rest more. else_first s kind a span (all ++ rest) rest h (word_tag_more s rest (codes "else") all [] g) more }

  -- which closing tag the tag is
  of_word : (word : List ℕ) (closer : Closer) (g : IsWordTag s word all []) (a : List OpenBlock) → closer_by s word g.0 ≡ Some closer → Taken a → takes a closer ≡ true
  of_word word closer g a e taken = taken closer (closer_is s word all g.0 g.1 ∙ e)

  step_end : (ended : Block) (a : List OpenBlock) → IsWordTag s (end_word ended) all [] → takes a (end_of ended) ≡ true → TagStep s a all
  step_end ended [] g h = absurd cc
  step_end ended (o ∷ a) g h = closed_end o.kind ended o.has_else o.span a (same_end o.kind ended h) g

  step_else : (a : List OpenBlock) → IsWordTag s (codes "else") all [] → takes a plain_else ≡ true → TagStep s a all
  step_else [] g h = absurd cc
  step_else (o ∷ a) g h = closed_else o.kind o.has_else o.span a g h

  closed_else_if : (negated : Bool) (e : Expression) (kind : Block) (has_else : Bool) (span : Span) (a : List OpenBlock) → IsElseIfTag s negated e all [] → block_takes kind has_else else_if ≡ true → TagStep s (opening kind has_else span ∷ a) all
  closed_else_if negated e kind true span a g h = absurd cc
  closed_else_if negated e kind false span a g h =
      let F : Block → Type 0 = λ k. TagStep s (opening k false span ∷ a) all in
      subst F (only_if kind h) (record { stack = opening if_block false span ∷ a; walks = walks_else_if s (passes_expression s) negated e span a all [] g; back = λ rest more. else_if_first s a span negated e (all ++ rest) rest (else_if_tag_more s rest negated e all [] g) more })

  step_else_if : (negated : Bool) (e : Expression) (a : List OpenBlock) → IsElseIfTag s negated e all [] → takes a else_if ≡ true → TagStep s a all
  step_else_if negated e [] g h = absurd cc
  step_else_if negated e (o ∷ a) g h = closed_else_if negated e o.kind o.has_else o.span a g h

  pub tag_step : (a : List OpenBlock) → IsTag s all [] → Taken a → TagStep s a all
  tag_step a (an_inline e span g) taken = record { stack = a; walks = walks_inline s (passes_expression s) e span a all [] g; back = λ rest more. statement_first s a (inline_expr e span) (all ++ rest) rest (inline_more s rest e span all [] g) more }
  tag_step a (an_include name context g) taken = record { stack = a; walks = walks_include s (passes_expression s) name context a all [] g; back = λ rest more. statement_first s a (include name context) (all ++ rest) rest (include_more s rest name context all [] g) more }
  tag_step a (an_opening tag e g) taken =
      let w = walks_opening s (passes_expression s) tag e a all [] g in
      record { stack = opening (opened_kind tag) false w.0 ∷ a; walks = w.1; back = λ rest more. opening_first s a w.0 tag e (all ++ rest) rest (opening_more s rest tag e all [] g) more }
  tag_step a (an_else_if negated e g) taken = step_else_if negated e a g (taken else_if (closer_is s (codes "else") all g.0 g.3 ∙ ap Some (else_at s Keyword g.4.0 g.0 g.1 g.4.1.0)))
  tag_step a (an_else g) taken = step_else a g (of_word (codes "else") plain_else g a (ap Some (else_at s EndBlock g.2.0 g.0 [] g.2.1)) taken)
  tag_step a (an_end kind g) taken = step_end kind a g (of_word (end_word kind) (end_of kind) g a (end_closer s kind g.0) taken)
