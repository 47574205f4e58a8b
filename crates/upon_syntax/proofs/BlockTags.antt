-- A whole tag of a block, by its tokens: what it does to the open blocks, and which closing tag it is.
use Rattle.std.proofs.Common.{◌≡◌, ℕ, List, [], ◌∷◌, ◌++◌, true, Option, Some, None, refl, sym, ap, ◌∙◌, subst, codes}
use Rattle.upon_types.specs.declared.types.Span.{Span}
use Rattle.upon_types.specs.declared.types.token.Token.{Token}
use Rattle.upon_types.specs.declared.types.token.Token.TheVariants.{EndBlock, Keyword}
use Rattle.upon_language_spec.specs.Cut.{Lexeme}
use Rattle.upon_language_spec.specs.Tokens.{from_to}
use Rattle.upon_language_spec.specs.Grammar.{BeginsBlock}
use Rattle.upon_types.specs.BlockKinds.{Block, opened_kind, block_word, end_word}
use Rattle.upon_language_spec.specs.Blocks.{OpenBlock, Closer, else_if, plain_else, end_of, else_by, closer_by, closer_of, end_from, by_word, takes, after_closer}
use Rattle.upon_language_spec.specs.InTags.{is_inside, EachInside}
use Rattle.upon_language_spec.specs.ClosingTags.{Closing}
use Rattle.upon_language_spec.proofs.NoTreeWithFault.TagBlocks.{end_closer, end_closes, block_closes_none, block_opens, begins_block, Walks, walks_then, walks_plain, walks_begin, else_at}
use Rattle.upon_language_spec.proofs.NoTreeWithFault.ReadBefore.{inside_begins_nothing}
use Rattle.upon_language_spec.proofs.Totality.OpenBlocks.{closer_is}
use Rattle.upon_syntax.specs.OpenBlocks.{new_block, closed_by, after_tag, IsTaken}
use Rattle.upon_tag_parser.specs.BlockTags.{BlockTag, opening_tag, else_if_tag, else_tag, end_tag, include_tag, IsBlockTag}

inside_no_end : (t : Token) (a b : Span) → is_inside t ≡ true → (elim t as (λ _. Span) [ EndBlock ↦ a | _ ↦ b ]) ≡ b
inside_no_end EndBlock a b h = absurd cc
inside_no_end t a b h = refl

module _ (s : List ℕ) (l end : Lexeme) (w : List Lexeme) (each : EachInside w) (is_end : end.token ≡ EndBlock) where
  abbrev all : List Lexeme
  all = l ∷ (w ++ end ∷ [])

  end_found : (begin : Span) (v : List Lexeme) → EachInside v → end_from begin (v ++ end ∷ []) ≡ end.span
  end_found begin [] inside = ap (λ (t : Token). elim t as (λ _. Span) [ EndBlock ↦ end.span | _ ↦ begin ]) is_end
  end_found begin (x ∷ v) inside = inside_no_end x.token x.span (end_from begin (v ++ end ∷ [])) inside.0 ∙ end_found begin v inside.1

  walks_rest : (b : List OpenBlock) (v : List Lexeme) → EachInside v → Walks s b (v ++ end ∷ []) b []
  walks_rest b [] inside = walks_plain s b end [] (ap begins_block is_end)
  walks_rest b (x ∷ v) inside = walks_then s b b b (x ∷ (v ++ end ∷ [])) (v ++ end ∷ []) [] (walks_plain s b x (v ++ end ∷ []) (inside_begins_nothing x.token inside.0)) (walks_rest b v inside.1)

  -- after the keyword the tokens inside go on up to the end
  tail_of : (v : List Lexeme) (k : Lexeme) (rest : List Lexeme) → EachInside v → k.token ≡ Keyword → v ++ end ∷ [] ≡ k ∷ rest → (v' : List Lexeme) × EachInside v' × (v' ++ end ∷ [] ≡ rest)
  tail_of [] k rest inside t e =
      let same : end ≡ k = cc in
      let u : EndBlock ≡ Keyword = sym is_end ∙ ap (λ (x : Lexeme). x.token) same ∙ t in
      absurd cc
  tail_of (x ∷ v) k rest inside t e = let same : v ++ end ∷ [] ≡ rest = cc in (v, inside.1, same)

  module _ (word : List ℕ) (rest : List Lexeme) (g : BeginsBlock s word all rest) where
    first : g.1.1.lexeme ≡ l
    first = let e = g.1.1.is in cc

    others : w ++ end ∷ [] ≡ g.2.1.0.lexeme ∷ rest
    others = let e = g.1.1.is in let f = g.2.1.0.is in let same : w ++ end ∷ [] ≡ g.0 = cc in same ∙ f

    tail : (v' : List Lexeme) × EachInside v' × (v' ++ end ∷ [] ≡ rest)
    tail = tail_of w g.2.1.0.lexeme rest each g.2.1.0.of_token others

    ends_at : (begin : Span) → end_from begin rest ≡ end.span
    ends_at begin = ap (end_from begin) (sym tail.2) ∙ end_found begin tail.0 tail.1

    word_walks : (a b : List OpenBlock) (closer : Option Closer) → closer_by s word rest ≡ closer → Closing a closer → by_word s l.span word rest a ≡ b → Walks s a all b []
    word_walks a b closer e c h =
        let F : Option Closer → Type 0 = λ x. Closing a x in
        let G : List Lexeme → Type 0 = λ x. Walks s b x b [] in
        walks_then s a b b all rest [] (walks_begin s a b word all rest g (subst F (sym e) c) (ap (λ (x : Lexeme). by_word s x.span word rest a) first ∙ h)) (subst G tail.2 (walks_rest b tail.0 tail.1))

    opens : (kind : Block) (a : List OpenBlock) → closer_by s word rest ≡ None → by_word s l.span word rest a ≡ new_block kind (from_to l.span (end_from l.span rest)) ∷ a → Walks s a all (new_block kind (from_to l.span end.span) ∷ a) []
    opens kind a e h = word_walks a (new_block kind (from_to l.span end.span) ∷ a) None e tt (h ∙ ap (λ (x : Span). new_block kind (from_to l.span x) ∷ a) (ends_at l.span))

    closes : (closer : Closer) (a : List OpenBlock) → closer_by s word rest ≡ Some closer → takes a closer ≡ true → by_word s l.span word rest a ≡ after_closer closer a → Walks s a all (after_closer closer a) []
    closes closer a e taken h = word_walks a (after_closer closer a) (Some closer) e taken h

  -- what a tag that is taken does
  pub tag_walks : (tag : BlockTag) (a : List OpenBlock) → IsBlockTag s tag all [] → IsTaken tag a → Walks s a all (after_tag tag (from_to l.span end.span) a) []
  tag_walks (opening_tag opening e) a g taken = let kind = opened_kind opening in opens (block_word kind) g.0 g.2 kind a (block_closes_none s kind g.0) (block_opens s kind l.span g.0 a)
  tag_walks (else_if_tag negated e) a g taken =
      let is : else_by s g.0 ≡ else_if = else_at s Keyword g.4.0 g.0 g.1 g.4.1.0 in
      closes (codes "else") g.0 g.3 else_if a (ap Some is) (taken else_if refl) (ap (λ (x : Closer). after_closer x a) is)
  tag_walks else_tag a g taken =
      let is : else_by s g.0 ≡ plain_else = else_at s EndBlock g.2.0 g.0 [] g.2.1 in
      closes (codes "else") g.0 g.1 plain_else a (ap Some is) (taken plain_else refl) (ap (λ (x : Closer). after_closer x a) is)
  tag_walks (end_tag kind) a g taken = closes (end_word kind) g.0 g.1 (end_of kind) a (end_closer s kind g.0) (taken (end_of kind) refl) (end_closes s kind l.span g.0 a)
  tag_walks (include_tag name globals) a g taken = word_walks (codes "include") g.0 g.3 a a None refl tt refl

  -- which closing tag it is
  pub tag_closer : (tag : BlockTag) → IsBlockTag s tag all [] → closer_of s all ≡ closed_by tag
  tag_closer (opening_tag opening e) g = closer_is s (block_word (opened_kind opening)) all g.0 g.2 ∙ block_closes_none s (opened_kind opening) g.0
  tag_closer (else_if_tag negated e) g = closer_is s (codes "else") all g.0 g.3 ∙ ap Some (else_at s Keyword g.4.0 g.0 g.1 g.4.1.0)
  tag_closer else_tag g = closer_is s (codes "else") all g.0 g.1 ∙ ap Some (else_at s EndBlock g.2.0 g.0 [] g.2.1)
  tag_closer (end_tag kind) g = closer_is s (end_word kind) all g.0 g.1 ∙ end_closer s kind g.0
  tag_closer (include_tag name globals) g = closer_is s (codes "include") all g.0 g.3
