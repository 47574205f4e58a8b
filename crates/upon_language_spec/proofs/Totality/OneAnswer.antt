-- Every UTF-8 text has a tree, or a first fault.
use Rattle.std.proofs.Common.{◌≡◌, ◌⊎◌, inl, inr, ℕ, zero, suc, ◌<◌, ◌+◌, List, [], ◌∷◌, ◌++◌, length, Bool, false, Some, refl, sym, ap, ◌∙◌, subst, arith, codes}
use Rattle.std.proofs.lemmas.Bool.{cases_lt}
use Rattle.std.specs.Str.{IsUtf8}
use Rattle.upon_types.specs.declared.types.Span.{Span}
use Rattle.upon_types.specs.Tree.{Statements}
use Rattle.upon_language_spec.specs.Search.{DelimiterText, HasTexts}
use Rattle.upon_language_spec.specs.LiesIn.{HasUtf8}
use Rattle.upon_language_spec.specs.Cut.{Lexeme, outside, Cut}
use Rattle.upon_language_spec.specs.Shown.{shown_lexemes}
use Rattle.upon_language_spec.specs.Tokens.{significant}
use Rattle.upon_language_spec.specs.Grammar.{HasTree}
use Rattle.upon_language_spec.specs.FirstFault.{IsFirstFault}
use Rattle.upon_language_spec.proofs.OneTree.Tree.{one_whole_tree}
use Rattle.upon_language_spec.proofs.OneFirstFault.FirstFault.{one_first_fault}
use Rattle.upon_language_spec.proofs.NoTreeWithFault.Fault.{no_tree_with_fault}
use Rattle.upon_language_spec.specs.Wanted.{in_quotes}
use Rattle.upon_language_spec.proofs.OneCut.Cut.{cut_ends, cut_joined}
use Rattle.upon_types.specs.BlockKinds.{block_word}
use Rattle.upon_language_spec.specs.Blocks.{OpenBlock, open_blocks, outermost}
use Rattle.upon_language_spec.specs.Stages.{Stage}
use Rattle.upon_language_spec.proofs.Totality.Stage.{start, unclosed_is_first}
use Rattle.upon_language_spec.proofs.Totality.LiteralHere.{Fault}
use Rattle.upon_language_spec.proofs.Totality.BlockTrees.{EndsBlocks, text_ends}
use Rattle.upon_language_spec.specs.ClosingTags.{ReadTagsTaken}
use Rattle.upon_language_spec.proofs.Totality.Pieces.{Piece, one_piece}

outer_of : (o : OpenBlock) (stack : List OpenBlock) → (outer : OpenBlock) × (outermost (o ∷ stack) ≡ Some outer)
outer_of o [] = (o, refl)
outer_of o (p ∷ stack) = outer_of p stack

-- the rest of the text is cut whole, and reads as the open blocks want
pub record Rest (delimiters : List DelimiterText) (s : List ℕ) (ls : List Lexeme) (p : ℕ) : Type 0 where
  pub rest : List Lexeme
  pub cut : Cut delimiters s outside p rest outside (length s)
  pub reads : (later : Bool) → EndsBlocks s (open_blocks s (significant ls)) (significant (shown_lexemes s later rest))

module _ (delimiters : List DelimiterText) (s : List ℕ) (texts : HasTexts delimiters) (utf8 : HasUtf8 delimiters) (text : IsUtf8 s) where
  -- the text's end
  at_end : (ls : List Lexeme) (p : ℕ) → Stage delimiters s ls outside p → p ≡ length s → Fault delimiters s ⊎ Rest delimiters s ls p
  at_end ls p stage eof = by_stack (open_blocks s (significant ls)) refl
    where
      by_stack : (stack : List OpenBlock) → open_blocks s (significant ls) ≡ stack → Fault delimiters s ⊎ Rest delimiters s ls p
      by_stack [] none = let F : List OpenBlock → Type 0 = λ x. EndsBlocks s x [] in inr (record { rest = []; cut = (refl, eof); reads = λ later. subst F (sym none) (text_ends s) })
      by_stack (o ∷ stack) some =
          let outer = outer_of o stack in
          let reason = codes "unclosed " ++ (in_quotes (block_word outer.0.kind) ++ codes " block") in
          inl (
            outer.0.span,
            reason,
            unclosed_is_first delimiters s texts ls outside p stage refl eof outer.0.span reason (record {
              lexemes = ls;
              reads = stage.reads;
              eof = eof;
              opening = outer.0;
              outer = ap outermost some ∙ outer.1;
              at = refl;
              words = refl;
            }),
          )

  behind : (ls : List Lexeme) (p : ℕ) (x : Piece delimiters s ls p) → Rest delimiters s (ls ++ x.piece) x.q → Rest delimiters s ls p
  behind ls p x r = record {
    rest = x.piece ++ r.rest;
    cut = cut_joined delimiters s outside outside outside p x.q (length s) x.piece r.rest x.cut r.cut;
    reads = λ later. x.back later r.rest r.reads;
  }

  -- from a span outside tags to the text's end
  pub read_on : (k : ℕ) (ls : List Lexeme) (p : ℕ) → length s < p + k → Stage delimiters s ls outside p → ReadTagsTaken s ls → Fault delimiters s ⊎ Rest delimiters s ls p
  read_on zero ls p l stage known = absurd (omega (arith, l, (cut_ends delimiters s texts outside outside 0 p ls (omega arith) stage.reads).1))
  read_on (suc k) ls p l stage known = elim (cases_lt p (length s)) [
    | inl below ↦ by_piece (one_piece delimiters s texts utf8 text ls p stage known below) (λ x. read_on k (ls ++ x.piece) x.q (omega (arith, l, x.further)) x.stage x.known)
    | inr above ↦ at_end ls p stage (omega (arith, above, (cut_ends delimiters s texts outside outside 0 p ls (omega arith) stage.reads).1))
  ]
    where
      further : (x : Piece delimiters s ls p) → Fault delimiters s ⊎ Rest delimiters s (ls ++ x.piece) x.q → Fault delimiters s ⊎ Rest delimiters s ls p
      further x (inl fault) = inl fault
      further x (inr r) = inr (behind ls p x r)

      by_piece : Fault delimiters s ⊎ Piece delimiters s ls p → ((x : Piece delimiters s ls p) → Fault delimiters s ⊎ Rest delimiters s (ls ++ x.piece) x.q) → Fault delimiters s ⊎ Rest delimiters s ls p
      by_piece (inl fault) others = inl fault
      by_piece (inr x) others = further x (others x)

  -- a text has a tree, or a first fault
  pub tree_or_fault : ((tree : Statements) × HasTree delimiters s tree) ⊎ ((place : Span) × (reason : List ℕ) × IsFirstFault delimiters s place reason)
  tree_or_fault = by_rest (read_on (suc (length s)) [] 0 (omega arith) (start delimiters s) tt)
    where
      by_rest : Fault delimiters s ⊎ Rest delimiters s [] 0 → ((tree : Statements) × HasTree delimiters s tree) ⊎ ((place : Span) × (reason : List ℕ) × IsFirstFault delimiters s place reason)
      by_rest (inl fault) = inr fault
      by_rest (inr r) = let read = r.reads false in inl (read.0, record { lexemes = r.rest; cut = r.cut; reads = read.1 })

  -- and it is the only one
  pub one_answer : ((tree : Statements) × HasTree delimiters s tree × ((other : Statements) → HasTree delimiters s other → tree ≡ other) × ((place : Span) (reason : List ℕ) → IsFirstFault delimiters s place reason → ⊥))
      ⊎ ((place : Span) × (reason : List ℕ) × IsFirstFault delimiters s place reason × ((other : Span) (words : List ℕ) → IsFirstFault delimiters s other words → (place ≡ other) × (reason ≡ words)) × ((tree : Statements) → HasTree delimiters s tree → ⊥))
  one_answer = elim tree_or_fault [
    | inl h ↦ inl (h.0, h.1, λ other k. one_whole_tree delimiters s h.0 other texts h.1 k, λ place reason f. no_tree_with_fault delimiters s place reason h.0 texts f h.1)
    | inr f ↦ inr (f.0, f.1, f.2, λ other words g. one_first_fault delimiters s f.0 other f.1 words texts f.2 g, λ tree has. no_tree_with_fault delimiters s f.0 f.1 tree texts f.2 has)
  ]
