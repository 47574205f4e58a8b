-- The end of a block's tag: it is taken, or is the text's first fault.
use Rattle.std.proofs.Common.{◌≡◌, ◌⊎◌, inl, inr, ℕ, List, [], ◌∷◌, ◌++◌, Bool, true, false, Option, Some, None, refl, sym, ap, ◌∙◌, codes}
use Rattle.upon_types.specs.declared.types.Span.{Span}
use Rattle.upon_types.specs.declared.types.token.Token.TheVariants.{EndBlock}
use Rattle.upon_language_spec.specs.Search.{DelimiterText, HasTexts}
use Rattle.upon_language_spec.specs.LiesIn.{HasUtf8}
use Rattle.std.specs.Str.{IsUtf8}
use Rattle.upon_language_spec.specs.Delimiters.{block}
use Rattle.upon_language_spec.specs.Cut.{Lexeme, outside, in_tag, IsToken}
use Rattle.upon_language_spec.specs.Tokens.{significant}
use Rattle.upon_language_spec.specs.Reading.{before_tag}
use Rattle.upon_language_spec.specs.Faults.{span_of, lexeme_at, tag_tokens}
use Rattle.upon_language_spec.specs.Blocks.{Closer, closer_of, takes, open_blocks, closer_words}
use Rattle.upon_language_spec.specs.Wanted.{in_quotes}
use Rattle.upon_language_spec.specs.LaterFaults.{UnexpectedBlock}
use Rattle.upon_language_spec.specs.FirstFault.{unexpected_block}
use Rattle.upon_language_spec.proofs.Totality.FittingClears.{fitting_clears, alike, in_mode}
use Rattle.upon_language_spec.proofs.Totality.First.{first_at}
use Rattle.upon_language_spec.specs.Stages.{Stage, EndsAt}
use Rattle.upon_language_spec.proofs.Totality.Stage.{on}
use Rattle.upon_language_spec.proofs.Totality.LiteralHere.{Fault, least_block}
use Rattle.upon_language_spec.proofs.Totality.WholeTag.{ended_tag}

module _ (delimiters : List DelimiterText) (s : List ℕ) (texts : HasTexts delimiters) (utf8 : HasUtf8 delimiters) (text : IsUtf8 s) (ls : List Lexeme) (path : Bool) (p : ℕ) (e : EndsAt delimiters s block ls path p) where
  abbrev all : List Lexeme
  all = tag_tokens ls ++ lexeme_at EndBlock e.hyphen p e.to ∷ []

  abbrev Taken : Type 0
  Taken = (closer : Closer) → closer_of s all ≡ Some closer → takes (open_blocks s (significant (before_tag ls))) closer ≡ true

  step : IsToken delimiters s (in_tag block path) EndBlock e.hyphen p e.to
  step = inl (refl, e.ends)

  same_closer : (a b : Closer) → Some a ≡ Some b → a ≡ b
  same_closer a b h = cc

  -- where it is taken all is clear after it
  pub taken_end : Taken → Stage delimiters s (ls ++ lexeme_at EndBlock e.hyphen p e.to ∷ []) outside e.to
  taken_end taken = on delimiters s texts ls (in_tag block path) p e.tag.stage EndBlock e.hyphen e.to step e.brackets (fitting_clears delimiters s texts block path p e.to ls EndBlock e.hyphen e.tag.stage.reads step (record {
    ps = e.tag.ps;
    occurs = e.tag.occurs;
    next = e.next;
    fits = λ c. e.leads;
    number = λ n. absurd cc;
    index = λ n. absurd cc;
    string = λ n. absurd cc;
    taken = λ n. refused;
  }))
    where
      refused : (place : Span) (reason : List ℕ) → UnexpectedBlock delimiters s p place reason → ⊥
      refused place reason h =
          let a = alike delimiters s texts block path p e.to ls EndBlock e.hyphen e.tag.stage.reads step h.lexemes (in_tag block h.in_path) h.reads in
          let b = in_mode delimiters s texts block path p e.to ls EndBlock e.hyphen e.tag.stage.reads step (in_tag block h.in_path) EndBlock h.hyphen h.to a.1 (inl (refl, h.ends)) in
          let closing : closer_of s all ≡ Some h.closer = sym (λ i. closer_of s (tag_tokens (a.0 i) ++ lexeme_at EndBlock (b.1 i) p (b.2 i) ∷ [])) ∙ h.closing in
          let yes = taken h.closer closing in
          let no : takes (open_blocks s (significant (before_tag ls))) h.closer ≡ false = sym (ap (λ x. takes (open_blocks s (significant (before_tag x))) h.closer) a.0) ∙ h.refused in
          cc

  -- the end of a block's tag is taken, or the first fault
  pub block_end : Fault delimiters s ⊎ (Taken × Stage delimiters s (ls ++ lexeme_at EndBlock e.hyphen p e.to ∷ []) outside e.to)
  block_end = by_closer (closer_of s all) refl
    where
      by_taken : (closer : Closer) → closer_of s all ≡ Some closer → (b : Bool) → takes (open_blocks s (significant (before_tag ls))) closer ≡ b → Fault delimiters s ⊎ (Taken × Stage delimiters s (ls ++ lexeme_at EndBlock e.hyphen p e.to ∷ []) outside e.to)
      by_taken closer is true h = let taken : Taken = λ c k. ap (takes (open_blocks s (significant (before_tag ls)))) (same_closer c closer (sym k ∙ is)) ∙ h in inr (taken, taken_end taken)
      by_taken closer is false h =
          let reason = codes "unexpected " ++ (in_quotes (closer_words closer) ++ codes " block") in
          inl (
            span_of e.tag.begin.m e.to,
            reason,
            first_at delimiters s p (span_of e.tag.begin.m e.to) reason e.tag.stage.before unexpected_block (record {
              lexemes = ls;
              in_path = path;
              reads = e.tag.stage.reads;
              hyphen = e.hyphen;
              to = e.to;
              ends = e.ends;
              whole = ended_tag delimiters s texts utf8 text block ls path p e refl;
              closer = closer;
              closing = is;
              refused = h;
              begin = e.tag.begin;
              begins = e.tag.opening;
              at = refl;
              words = refl;
            }) (least_block delimiters s texts block path p ls e.tag.stage e.tag.ps e.next e.tag.occurs EndBlock e.hyphen e.to step e.brackets e.leads (λ x. cc) (λ x. cc) (λ x. cc)),
          )

      by_closer : (o : Option Closer) → closer_of s all ≡ o → Fault delimiters s ⊎ (Taken × Stage delimiters s (ls ++ lexeme_at EndBlock e.hyphen p e.to ∷ []) outside e.to)
      by_closer None is = let taken : Taken = λ c k. absurd (let x : None ≡ Some c = sym is ∙ k in cc) in inr (taken, taken_end taken)
      by_closer (Some closer) is = by_taken closer is (takes (open_blocks s (significant (before_tag ls))) closer) refl
