-- What is read as a tag leads on as the parts say.
use Rattle.std.proofs.Common.{◌≡◌, ℕ, ◌≤◌, ◌+◌, List, [], ◌∷◌, ◌++◌, length, Option, Some, None, refl, sym, ap, ◌∙◌, codes, arith}
use Rattle.std.proofs.lemmas.List.{map-append, length-append, length-map}
use Rattle.upon_types.specs.declared.types.token.Token.TheVariants.{EndBlock, Keyword}
use Rattle.upon_types.specs.Expression.{Expression}
use Rattle.upon_types.specs.BlockKinds.{opened_kind, block_word as word_of_block, end_word}
use Rattle.upon_language_spec.specs.Cut.{Lexeme}
use Rattle.upon_language_spec.specs.Tokens.{GoesBy}
use Rattle.upon_language_spec.specs.Grammar.{BeginsBlock, IsWordTag, AreGlobals}
use Rattle.upon_language_spec.specs.Tags.{Symbol, symbol_of, symbols_of, IsTag, an_inline, an_include, an_opening, an_else_if, an_else, an_end, BeginsTag}
use Rattle.upon_language_spec.specs.Keys.{keyword_of}
use Rattle.upon_language_spec.specs.Parts.{Part, a_base, filters, tag_start, end_expr, end_block, block_word, else_rest, include_name, include_rest, after, after_symbol, Path}
use Rattle.upon_language_spec.specs.PartLeads.{Leads}
use Rattle.upon_language_spec.proofs.BlockKinds.{kind_parts, after_begin, after_end, head_leads}
use Rattle.upon_language_spec.proofs.Wanted.ExpressionsLead.{leads_then, leads_nowhere, leads_key, leads_token, by_ending, base_takes, expression_leads, if_leads}
pub use Rattle.upon_language_spec.proofs.Wanted.ExpressionsLead.{tail_joins}

module _ (s : List ℕ) where
  block_leads : (word : List ℕ) (to : List Part) (ts us : List Lexeme) → BeginsBlock s word ts us → after (block_word ∷ []) Keyword (keyword_of word) ≡ Some to → Leads s (tag_start ∷ []) ts to us
  block_leads word to ts us (mid, begin, (span, g)) h = leads_then s (leads_token s begin (λ k. refl)) (leads_key s word g h)

  word_tag_leads : (word : List ℕ) (ts us : List Lexeme) → IsWordTag s word ts us → after (block_word ∷ []) Keyword (keyword_of word) ≡ Some (end_block ∷ []) → Leads s (tag_start ∷ []) ts [] us
  word_tag_leads word ts us (mid, begin, end) h = leads_then s (block_leads word (end_block ∷ []) ts mid begin h) (leads_token s end (λ k. refl))

  context_leads : (context : Option Expression) (ts us vs : List Lexeme) → AreGlobals s context ts us → GoesBy EndBlock us vs → Leads s (include_rest ∷ []) ts [] vs
  context_leads None ts us vs e end = leads_then s (leads_nowhere s (include_rest ∷ []) ts us e) (leads_token s end (λ k. refl))
  context_leads (Some e) ts us vs (mid, (span, g), read) end =
      let (ending, leads) = expression_leads s e mid us read in
      leads_then s (leads_key s (codes "with") g refl) (leads_then s (leads (a_base ∷ filters ∷ end_block ∷ []) (end_block ∷ []) (base_takes (filters ∷ end_block ∷ []))) (by_ending s ending (filters ∷ end_block ∷ []) end refl (λ k. refl)))

  pub tag_leads : (ts us : List Lexeme) → IsTag s ts us → Leads s (tag_start ∷ []) ts [] us
  tag_leads ts us (an_inline e span (begin, end, mid, last, opens, g, closes, f)) =
      let (ending, leads) = expression_leads s e mid last g in
      leads_then s (leads_token s (begin, opens) (λ k. refl)) (leads_then s (leads (a_base ∷ filters ∷ end_expr ∷ []) (end_expr ∷ []) (base_takes (filters ∷ end_expr ∷ []))) (by_ending s ending (filters ∷ end_expr ∷ []) (end, closes) refl (λ k. refl)))
  tag_leads ts us (an_include name context (start, mid, last, begin, named, given, end)) = leads_then s (block_leads (codes "include") (include_name ∷ []) ts start begin refl) (leads_then s (leads_token s (name.span, named.0) (λ k. refl)) (context_leads context mid last us given end))
  tag_leads ts us (an_opening tag e (mid, last, begin, g, end)) = leads_then s (block_leads (word_of_block (opened_kind tag)) (kind_parts (opened_kind tag)) ts mid begin (after_begin (opened_kind tag))) (head_leads s tag e mid last us g end)
  tag_leads ts us (an_else_if negated e (start, mid, last, begin, (span, word), g, end)) = leads_then s (block_leads (codes "else") (else_rest ∷ []) ts start begin refl) (leads_then s (leads_key s (codes "if") word refl) (if_leads s negated e mid last us g end))
  tag_leads ts us (an_else (mid, begin, end)) = leads_then s (block_leads (codes "else") (else_rest ∷ []) ts mid begin refl) (leads_token s end (λ k. refl))
  tag_leads ts us (an_end kind g) = word_tag_leads (end_word kind) ts us g (after_end kind)

-- ---- a row that begins a tag leads to some parts
too_long : (n k a b : ℕ) → n ≡ k → k ≡ a + b + 1 → n ≤ b → ⊥
too_long n k a b e f h = omega (arith, e, f, h)

path_within : (row more xs ys : List Symbol) (ps to : List Part) → row ++ more ≡ xs ++ ys → length ys ≤ length more → Path ps xs to → (mid : List Part) × Path ps row mid
path_within [] more xs ys ps to e h path = (ps, refl)
path_within (x ∷ row) more [] ys ps to e h path = absurd (too_long (length ys) (length (x ∷ (row ++ more))) (length row) (length more) (sym (ap length e)) (let f = length-append row more in omega (arith, f)) h)
path_within (x ∷ row) more (y ∷ xs) ys ps to e h (next, goes, path) =
    let (mid, others) = path_within row more xs ys next to (let f : row ++ more ≡ xs ++ ys = cc in f) h path in
    let same : x ≡ y = cc in
    (mid, (next, ap (after_symbol ps) same ∙ goes, others))

pub leads_on : (row : List Symbol) → BeginsTag row → (to : List Part) × Path (tag_start ∷ []) row to
leads_on row b =
    let lead = tag_leads b.text b.lexemes b.rest b.tag in
    let e : row ++ b.more ≡ symbols_of b.text lead.read ++ symbols_of b.text b.rest = sym b.begins ∙ ap (symbols_of b.text) lead.splits ∙ map-append (symbol_of b.text) lead.read b.rest in
    path_within row b.more (symbols_of b.text lead.read) (symbols_of b.text b.rest) (tag_start ∷ []) [] e (let f = length-map b.rest (symbol_of b.text) in omega (arith, f, b.within)) lead.path
