-- One tag, from the end of its begin: the text's first fault, or the whole tag's tokens.
use Rattle.std.proofs.Common.{◌≡◌, ◌⊎◌, inl, inr, ℕ, zero, suc, ◌<◌, ◌+◌, List, [], ◌∷◌, ◌++◌, length, Bool, true, false, Option, Some, None, refl, sym, ap, ◌∙◌, subst, arith, codes, append_assoc}
use Rattle.std.proofs.lemmas.List.{map-append, append-nil}
use Rattle.std.proofs.lemmas.Bool.{cases_lt}
use Rattle.std.specs.Str.{IsUtf8}
use Rattle.upon_types.specs.declared.types.Span.{Span}
use Rattle.upon_types.specs.declared.types.token.Token.{Token}
use Rattle.upon_types.specs.declared.types.token.Token.TheVariants.{EndBlock, Number, Index, String}
use Rattle.upon_language_spec.specs.Search.{DelimiterText, HasTexts}
use Rattle.upon_language_spec.specs.LiesIn.{HasUtf8}
use Rattle.upon_language_spec.specs.Delimiters.{Sort, expression, block, comment, end_token}
use Rattle.upon_language_spec.specs.Cut.{Lexeme, Mode, outside, in_tag, IsToken, Ends, Cut}
use Rattle.upon_language_spec.specs.Inside.{IsInside, in_path_after}
use Rattle.upon_language_spec.specs.InTags.{is_inside, EachInside, ends_a_tag, last_or, StandsFor, EachStands}
use Rattle.upon_language_spec.proofs.NoTreeWithFault.InsideTag.{extent_is_inside, end_is_no_space, inside_stays, inside_is_no_begin, space_step, no_space_step}
use Rattle.upon_language_spec.specs.Tokens.{is_space}
use Rattle.upon_language_spec.specs.Reading.{open_tag, first_span}
use Rattle.upon_language_spec.specs.Tags.{IsTag, Symbol, symbol_of, symbols_of, word_of}
use Rattle.upon_language_spec.specs.Faults.{span_of, lexeme_at, tag_tokens, tag_row}
use Rattle.upon_language_spec.specs.Wanted.{reason_for, wanted_at_end, expected_found}
use Rattle.upon_language_spec.proofs.NoTreeWithFault.SplitInTag.{last_or_none}
use Rattle.upon_language_spec.proofs.OneCut.Token.{step_ends}
use Rattle.upon_language_spec.proofs.OneCut.Cut.{cut_ends}
use Rattle.upon_language_spec.specs.LexStep.{BracketsFit}
use Rattle.upon_language_spec.specs.Lexing.{brackets_in}
use Rattle.upon_language_spec.specs.Keys.{keyword_of}
use Rattle.upon_language_spec.specs.Parts.{Part, tag_start, after_symbol, Path}
use Rattle.upon_language_spec.proofs.Wanted.WantedAt.{path_one}
use Rattle.upon_language_spec.proofs.Totality.FittingClears.{fitting_clears, stuck_token, stuck_end, first_stuck}
use Rattle.upon_language_spec.proofs.Totality.InsideClear.{tokens_more, from_more}
use Rattle.upon_language_spec.proofs.Totality.First.{end_is_first}
use Rattle.upon_language_spec.specs.Stages.{Stage, TagAt, EndsAt}
use Rattle.upon_language_spec.proofs.Totality.Stage.{on, clear_to}
use Rattle.upon_language_spec.proofs.Totality.NextOrFault.{Next, next_or_fault}
use Rattle.upon_language_spec.proofs.Totality.TagTree.{whole_tag}
use Rattle.upon_language_spec.proofs.Wanted.Opened.{some_wanted, open_on, end_leaves_nothing}
use Rattle.upon_language_spec.proofs.Totality.LiteralHere.{Fault, FineHere, literal_here}
use Rattle.upon_language_spec.proofs.NoTreeWithFault.NextToken.{inside_ends_nothing}

each_snoc : (s : List ℕ) (before : Option Lexeme) (xs : List Lexeme) (l : Lexeme) → EachStands s before xs → StandsFor s (last_or before xs) l.token l → EachStands s before (xs ++ l ∷ [])
each_snoc s before [] l each h = (h, tt)
each_snoc s before (x ∷ xs) l each h = (each.0, each_snoc s (Some x) xs l each.1 h)

pub first_stays : (xs ys : List Lexeme) (at : Span) → first_span xs ≡ Some at → first_span (xs ++ ys) ≡ Some at
first_stays [] ys at h = absurd cc
first_stays (x ∷ xs) ys at h = h

-- one more token inside
pub record GoesOn (delimiters : List DelimiterText) (s : List ℕ) (sort : Sort) (ls : List Lexeme) (path : Bool) (p : ℕ) : Type 0 where
  pub t : Token
  pub to : ℕ
  pub inner : IsInside delimiters s path t p to
  pub inside : is_inside t ≡ true
  pub further : p < to
  pub tag : TagAt delimiters s sort (ls ++ lexeme_at t false p to ∷ []) (in_path_after path t) to

module _ (delimiters : List DelimiterText) (s : List ℕ) (texts : HasTexts delimiters) (utf8 : HasUtf8 delimiters) (text : IsUtf8 s) (sort : Sort) where
  module _ (ls : List Lexeme) (path : Bool) (p : ℕ) (at : TagAt delimiters s sort ls path p) where
    abbrev StepOr : Type 0
    StepOr = Fault delimiters s ⊎ (GoesOn delimiters s sort ls path p ⊎ EndsAt delimiters s sort ls path p)

    -- the text ends in the tag
    at_end : p ≡ length s → StepOr
    at_end e =
        let w = some_wanted at.ps at.still in
        inl (span_of p p, expected_found (wanted_at_end w.0) (codes "EOF"), end_is_first delimiters s texts p (span_of p p) (expected_found (wanted_at_end w.0) (codes "EOF")) e at.stage.before (stuck_end delimiters s p ls sort path at.stage.reads at.ps at.occurs w.0 e w.1))

    module _ (t : Token) (hyphen : Bool) (to : ℕ) (step : IsToken delimiters s (in_tag sort path) t hyphen p to) (brackets : BracketsFit (brackets_in (in_tag sort path) ls) t) where
      -- a token that may not be there
      refused : is_space t ≡ false → after_symbol at.ps (symbol_of s (lexeme_at t hyphen p to)) ≡ None → StepOr
      refused counts none =
          let w = some_wanted at.ps at.still in
          let ends = step_ends delimiters s (in_tag sort path) t hyphen p to texts step in
          let reason = reason_for w.0 t (word_of s t (span_of p to)) in
          inl (span_of p to, reason, first_stuck delimiters s texts p to (span_of p to) reason ends.0 at.stage.before (clear_to delimiters s texts ls (in_tag sort path) p at.stage t hyphen to step brackets) (stuck_token delimiters s p ls sort path at.stage.reads at.ps at.occurs t hyphen to w.0 step counts none w.1))

    module _ (t : Token) (to : ℕ) (inner : IsInside delimiters s path t p to) (brackets : BracketsFit (brackets_in (in_tag sort path) ls) t) where
      l : Lexeme
      l = lexeme_at t false p to

      inside : is_inside t ≡ true
      inside = extent_is_inside s t p to inner.extent

      more : open_tag (ls ++ lexeme_at t false p to ∷ []) ≡ open_tag ls ++ lexeme_at t false p to ∷ []
      more = from_more [] ls (lexeme_at t false p to) (inside_is_no_begin t inside)

      not_end : t ≡ EndBlock → ⊥
      not_end e = let x : is_inside t ≡ false = ap is_inside e in let y = inside in cc

      not_space : (u : Token) → is_space u ≡ false → is_space t ≡ true → t ≡ u → ⊥
      not_space u h k e = let x : is_space t ≡ is_space u = ap is_space e in cc

      -- the stage after it
      behind_it : (next : List Part) → (is_space t ≡ false → after_symbol at.ps (symbol_of s (lexeme_at t false p to)) ≡ Some next) → (is_space t ≡ true → ⊥) ⊎ (is_space t ≡ true) → (is_space t ≡ false → FineHere s ls p t false to) → Stage delimiters s (ls ++ lexeme_at t false p to ∷ []) (in_tag sort (in_path_after path t)) to
      behind_it next leads kind fine =
          let F : Mode → Type 0 = λ m. Stage delimiters s (ls ++ lexeme_at t false p to ∷ []) m to in
          subst F (inside_stays sort path t inside) (on delimiters s texts ls (in_tag sort path) p at.stage t false to (inr (refl, inner)) brackets (fitting_clears delimiters s texts sort path p to ls t false at.stage.reads (inr (refl, inner)) (record {
            ps = at.ps;
            occurs = at.occurs;
            next = next;
            fits = leads;
            number = λ e. by_kind (λ h. absurd (not_space Number refl h e)) (λ f. f.number e);
            index = λ e. by_kind (λ h. absurd (not_space Index refl h e)) (λ f. f.index e);
            string = λ e. by_kind (λ h. absurd (not_space String refl h e)) (λ f. f.string e);
            taken = λ e. absurd (not_end e);
          })))
        where
          by_bool : {G : Type 0} (b : Bool) → is_space t ≡ b → (is_space t ≡ true → G) → (FineHere s ls p t false to → G) → G
          by_bool true e a b = a e
          by_bool false e a b = b (fine e)

          by_kind : {G : Type 0} → (is_space t ≡ true → G) → (FineHere s ls p t false to → G) → G
          by_kind a b = by_bool (is_space t) refl a b

      space : is_space t ≡ true → GoesOn delimiters s sort ls path p
      space e =
          let ends = step_ends delimiters s (in_tag sort path) t false p to texts (inr (refl, inner)) in
          let tokens : tag_tokens (ls ++ lexeme_at t false p to ∷ []) ≡ tag_tokens ls = tokens_more ls (lexeme_at t false p to) (inside_is_no_begin t inside) ∙ ap (λ (x : List Lexeme). tag_tokens ls ++ x) (space_step (lexeme_at t false p to) [] e) ∙ append-nil (tag_tokens ls) in
          let F : List Lexeme → Type 0 = λ x. Path (tag_start ∷ []) (symbols_of s x) at.ps in
          let G : List Lexeme → Type 0 = λ x. EachStands s None x in
          record {
            t = t;
            to = to;
            inner = inner;
            inside = inside;
            further = ends.0;
            tag = record {
              stage = behind_it at.ps (λ f. absurd cc) (inr e) (λ f. absurd cc);
              ps = at.ps;
              occurs = subst F (sym tokens) at.occurs;
              still = at.still;
              each = subst G (sym tokens) at.each;
              begin = at.begin;
              opening = ap first_span more ∙ first_stays (open_tag ls) (lexeme_at t false p to ∷ []) at.begin at.opening;
            };
          }

      kept : (next : List Part) → is_space t ≡ false → after_symbol at.ps (symbol_of s (lexeme_at t false p to)) ≡ Some next → FineHere s ls p t false to → GoesOn delimiters s sort ls path p
      kept next e leads fine =
          let ends = step_ends delimiters s (in_tag sort path) t false p to texts (inr (refl, inner)) in
          let tokens : tag_tokens (ls ++ lexeme_at t false p to ∷ []) ≡ tag_tokens ls ++ lexeme_at t false p to ∷ [] = tokens_more ls (lexeme_at t false p to) (inside_is_no_begin t inside) ∙ ap (λ (x : List Lexeme). tag_tokens ls ++ x) (no_space_step (lexeme_at t false p to) [] e) in
          let row : tag_row s (ls ++ lexeme_at t false p to ∷ []) ≡ tag_row s ls ++ symbol_of s (lexeme_at t false p to) ∷ [] = ap (symbols_of s) tokens ∙ map-append (symbol_of s) (tag_tokens ls) (lexeme_at t false p to ∷ []) in
          let F : List Symbol → Type 0 = λ x. Path (tag_start ∷ []) x next in
          let G : List Lexeme → Type 0 = λ x. EachStands s None x in
          let H : Option Lexeme → Type 0 = λ o. StandsFor s o t (lexeme_at t false p to) in
          record {
            t = t;
            to = to;
            inner = inner;
            inside = inside;
            further = ends.0;
            tag = record {
              stage = behind_it next (λ f. leads) (inl (λ f. absurd cc)) (λ f. fine);
              ps = next;
              occurs = subst F (sym row) (path_one (tag_row s ls) (tag_start ∷ []) at.ps next (symbol_of s (lexeme_at t false p to)) at.occurs leads);
              still = open_on at.ps next t (keyword_of (word_of s t (span_of p to))) at.still (inside_ends_nothing t inside) leads;
              each = subst G (sym tokens) (each_snoc s None (tag_tokens ls) (lexeme_at t false p to) at.each (subst H (last_or_none (tag_tokens ls)) fine.value));
              begin = at.begin;
              opening = ap first_span more ∙ first_stays (open_tag ls) (lexeme_at t false p to ∷ []) at.begin at.opening;
            };
          }

      inner_step : StepOr
      inner_step = by_space (is_space t) refl
        where
          by_value : (next : List Part) → is_space t ≡ false → after_symbol at.ps (symbol_of s (lexeme_at t false p to)) ≡ Some next → Fault delimiters s ⊎ FineHere s ls p t false to → StepOr
          by_value next e leads (inl fault) = inl fault
          by_value next e leads (inr fine) = inr (inl (kept next e leads fine))

          by_leads : is_space t ≡ false → (o : Option (List Part)) → after_symbol at.ps (symbol_of s (lexeme_at t false p to)) ≡ o → StepOr
          by_leads e None none = refused t false to (inr (refl, inner)) brackets e none
          by_leads e (Some next) leads = by_value next e leads (literal_here delimiters s texts sort path p ls at.stage at.ps next at.occurs to t inner brackets leads)

          by_space : (b : Bool) → is_space t ≡ b → StepOr
          by_space true e = inr (inl (space e))
          by_space false e = by_leads e (after_symbol at.ps (symbol_of s (lexeme_at t false p to))) refl

    end_step : (hyphen : Bool) (to : ℕ) → Ends delimiters s sort hyphen p to → BracketsFit (brackets_in (in_tag sort path) ls) (end_token sort) → StepOr
    end_step hyphen to ends brackets = by_leads (after_symbol at.ps (symbol_of s (lexeme_at (end_token sort) hyphen p to))) refl
      where
        by_leads : (o : Option (List Part)) → after_symbol at.ps (symbol_of s (lexeme_at (end_token sort) hyphen p to)) ≡ o → StepOr
        by_leads None none = refused (end_token sort) hyphen to (inl (refl, ends)) brackets (end_is_no_space sort) none
        by_leads (Some next) leads = inr (inr (record { tag = at; hyphen = hyphen; to = to; ends = ends; brackets = brackets; next = next; leads = leads }))

    -- the fault, or one more token, or the tag's end
    pub tag_step : StepOr
    tag_step = elim (cases_lt p (length s)) [
      | inl below ↦ by_next (next_or_fault delimiters s texts utf8 text ls (in_tag sort path) p at.stage (inr (at.begin, sort, refl, at.opening)) below)
      | inr above ↦ at_end (omega (arith, above, (cut_ends delimiters s texts outside (in_tag sort path) 0 p ls (omega arith) at.stage.reads).1))
    ]
      where
        by_step : (t : Token) (hyphen : Bool) (to : ℕ) → IsToken delimiters s (in_tag sort path) t hyphen p to → BracketsFit (brackets_in (in_tag sort path) ls) t → StepOr
        by_step t hyphen to (inl end) brackets = let F : Token → Type 0 = λ u. BracketsFit (brackets_in (in_tag sort path) ls) u in end_step hyphen to end.1 (subst F end.0 brackets)
        by_step t hyphen to (inr inner) brackets = inner_step t to inner.1 brackets

        by_next : Fault delimiters s ⊎ Next delimiters s ls (in_tag sort path) p → StepOr
        by_next (inl fault) = inl fault
        by_next (inr next) = by_step next.t next.hyphen next.to next.step next.fits

  -- through the tag: its tokens inside, and its end
  pub record ThroughTag (ls : List Lexeme) (path : Bool) (p : ℕ) : Type 0 where
    pub inner : List Lexeme
    pub each : EachInside inner
    pub path' : Bool
    pub q : ℕ
    pub cut : Cut delimiters s (in_tag sort path) p inner (in_tag sort path') q
    pub end : EndsAt delimiters s sort (ls ++ inner) path' q

  joined : (ls : List Lexeme) (path : Bool) (p : ℕ) (g : GoesOn delimiters s sort ls path p) → ThroughTag (ls ++ lexeme_at g.t false p g.to ∷ []) (in_path_after path g.t) g.to → ThroughTag ls path p
  joined ls path p g r =
      let F : Mode → Type 0 = λ m. Cut delimiters s m g.to r.inner (in_tag sort r.path') r.q in
      let G : List Lexeme → Type 0 = λ x. EndsAt delimiters s sort x r.path' r.q in
      record {
        inner = lexeme_at g.t false p g.to ∷ r.inner;
        each = (g.inside, r.each);
        path' = r.path';
        q = r.q;
        cut = (refl, inr (refl, g.inner), subst F (sym (inside_stays sort path g.t g.inside)) r.cut);
        end = subst G (append_assoc ls (lexeme_at g.t false p g.to ∷ []) r.inner) r.end;
      }

  pub through_tag : (k : ℕ) (ls : List Lexeme) (path : Bool) (p : ℕ) → length s < p + k → TagAt delimiters s sort ls path p → Fault delimiters s ⊎ ThroughTag ls path p
  through_tag zero ls path p l at = absurd (omega (arith, l, (cut_ends delimiters s texts outside (in_tag sort path) 0 p ls (omega arith) at.stage.reads).1))
  through_tag (suc k) ls path p l at = by_step (tag_step ls path p at) (λ g. through_tag k (ls ++ lexeme_at g.t false p g.to ∷ []) (in_path_after path g.t) g.to (omega (arith, l, g.further)) g.tag)
    where
      further : (g : GoesOn delimiters s sort ls path p) → Fault delimiters s ⊎ ThroughTag (ls ++ lexeme_at g.t false p g.to ∷ []) (in_path_after path g.t) g.to → Fault delimiters s ⊎ ThroughTag ls path p
      further g (inl fault) = inl fault
      further g (inr r) = inr (joined ls path p g r)

      by_step : Fault delimiters s ⊎ (GoesOn delimiters s sort ls path p ⊎ EndsAt delimiters s sort ls path p) → ((g : GoesOn delimiters s sort ls path p) → Fault delimiters s ⊎ ThroughTag (ls ++ lexeme_at g.t false p g.to ∷ []) (in_path_after path g.t) g.to) → Fault delimiters s ⊎ ThroughTag ls path p
      by_step (inl fault) others = inl fault
      by_step (inr (inl g)) others = further g (others g)
      by_step (inr (inr e)) others =
          let G : List Lexeme → Type 0 = λ x. EndsAt delimiters s sort x path p in
          inr (record { inner = []; each = tt; path' = path; q = p; cut = (refl, refl); end = subst G (sym (append-nil ls)) e })

  end_stands : (x : Sort) (o : Option Lexeme) (m : Lexeme) → StandsFor s o (end_token x) m
  end_stands expression o m = tt
  end_stands block o m = tt
  end_stands comment o m = tt

  -- the tokens of a tag that is ended are a whole tag
  pub ended_tag : (ls : List Lexeme) (path : Bool) (p : ℕ) (e : EndsAt delimiters s sort ls path p) → ends_a_tag (end_token sort) ≡ true → IsTag s (tag_tokens ls ++ lexeme_at (end_token sort) e.hyphen p e.to ∷ []) []
  ended_tag ls path p e h =
      let end = lexeme_at (end_token sort) e.hyphen p e.to in
      let none = end_leaves_nothing e.tag.ps e.next (end_token sort) (keyword_of (word_of s (end_token sort) (span_of p e.to))) e.tag.still h e.leads in
      let F : List Part → Type 0 = λ x. Path (tag_start ∷ []) (tag_row s ls ++ symbol_of s end ∷ []) x in
      let G : List Symbol → Type 0 = λ x. Path (tag_start ∷ []) x [] in
      whole_tag s (tag_tokens ls ++ end ∷ [])
      (subst G (sym (map-append (symbol_of s) (tag_tokens ls) (end ∷ []))) (subst F none (path_one (tag_row s ls) (tag_start ∷ []) e.tag.ps e.next (symbol_of s end) e.tag.occurs e.leads)))
      (each_snoc s None (tag_tokens ls) end e.tag.each (end_stands sort (last_or None (tag_tokens ls)) end))
