-- Whether some tokens of a text may be one after the other and no fault holds among them, as a test that computes.
use Rattle.std.proofs.Common.{◌≡◌, inl, ℕ, ◌==◌, ◌&&◌, List, [], ◌∷◌, ◌++◌, Bool, true, false, Option, Some, None, refl, sym, ap, ◌∙◌, subst, arith}
use Rattle.std.proofs.lemmas.List.{append_assoc, append-nil}
use Rattle.upon_types.specs.declared.types.Span.{Span}
use Rattle.upon_types.specs.declared.types.token.Token.{Token}
use Rattle.upon_types.specs.declared.types.token.Token.TheVariants.{EndExpr, EndBlock, EndComment, CloseBracket, CloseBrace, CloseParen, Number, Index, String}
use Rattle.upon_types.specs.Span.{slice}
use Rattle.upon_language_spec.specs.DefaultDelimiters.{default_delimiters}
use Rattle.upon_language_spec.proofs.Computation.DefaultTexts.{default_texts}
use Rattle.upon_language_spec.specs.Delimiters.{Sort, block}
use Rattle.upon_language_spec.specs.Cut.{Lexeme, Mode, outside, in_tag, in_comment, IsToken, mode_after}
use Rattle.upon_language_spec.specs.Tokens.{is_space}
use Rattle.upon_language_spec.specs.Tags.{symbol_of, symbols_of}
use Rattle.upon_language_spec.specs.Reading.{last_of}
use Rattle.upon_language_spec.specs.Faults.{span_of, lexeme_at, tag_tokens, closes_first}
use Rattle.upon_language_spec.specs.LaterFaults.{number_report, UnexpectedBlock}
use Rattle.upon_language_spec.specs.Blocks.{Closer, closer_of}
use Rattle.upon_language_spec.specs.LexStep.{BracketsFit}
use Rattle.upon_language_spec.specs.Lexing.{brackets_in}
use Rattle.upon_language_spec.specs.Parts.{Part, tag_start, Path, after_symbol}
use Rattle.upon_language_spec.proofs.OneCut.Token.{step_ends}
use Rattle.upon_language_spec.proofs.Computation.Tests.{left_true, right_true, same_number}
use Rattle.upon_language_spec.specs.OpenParts.{StandsAt}
use Rattle.upon_language_spec.proofs.Totality.FittingClears.{NoLaterFault, alike, in_mode, fitting_clears}
use Rattle.upon_language_spec.specs.Stages.{Stage}
use Rattle.upon_language_spec.proofs.Totality.Stage.{start, on, outside_is_clear}
use Rattle.upon_language_spec.proofs.Computation.WholeCut.{step_test, step_tested}
use Rattle.upon_language_spec.proofs.Computation.NoCut.{last_mode}

-- ---- the parts that a row leaves
abbrev pub left_by : List ℕ → Option (List Part) → List Lexeme → Option (List Part)
left_by s None ls = None
left_by s (Some ps) [] = Some ps
left_by s (Some ps) (l ∷ ls) = left_by s (after_symbol ps (symbol_of s l)) ls

none_left : (s : List ℕ) (ls : List Lexeme) (to : List Part) → left_by s None ls ≡ Some to → ⊥
none_left s ls to h = absurd cc

leads : (s : List ℕ) (ps to : List Part) (ls : List Lexeme) → left_by s (Some ps) ls ≡ Some to → Path ps (symbols_of s ls) to
leads s ps to [] h = let same : ps ≡ to = cc in subst (λ x. Path ps [] x) same refl
leads s ps to (l ∷ ls) h = by_next (after_symbol ps (symbol_of s l)) refl h (λ next. leads s next to ls)
  where
    by_next : (o : Option (List Part)) → after_symbol ps (symbol_of s l) ≡ o → left_by s o ls ≡ Some to → ((next : List Part) → left_by s (Some next) ls ≡ Some to → Path next (symbols_of s ls) to) → Path ps (symbols_of s (l ∷ ls)) to
    by_next None e k others = absurd (none_left s ls to k)
    by_next (Some next) e k others = (next, e, others next k)

-- the tokens of the open tag leave these parts
pub stands_tested : (s : List ℕ) (ls : List Lexeme) (ps : List Part) → left_by s (Some (tag_start ∷ [])) (tag_tokens ls) ≡ Some ps → StandsAt s ls ps
stands_tested s ls ps h = leads s (tag_start ∷ []) ps (tag_tokens ls) h

-- ---- tests of one token
abbrev pub is_none : {A : Type 0} → Option A → Bool
is_none None = true
is_none (Some x) = false

none_is : {A : Type 0} (o : Option A) → is_none o ≡ true → o ≡ None
none_is None h = refl
none_is (Some x) h = absurd cc

abbrev pub no_brackets : List Lexeme → Bool
no_brackets [] = true
no_brackets (l ∷ ls) = false

no_brackets_is : (ls : List Lexeme) → no_brackets ls ≡ true → ls ≡ []
no_brackets_is [] h = refl
no_brackets_is (l ∷ ls) h = absurd cc

-- whether the open brackets let the token are
abbrev pub brackets_test : List Lexeme → Token → Bool
brackets_test brackets EndExpr = no_brackets brackets
brackets_test brackets EndBlock = no_brackets brackets
brackets_test brackets EndComment = no_brackets brackets
brackets_test brackets CloseBracket = closes_first brackets CloseBracket
brackets_test brackets CloseBrace = closes_first brackets CloseBrace
brackets_test brackets CloseParen = closes_first brackets CloseParen
brackets_test brackets t = true

pub brackets_tested : (brackets : List Lexeme) (t : Token) → brackets_test brackets t ≡ true → BracketsFit brackets t
brackets_tested brackets EndExpr h = no_brackets_is brackets h
brackets_tested brackets EndBlock h = no_brackets_is brackets h
brackets_tested brackets EndComment h = no_brackets_is brackets h
brackets_tested brackets CloseBracket h = h
brackets_tested brackets CloseBrace h = h
brackets_tested brackets CloseParen h = h
brackets_tested brackets t h = tt

-- whether a token has no fault of its own: a number that is an integer, a tag's end that closes no block, no index and no string
abbrev pub fine_test : List ℕ → List Lexeme → Token → Bool → ℕ → ℕ → Bool
fine_test s done Number hyphen p to = is_none (number_report (slice s (span_of p to)) (last_of (tag_tokens done)) p to)
fine_test s done Index hyphen p to = false
fine_test s done String hyphen p to = false
fine_test s done EndBlock hyphen p to = is_none (closer_of s (tag_tokens done ++ lexeme_at EndBlock hyphen p to ∷ []))
fine_test s done t hyphen p to = true

abbrev pub some_left : Bool → Option (List Part) → Bool
some_left true o = true
some_left false o = (elim o as (λ _. Bool) [ None ↦ false | Some ps ↦ true ])

abbrev pub leads_test : List ℕ → Token → Lexeme → Option (List Part) → Bool
leads_test s t l None = false
leads_test s t l (Some ps) = some_left (is_space t) (after_symbol ps (symbol_of s l))

-- whether the token may be after the tokens before it, in this mode
abbrev pub token_test : List ℕ → List Lexeme → Mode → Token → Bool → ℕ → ℕ → Bool
token_test s done outside t hyphen p to = true
token_test s done (in_tag sort path) t hyphen p to = fine_test s done t hyphen p to && leads_test s t (lexeme_at t hyphen p to) (left_by s (Some (tag_start ∷ [])) (tag_tokens done))
token_test s done in_comment t hyphen p to = false

-- whether a token is there, and may
abbrev pub next_test : List ℕ → List Lexeme → Mode → Token → Bool → ℕ → ℕ → Bool
next_test s done mode t hyphen p to = step_test default_delimiters s mode t hyphen p to && (brackets_test (brackets_in mode done) t && token_test s done mode t hyphen p to)

-- whether these tokens are there one after the other, each where it may, up to n
abbrev pub walk_test : List ℕ → List Lexeme → Mode → ℕ → ℕ → List Lexeme → Bool
walk_test s done mode p n [] = p == n
walk_test s done mode p n (l ∷ ls) = (l.span.m == p) && (next_test s done mode l.token l.hyphen p l.span.n && walk_test s (done ++ lexeme_at l.token l.hyphen p l.span.n ∷ []) (mode_after mode l.token) l.span.n n ls)

-- ---- what they show
no_number : (s : List ℕ) (done : List Lexeme) (t : Token) (hyphen : Bool) (p to : ℕ) → fine_test s done t hyphen p to ≡ true → t ≡ Number → number_report (slice s (span_of p to)) (last_of (tag_tokens done)) p to ≡ None
no_number s done t hyphen p to h e = none_is _ (sym (ap (λ (u : Token). fine_test s done u hyphen p to) e) ∙ h)

no_index : (s : List ℕ) (done : List Lexeme) (t : Token) (hyphen : Bool) (p to : ℕ) → fine_test s done t hyphen p to ≡ true → t ≡ Index → ⊥
no_index s done t hyphen p to h e = let k : false ≡ true = sym (ap (λ (u : Token). fine_test s done u hyphen p to) e) ∙ h in cc

no_string : (s : List ℕ) (done : List Lexeme) (t : Token) (hyphen : Bool) (p to : ℕ) → fine_test s done t hyphen p to ≡ true → t ≡ String → ⊥
no_string s done t hyphen p to h e = let k : false ≡ true = sym (ap (λ (u : Token). fine_test s done u hyphen p to) e) ∙ h in cc

no_closer : (s : List ℕ) (done : List Lexeme) (t : Token) (hyphen : Bool) (p to : ℕ) → fine_test s done t hyphen p to ≡ true → t ≡ EndBlock → closer_of s (tag_tokens done ++ lexeme_at EndBlock hyphen p to ∷ []) ≡ None
no_closer s done t hyphen p to h e = none_is _ (sym (ap (λ (u : Token). fine_test s done u hyphen p to) e) ∙ h)

some_closer : (o : Option Closer) (c : Closer) → o ≡ Some c → o ≡ None → ⊥
some_closer o c h k = cc

module _ (s : List ℕ) (done : List Lexeme) (sort : Sort) (path : Bool) (p : ℕ) (stage : Stage default_delimiters s done (in_tag sort path) p) (t : Token) (hyphen : Bool) (to : ℕ) (step : IsToken default_delimiters s (in_tag sort path) t hyphen p to) (fine : fine_test s done t hyphen p to ≡ true) where
  not_taken : t ≡ EndBlock → (place : Span) (reason : List ℕ) → UnexpectedBlock default_delimiters s p place reason → ⊥
  not_taken e place reason h =
      let a = alike default_delimiters s default_texts sort path p to done t hyphen stage.reads step h.lexemes (in_tag block h.in_path) h.reads in
      let b = in_mode default_delimiters s default_texts sort path p to done t hyphen stage.reads step (in_tag block h.in_path) EndBlock h.hyphen h.to a.1 (inl (refl, h.ends)) in
      some_closer _ h.closer (sym (λ i. closer_of s (tag_tokens (a.0 i) ++ lexeme_at EndBlock (b.1 i) p (b.2 i) ∷ [])) ∙ h.closing) (no_closer s done t hyphen p to fine e)

  fits : (ps next : List Part) → StandsAt s done ps → (is_space t ≡ false → after_symbol ps (symbol_of s (lexeme_at t hyphen p to)) ≡ Some next) → NoLaterFault default_delimiters s p
  fits ps next stands leads = fitting_clears default_delimiters s default_texts sort path p to done t hyphen stage.reads step (record {
    ps = ps;
    occurs = stands;
    next = next;
    fits = leads;
    number = no_number s done t hyphen p to fine;
    index = λ e. absurd (no_index s done t hyphen p to fine e);
    string = λ e. absurd (no_string s done t hyphen p to fine e);
    taken = not_taken;
  })

  by_next : (ps : List Part) → StandsAt s done ps → (b : Bool) (o : Option (List Part)) → is_space t ≡ b → after_symbol ps (symbol_of s (lexeme_at t hyphen p to)) ≡ o → some_left b o ≡ true → NoLaterFault default_delimiters s p
  by_next ps stands true o e f h = fits ps ps stands (λ k. absurd (let x : true ≡ false = sym e ∙ k in cc))
  by_next ps stands false None e f h = absurd cc
  by_next ps stands false (Some next) e f h = fits ps next stands (λ k. f)

  by_parts : (o : Option (List Part)) → left_by s (Some (tag_start ∷ [])) (tag_tokens done) ≡ o → leads_test s t (lexeme_at t hyphen p to) o ≡ true → NoLaterFault default_delimiters s p
  by_parts None e h = absurd cc
  by_parts (Some ps) e h = by_next ps (stands_tested s done ps e) (is_space t) (after_symbol ps (symbol_of s (lexeme_at t hyphen p to))) refl refl h

clear_here : (s : List ℕ) (done : List Lexeme) (mode : Mode) (p : ℕ) (stage : Stage default_delimiters s done mode p) (t : Token) (hyphen : Bool) (to : ℕ) → IsToken default_delimiters s mode t hyphen p to → token_test s done mode t hyphen p to ≡ true → NoLaterFault default_delimiters s p
clear_here s done outside p stage t hyphen to step h = let ends = step_ends default_delimiters s outside t hyphen p to default_texts step in outside_is_clear default_delimiters s default_texts done outside p stage refl (omega (arith, ends.0, ends.1))
clear_here s done (in_tag sort path) p stage t hyphen to step h = by_parts s done sort path p stage t hyphen to step (left_true _ _ h) (left_by s (Some (tag_start ∷ [])) (tag_tokens done)) refl (right_true _ _ h)
clear_here s done in_comment p stage t hyphen to step h = absurd cc

next_stage : (s : List ℕ) (done : List Lexeme) (mode : Mode) (p : ℕ) (t : Token) (hyphen : Bool) (to : ℕ) → Stage default_delimiters s done mode p → next_test s done mode t hyphen p to ≡ true → Stage default_delimiters s (done ++ lexeme_at t hyphen p to ∷ []) (mode_after mode t) to
next_stage s done mode p t hyphen to stage h =
    let step = step_tested default_delimiters s mode t hyphen p to (left_true _ _ h) in
    let others = right_true _ _ h in
    on default_delimiters s default_texts done mode p stage t hyphen to step (brackets_tested (brackets_in mode done) t (left_true _ _ others)) (clear_here s done mode p stage t hyphen to step (right_true _ _ others))

walked_on : (s : List ℕ) (done : List Lexeme) (mode : Mode) (p n : ℕ) (ls : List Lexeme) → Stage default_delimiters s done mode p → walk_test s done mode p n ls ≡ true → Stage default_delimiters s (done ++ ls) (last_mode mode ls) n
walked_on s done mode p n [] stage h =
    let F : List Lexeme → Type 0 = λ x. Stage default_delimiters s x mode n in
    let G : ℕ → Type 0 = λ x. Stage default_delimiters s done mode x in
    subst F (sym (append-nil done)) (subst G (same_number _ _ h) stage)
walked_on s done mode p n (l ∷ ls) stage h =
    let rest = right_true _ _ h in
    let first : p ≡ l.span.m = sym (same_number _ _ (left_true _ _ h)) in
    let same : lexeme_at l.token l.hyphen p l.span.n ≡ l = λ i. lexeme_at l.token l.hyphen (first i) l.span.n in
    let further = walked_on s (done ++ lexeme_at l.token l.hyphen p l.span.n ∷ []) (mode_after mode l.token) l.span.n n ls (next_stage s done mode p l.token l.hyphen l.span.n stage (left_true _ _ rest)) (right_true _ _ rest) in
    let F : List Lexeme → Type 0 = λ x. Stage default_delimiters s x (last_mode (mode_after mode l.token) ls) n in
    subst F (append_assoc done (lexeme_at l.token l.hyphen p l.span.n ∷ []) ls ∙ ap (λ (x : Lexeme). done ++ x ∷ ls) same) further

-- to n no fault holds, and the text reads to there
pub walked : (s : List ℕ) (ls : List Lexeme) (n : ℕ) → walk_test s [] outside 0 n ls ≡ true → Stage default_delimiters s ls (last_mode outside ls) n
walked s ls n h = walked_on s [] outside 0 n ls (start default_delimiters s) h
