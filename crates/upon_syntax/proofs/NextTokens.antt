-- From one token to the next outside tags and in comments: what is known of the text so far.
use Rattle.std.proofs.Common.{◌≡◌, inl, inr, ℕ, ◌<◌, List, [], ◌∷◌, ◌++◌, length, Bool, true, Option, Some, Result, Ok, Err, refl, sym, ap, ◌∙◌, subst, arith}
use Rattle.std.specs.Result.{IsErrAnd, IfOk, IfErr}
use Rattle.std.proofs.lemmas.List.{append-nil}
use Rattle.upon_types.specs.declared.types.Span.{Span}
use Rattle.upon_types.specs.declared.types.token.Token.{Token}
use Rattle.upon_types.specs.declared.error.Error.{Error}
use Rattle.upon_types.specs.Error.{fault_of}
use Rattle.upon_types.specs.Fault.{syntax, bare_fault, fault_with_picture, OrMemory}
use Rattle.upon_language_spec.specs.Search.{DelimiterText, HasTexts}
use Rattle.upon_language_spec.specs.Cut.{Lexeme, Mode, outside, in_tag, in_comment, IsToken, Cut, mode_after}
use Rattle.upon_language_spec.specs.CutFaults.{ClearTo}
use Rattle.upon_language_spec.specs.Faults.{span_of}
use Rattle.upon_language_spec.specs.FirstFault.{IsFirstFault}
use Rattle.upon_language_spec.specs.Lexing.{LexerState, HasRead, begin_in, brackets_in, EachIsSpace, Lexes, LexesAfterSpace, IsCutError}
use Rattle.upon_language_spec.specs.Reading.{ReadsTo}
use Rattle.upon_language_spec.specs.Tokens.{is_space}
use Rattle.upon_language_spec.proofs.NoTreeWithFault.NextToken.{begin_is_no_space}
use Rattle.upon_language_spec.proofs.OneCut.Token.{step_ends}
use Rattle.upon_language_spec.proofs.Totality.First.{cut_is_first}
use Rattle.upon_language_spec.specs.Stages.{AllClear, Stage}
use Rattle.upon_language_spec.proofs.Totality.FittingClears.{NoLaterFault, clear_behind}
use Rattle.upon_syntax.specs.PieceReading.{ReadTo}
use Rattle.upon_syntax.specs.TagReading.{IsSyntaxError}
use Rattle.upon_syntax.proofs.CutParts.{cut_same, cut_rest}

-- outside tags and in comments
abbrev pub NoTag : Mode → Type 0
NoTag (in_tag sort path) = ⊥
NoTag mode = Unit {0}

-- what a result says, by what follows from it
pub ok_on : {A : Type 0} (P Q : A → Type 0) (r : Result A Error) → ((a : A) → P a → Q a) → IfOk r P → IfOk r Q
ok_on P Q (Ok a) f h = f a h
ok_on P Q (Err e) f h = tt

pub err_on : {A : Type 0} (P Q : Error → Type 0) (r : Result A Error) → ((e : Error) → P e → Q e) → IfErr r P → IfErr r Q
err_on P Q (Ok a) f h = tt
err_on P Q (Err e) f h = f e h

-- what holds of a text and its delimiters holds of the same ones after a call, and back
pub over : (P : List DelimiterText → List ℕ → Type 0) (d d' : List DelimiterText) (s s' : List ℕ) → d' ≡ d → s' ≡ s → P d s → P d' s'
over P d d' s s' e f h =
    let F : List DelimiterText → Type 0 = λ x. P x s' in
    let G : List ℕ → Type 0 = λ x. P d x in
    subst F (sym e) (subst G (sym f) h)

pub back : (P : List DelimiterText → List ℕ → Type 0) (d d' : List DelimiterText) (s s' : List ℕ) → d' ≡ d → s' ≡ s → P d' s' → P d s
back P d d' s s' e f h = over P d' d s' s (sym e) (sym f) h

-- an error that `?` hands on
pub handed_on : {A : Type 0} (P : Error → Type 0) (e : Error) (r : Result A Error) → IsErrAnd r (λ x. x ≡ e) → P e → IfErr r P
handed_on P e (Ok a) h k = absurd h
handed_on P e (Err x) h k = subst P (sym h) k

module _ (delimiters : List DelimiterText) (s : List ℕ) where
  -- ---- no whitespace is given there
  no_space_there : (mode : Mode) (t : Token) (hyphen : Bool) (m n : ℕ) → NoTag mode → IsToken delimiters s mode t hyphen m n → is_space t ≡ true → ⊥
  no_space_there outside t hyphen m n none (inl raw) h = let is = ap is_space raw.0 in cc
  no_space_there outside t hyphen m n none (inr begin) h = let is = ap is_space begin.1 ∙ begin_is_no_space begin.0 in cc
  no_space_there (in_tag sort path) t hyphen m n none step h = none
  no_space_there in_comment t hyphen m n none (inl raw) h = let is = ap is_space raw.0 in cc
  no_space_there in_comment t hyphen m n none (inr end) h = let is = ap is_space end.0 in cc

  no_spaces : (mode mode' : Mode) (p q : ℕ) (spaces : List Lexeme) → NoTag mode → Cut delimiters s mode p spaces mode' q → EachIsSpace spaces → spaces ≡ []
  no_spaces mode mode' p q [] none cut each = refl
  no_spaces mode mode' p q (l ∷ ls) none cut each = absurd (no_space_there mode l.token l.hyphen p l.span.n none cut.1 each.0)

  pub same_state : (a b : LexerState) (ls : List Lexeme) → HasRead delimiters s a ls → HasRead delimiters s b ls → a ≡ b
  same_state a b ls x y =
      let e = cut_same delimiters s outside a.mode b.mode 0 a.offset b.offset ls x.reads y.reads in
      let mode = e.0 in
      let offset = e.1 in
      let begin : a.begin ≡ b.begin = sym x.begin ∙ ap (λ (m : Mode). begin_in m ls) mode ∙ y.begin in
      let brackets : a.brackets ≡ b.brackets = sym x.brackets ∙ ap (λ (m : Mode). brackets_in m ls) mode ∙ y.brackets in
      let trims : a.trims ≡ b.trims = sym x.trims ∙ y.trims in
      let over : a.over ≡ b.over = x.not_over ∙ sym y.not_over in
      λ i. record { offset = offset i; mode = mode i; begin = begin i; brackets = brackets i; trims = trims i; over = over i }

  -- what a call gives there
  next_is : (before after : LexerState) (ls : List Lexeme) (result : Result (Option (Token × Span)) Error) → NoTag before.mode → HasRead delimiters s before ls → LexesAfterSpace delimiters s ls result after → Lexes delimiters s before ls result after
  next_is before after ls result none r h =
      let spaces = no_spaces before.mode h.start.mode before.offset h.start.offset h.spaces none (cut_rest delimiters s outside before.mode h.start.mode 0 before.offset h.start.offset ls h.spaces r.reads h.has_read.reads) h.each in
      let same : ls ++ h.spaces ≡ ls = ap (λ (x : List Lexeme). ls ++ x) spaces ∙ append-nil ls in
      let F : List Lexeme → Type 0 = λ x. HasRead delimiters s h.start x in
      let state : h.start ≡ before = same_state h.start before ls (subst F same h.has_read) r in
      let G : List Lexeme → Type 0 = λ x. Lexes delimiters s before x result after in
      let H : LexerState → Type 0 = λ x. Lexes delimiters s x (ls ++ h.spaces) result after in
      subst G same (subst H state h.gives)

  pub next_in : (before after : LexerState) (mode : Mode) (ls : List Lexeme) (result : Result (Option (Token × Span)) Error) → NoTag mode → ReadTo delimiters s before mode ls → LexesAfterSpace delimiters s ls result after → Lexes delimiters s before ls result after
  next_in before after mode ls result none r h = let F : Mode → Type 0 = λ m. NoTag m in next_is before after ls result (subst F (sym r.is) none) r.read h

  -- ---- one token further
  pub reads_in : (left : LexerState) (mode : Mode) (ls : List Lexeme) → ReadTo delimiters s left mode ls → ReadsTo delimiters s ls mode left.offset
  reads_in left mode ls r = let F : Mode → Type 0 = λ m. ReadsTo delimiters s ls m left.offset in subst F r.is r.read.reads

  pub stage_of : (left : LexerState) (mode : Mode) (ls : List Lexeme) → ReadTo delimiters s left mode ls → Stage delimiters s ls mode left.offset
  stage_of left mode ls r = record { reads = reads_in left mode ls r; before = r.clear }

  -- the token that was read
  pub record Step (before after : LexerState) (mode : Mode) (l : Lexeme) : Type 0 where
    pub from : l.span.m ≡ before.offset
    pub step : IsToken delimiters s mode l.token l.hyphen before.offset l.span.n
    pub mode_is : after.mode ≡ mode_after mode l.token
    pub to : l.span.n ≡ after.offset

  pub step_of : (before after : LexerState) (mode : Mode) (ls : List Lexeme) (l : Lexeme) → ReadTo delimiters s before mode ls → HasRead delimiters s after (ls ++ l ∷ []) → Step before after mode l
  step_of before after mode ls l r h =
      let cut = cut_rest delimiters s outside mode after.mode 0 before.offset after.offset ls (l ∷ []) (reads_in before mode ls r) h.reads in
      record { from = cut.0; step = cut.1; mode_is = sym cut.2.0; to = cut.2.1 }

  pub read_on : (texts : HasTexts delimiters) (before after : LexerState) (mode : Mode) (ls : List Lexeme) (l : Lexeme) → ReadTo delimiters s before mode ls → HasRead delimiters s after (ls ++ l ∷ []) → NoLaterFault delimiters s before.offset → ReadTo delimiters s after (mode_after mode l.token) (ls ++ l ∷ [])
  read_on texts before after mode ls l r h none =
      let x = step_of before after mode ls l r h in
      let F : ℕ → Type 0 = λ q. ClearTo delimiters s q in
      let G : ℕ → Type 0 = λ q. AllClear delimiters s q in
      let clear = clear_behind delimiters s texts mode before.offset l.span.n ls l.token l.hyphen (reads_in before mode ls r) x.step (subst F (sym x.to) h.clear) none r.clear in
      record { read = h; is = x.mode_is; clear = subst G x.to clear }

  pub below_end : (texts : HasTexts delimiters) (before after : LexerState) (mode : Mode) (ls : List Lexeme) (l : Lexeme) → ReadTo delimiters s before mode ls → HasRead delimiters s after (ls ++ l ∷ []) → (before.offset < after.offset) × (before.offset < length s)
  below_end texts before after mode ls l r h =
      let x = step_of before after mode ls l r h in
      let ends = step_ends delimiters s mode l.token l.hyphen before.offset l.span.n texts x.step in
      (omega (arith, ends.0, x.to), omega (arith, ends.0, ends.1))

  -- ---- faults
  pub said_first : (span : Span) (reason : List ℕ) (e : Error) → IsFirstFault delimiters s span reason → OrMemory (fault_with_picture s (bare_fault syntax (Some reason) (Some span))) (fault_of e) → IsSyntaxError delimiters s e
  said_first span reason e first (inl said) = inr (span, reason, first, said)
  said_first span reason e first (inr memory) = inl memory

  -- an error says the first fault if the code made it for an equal text and an equal span
  pub said_at : (s' : List ℕ) (span span' : Span) (reason : List ℕ) (e : Error) → s' ≡ s → span' ≡ span → IsFirstFault delimiters s span reason → OrMemory (fault_with_picture s' (bare_fault syntax (Some reason) (Some span'))) (fault_of e) → IsSyntaxError delimiters s e
  said_at s' span span' reason e same at first said =
      let F : List ℕ → Type 0 = λ x. OrMemory (fault_with_picture x (bare_fault syntax (Some reason) (Some span'))) (fault_of e) in
      let G : Span → Type 0 = λ x. OrMemory (fault_with_picture s (bare_fault syntax (Some reason) (Some x))) (fault_of e) in
      said_first span reason e first (subst G at (subst F same said))

  pub said_at_end : (s' : List ℕ) (span : Span) (reason : List ℕ) (e : Error) → s' ≡ s → span ≡ span_of (length s') (length s') → IsFirstFault delimiters s (span_of (length s) (length s)) reason → OrMemory (fault_with_picture s' (bare_fault syntax (Some reason) (Some span))) (fault_of e) → IsSyntaxError delimiters s e
  said_at_end s' span reason e same at first said = said_at s' (span_of (length s) (length s)) span reason e same (at ∙ ap (λ (x : List ℕ). span_of (length x) (length x)) same) first said

  -- the fault that ends the cutting
  pub cut_error : (before : LexerState) (e : Error) → AllClear delimiters s before.offset → IsCutError delimiters s before e → IsSyntaxError delimiters s e
  cut_error before e clear (inl said) = said_first said.0 said.1 e (cut_is_first delimiters s before.offset said.0 said.1 clear said.2) said.3
  cut_error before e clear (inr memory) = inl memory.1
