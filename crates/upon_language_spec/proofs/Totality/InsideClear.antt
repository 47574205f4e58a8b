-- Through the tokens inside a tag that lead on and are fine, no fault holds.
use Rattle.std.proofs.Common.{◌^◌, ◌≡◌, ℕ, ◌<◌, ◌≤◌, ◌+◌, List, [], ◌∷◌, ◌++◌, length, Bool, true, false, Option, Some, None, nat_lt, refl, sym, ap, ◌∙◌, subst, arith, append_assoc, if◌then◌else◌}
use Rattle.std.proofs.lemmas.List.{map-append, append-nil}
use Rattle.upon_types.specs.declared.types.token.Token.{Token}
use Rattle.upon_types.specs.declared.types.token.Token.TheVariants.{EndBlock, Number, Index, String}
use Rattle.upon_types.specs.Span.{slice}
use Rattle.upon_language_spec.specs.Search.{DelimiterText, HasTexts}
use Rattle.upon_language_spec.specs.Delimiters.{Sort}
use Rattle.upon_language_spec.specs.Cut.{Lexeme, Mode, outside, in_tag, IsToken, Cut, mode_after}
use Rattle.upon_language_spec.specs.Inside.{IsQuoted, in_path_after}
use Rattle.upon_language_spec.specs.Tokens.{is_space, without_spaces}
use Rattle.upon_language_spec.specs.Reading.{ReadsTo, last_of, opens_tag, from_begin, open_tag}
use Rattle.upon_language_spec.specs.Literal.{digits_in}
use Rattle.upon_language_spec.specs.LiteralFaults.{index_value, escape_fault}
use Rattle.upon_language_spec.specs.Tags.{Symbol, symbol_of, symbols_of, word_of}
use Rattle.upon_language_spec.specs.Faults.{span_of, tag_tokens, tag_row, lexeme_at}
use Rattle.upon_language_spec.specs.LaterFaults.{number_report}
use Rattle.upon_language_spec.specs.CutFaults.{ClearTo}
use Rattle.upon_language_spec.proofs.OneCut.Cut.{cut_more, cut_ends, cut_joined}
use Rattle.upon_language_spec.proofs.OneCut.Token.{step_ends}
use Rattle.upon_language_spec.specs.InTags.{is_inside, EachInside, FineLiteral}
use Rattle.upon_language_spec.proofs.NoTreeWithFault.InsideTag.{inside_stays, inside_is_no_begin, space_step, no_space_step, spaces_append}
use Rattle.upon_language_spec.specs.Parts.{Part, tag_start, after_symbol, Path, wanted_at}
use Rattle.upon_language_spec.specs.Wanted.{Wanted, reason_for}
use Rattle.upon_language_spec.specs.FirstFault.{IsFirstFault}
use Rattle.upon_language_spec.proofs.Wanted.WantedAt.{path_one}
use Rattle.upon_language_spec.specs.OpenParts.{StandsAt}
use Rattle.upon_language_spec.specs.Stages.{AllClear}
use Rattle.upon_language_spec.proofs.Totality.FittingClears.{Fits, fitting_clears, clear_behind, first_stuck, stuck_token}

abbrev pub LiteralsFine : List ℕ → Option Lexeme → List Lexeme → Type 0
LiteralsFine s before [] = Unit {0}
LiteralsFine s before (l ∷ ls) = FineLiteral s before l × LiteralsFine s (Some l) ls

-- ---- the open tag with one more token
pub from_more : (acc ls : List Lexeme) (l : Lexeme) → opens_tag l.token ≡ false → from_begin acc (ls ++ l ∷ []) ≡ from_begin acc ls ++ l ∷ []
from_more acc [] l h = if_no (opens_tag l.token) h
  where
    if_no : (b : Bool) → b ≡ false → (if b then from_begin (l ∷ []) [] else from_begin (acc ++ l ∷ []) []) ≡ acc ++ l ∷ []
    if_no true e = absurd cc
    if_no false e = refl
from_more acc (k ∷ ls) l h = either (opens_tag k.token) (λ x. from_more x ls l h)
  where
    either : (b : Bool) → ((x : List Lexeme) → from_begin x (ls ++ l ∷ []) ≡ from_begin x ls ++ l ∷ []) → (if b then from_begin (k ∷ []) (ls ++ l ∷ []) else from_begin (acc ++ k ∷ []) (ls ++ l ∷ [])) ≡ (if b then from_begin (k ∷ []) ls else from_begin (acc ++ k ∷ []) ls) ++ l ∷ []
    either true others = others (k ∷ [])
    either false others = others (acc ++ k ∷ [])

pub tokens_more : (ls : List Lexeme) (l : Lexeme) → opens_tag l.token ≡ false → tag_tokens (ls ++ l ∷ []) ≡ tag_tokens ls ++ without_spaces (l ∷ [])
tokens_more ls l h = ap without_spaces (from_more [] ls l h) ∙ spaces_append (open_tag ls) (l ∷ [])

pub last_more : (ls : List Lexeme) (l : Lexeme) → last_of (ls ++ l ∷ []) ≡ Some l
last_more [] l = refl
last_more (k ∷ []) l = refl
last_more (k ∷ j ∷ ls) l = last_more (j ∷ ls) l

no_end : (t : Token) → is_inside t ≡ true → t ≡ EndBlock → ⊥
no_end t h e = let x : is_inside t ≡ false = ap is_inside e in cc

module _ (delimiters : List DelimiterText) (s : List ℕ) (texts : HasTexts delimiters) (sort : Sort) where
  abbrev Reached : ℕ → List Lexeme → List Part → Type 0
  Reached p ls ps = AllClear delimiters s p × StandsAt s ls ps

  pub inside_clear : (path path' : Bool) (p q : ℕ) (ls pre : List Lexeme) (ps to : List Part) → ReadsTo delimiters s ls (in_tag sort path) p → Cut delimiters s (in_tag sort path) p pre (in_tag sort path') q → EachInside pre → ClearTo delimiters s q
      → StandsAt s ls ps → Path ps (symbols_of s (without_spaces pre)) to → LiteralsFine s (last_of (tag_tokens ls)) (without_spaces pre) → AllClear delimiters s p → Reached q (ls ++ pre) to
  inside_clear path path' p q ls [] ps to reads cut inside clear stands leads fine before =
      let F : ℕ → Type 0 = λ x. AllClear delimiters s x in
      let G : List Lexeme → Type 0 = λ x. StandsAt s x to in
      (subst F cut.1 before, subst G (sym (append-nil ls)) (subst (λ x. StandsAt s ls x) leads stands))
  inside_clear path path' p q ls (l ∷ r) ps to reads cut inside clear stands leads fine before = by_space (is_space l.token) refl
      (λ next stands_on leads_on fine_on clear_on. inside_clear (in_path_after path l.token) path' l.span.n q (ls ++ l ∷ []) r next to reads_on cut_on inside.1 clear stands_on leads_on fine_on clear_on)
    where
      stays : mode_after (in_tag sort path) l.token ≡ in_tag sort (in_path_after path l.token)
      stays = inside_stays sort path l.token inside.0

      no_begin : opens_tag l.token ≡ false
      no_begin = inside_is_no_begin l.token inside.0

      reads_on : ReadsTo delimiters s (ls ++ l ∷ []) (in_tag sort (in_path_after path l.token)) l.span.n
      reads_on = let F : Mode → Type 0 = λ m. ReadsTo delimiters s (ls ++ l ∷ []) m l.span.n in subst F stays (cut_more delimiters s outside (in_tag sort path) 0 p ls l reads cut.0 cut.1)

      cut_on : Cut delimiters s (in_tag sort (in_path_after path l.token)) l.span.n r (in_tag sort path') q
      cut_on = let F : Mode → Type 0 = λ m. Cut delimiters s m l.span.n r (in_tag sort path') q in subst F stays cut.2

      ends : (p < l.span.n) × (l.span.n ≤ length s)
      ends = step_ends delimiters s (in_tag sort path) l.token l.hyphen p l.span.n texts cut.1

      later : (l.span.n ≤ q) × (q ≤ length s)
      later = cut_ends delimiters s texts (in_tag sort (in_path_after path l.token)) (in_tag sort path') l.span.n q r ends.1 cut_on

      clear_here : ClearTo delimiters s l.span.n
      clear_here x below = clear x (omega (arith, below, later.0))

      clears : Fits delimiters s texts ls path p l.token l.hyphen l.span.n → AllClear delimiters s l.span.n
      clears f = clear_behind delimiters s texts (in_tag sort path) p l.span.n ls l.token l.hyphen reads cut.1 clear_here (fitting_clears delimiters s texts sort path p l.span.n ls l.token l.hyphen reads cut.1 f) before

      joined : Reached q ((ls ++ l ∷ []) ++ r) to → Reached q (ls ++ (l ∷ r)) to
      joined h = let G : List Lexeme → Type 0 = λ y. StandsAt s y to in (h.0, subst G (append_assoc ls (l ∷ []) r) h.1)

      same : l ≡ lexeme_at l.token l.hyphen p l.span.n
      same = λ i. record { token = l.token; hyphen = l.hyphen; span = record { m = cut.0 i; n = l.span.n } }

      row_more : (more : List Lexeme) → without_spaces (l ∷ []) ≡ more → tag_tokens (ls ++ l ∷ []) ≡ tag_tokens ls ++ more
      row_more more e = tokens_more ls l no_begin ∙ ap (λ (x : List Lexeme). tag_tokens ls ++ x) e

      Others : Type 0
      Others = (next : List Part) → StandsAt s (ls ++ l ∷ []) next → Path next (symbols_of s (without_spaces r)) to → LiteralsFine s (last_of (tag_tokens (ls ++ l ∷ []))) (without_spaces r) → AllClear delimiters s l.span.n → Reached q ((ls ++ l ∷ []) ++ r) to

      no_literal : is_space l.token ≡ true → (u : Token) → is_space u ≡ false → l.token ≡ u → ⊥
      no_literal e u f g = let x : is_space l.token ≡ is_space u = ap is_space g in cc

      fitting : (next : List Part) → after_symbol ps (symbol_of s l) ≡ Some next → FineLiteral s (last_of (tag_tokens ls)) l → Fits delimiters s texts ls path p l.token l.hyphen l.span.n
      fitting next taken f = record {
        ps = ps;
        occurs = stands;
        next = next;
        fits = λ c. ap (λ (x : Lexeme). after_symbol ps (symbol_of s x)) (sym same) ∙ taken;
        number = λ n. subst (λ m. number_report (slice s (span_of m l.span.n)) (last_of (tag_tokens ls)) m l.span.n ≡ None) cut.0 (f.number n);
        index = λ n. subst (λ m. nat_lt (index_value (digits_in 10 (slice s (span_of m l.span.n)))) (2 ^ 64) ≡ true) cut.0 (f.index n);
        string = λ n. subst (λ m. (x : IsQuoted s m l.span.n) → escape_fault (m + 1) x.pieces ≡ None) cut.0 (f.string n);
        taken = λ n. absurd (no_end l.token inside.0 n);
      }

      spacing : is_space l.token ≡ true → Fits delimiters s texts ls path p l.token l.hyphen l.span.n
      spacing e = record {
        ps = ps;
        occurs = stands;
        next = ps;
        fits = λ c. absurd cc;
        number = λ n. absurd (no_literal e Number refl n);
        index = λ n. absurd (no_literal e Index refl n);
        string = λ n. absurd (no_literal e String refl n);
        taken = λ n. absurd (no_end l.token inside.0 n);
      }

      kept : (e : is_space l.token ≡ false) → Path ps (symbols_of s (l ∷ without_spaces r)) to → LiteralsFine s (last_of (tag_tokens ls)) (l ∷ without_spaces r) → Others → Reached q (ls ++ (l ∷ r)) to
      kept e (next, taken, leads_on) (f, others_fine) others =
          let tokens = row_more (l ∷ []) (no_space_step l [] e) in
          let F : List Symbol → Type 0 = λ x. Path (tag_start ∷ []) x next in
          let row : tag_row s (ls ++ l ∷ []) ≡ tag_row s ls ++ symbol_of s l ∷ [] = ap (symbols_of s) tokens ∙ map-append (symbol_of s) (tag_tokens ls) (l ∷ []) in
          let G : Option Lexeme → Type 0 = λ x. LiteralsFine s x (without_spaces r) in
          joined (others next (subst F (sym row) (path_one (tag_row s ls) (tag_start ∷ []) ps next (symbol_of s l) stands taken)) leads_on
          (subst G (sym (ap last_of tokens ∙ last_more (tag_tokens ls) l)) others_fine) (clears (fitting next taken f)))

      by_space : (b : Bool) → is_space l.token ≡ b → Others → Reached q (ls ++ (l ∷ r)) to
      by_space true e others =
          let tokens = row_more [] (space_step l [] e) ∙ append-nil (tag_tokens ls) in
          let F : List Lexeme → Type 0 = λ x. Path (tag_start ∷ []) (symbols_of s x) ps in
          let G : List Lexeme → Type 0 = λ x. Path ps (symbols_of s x) to in
          let H : List Lexeme → Type 0 = λ x. LiteralsFine s (last_of x) (without_spaces r) in
          let K : List Lexeme → Type 0 = λ x. LiteralsFine s (last_of (tag_tokens ls)) x in
          joined (others ps (subst F (sym tokens) stands) (subst G (space_step l r e) leads) (subst H (sym tokens) (subst K (space_step l r e) fine)) (clears (spacing e)))
      by_space false e others =
          let G : List Lexeme → Type 0 = λ x. Path ps (symbols_of s x) to in
          let K : List Lexeme → Type 0 = λ x. LiteralsFine s (last_of (tag_tokens ls)) x in
          kept e (subst G (no_space_step l r e) leads) (subst K (no_space_step l r e) fine) others

  -- a token that may not be after fine tokens of a tag is the text's first fault
  pub stuck_is_first : (path path' : Bool) (p q n : ℕ) (ls pre : List Lexeme) (ps to : List Part) (t : Token) (hyphen : Bool) (w : Wanted) → ReadsTo delimiters s ls (in_tag sort path) p → Cut delimiters s (in_tag sort path) p pre (in_tag sort path') q → EachInside pre
      → StandsAt s ls ps → Path ps (symbols_of s (without_spaces pre)) to → LiteralsFine s (last_of (tag_tokens ls)) (without_spaces pre) → AllClear delimiters s p
      → IsToken delimiters s (in_tag sort path') t hyphen q n → ClearTo delimiters s n → is_space t ≡ false → after_symbol to (symbol_of s (lexeme_at t hyphen q n)) ≡ None → wanted_at to ≡ Some w
      → IsFirstFault delimiters s (span_of q n) (reason_for w t (word_of s t (span_of q n)))
  stuck_is_first path path' p q n ls pre ps to t hyphen w reads cut inside stands leads fine before step clear counts refused wanted =
      let ends = step_ends delimiters s (in_tag sort path') t hyphen q n texts step in
      let clear_here : ClearTo delimiters s q = λ x below. clear x (omega (arith, below, ends.0)) in
      let reached = inside_clear path path' p q ls pre ps to reads cut inside clear_here stands leads fine before in
      let reads_on = cut_joined delimiters s outside (in_tag sort path) (in_tag sort path') 0 p q ls pre reads cut in
      first_stuck delimiters s texts q n (span_of q n) (reason_for w t (word_of s t (span_of q n))) ends.0 reached.0 clear
      (stuck_token delimiters s q (ls ++ pre) sort path' reads_on to reached.1 t hyphen n w step counts refused wanted)

-- the tokens before one that is no whitespace
pub split_spaces : (ls read left : List Lexeme) (l : Lexeme) → without_spaces ls ≡ read ++ l ∷ left → (pre post : List Lexeme) × (ls ≡ pre ++ l ∷ post) × (without_spaces pre ≡ read)
split_spaces [] [] left l e = absurd cc
split_spaces [] (r ∷ read) left l e = absurd cc
split_spaces (k ∷ ls) read left l e = by_space (is_space k.token) read refl e (split_spaces ls)
  where
    Splits : List Lexeme → List Lexeme → Type 0
    Splits all before = (pre post : List Lexeme) × (all ≡ pre ++ l ∷ post) × (without_spaces pre ≡ before)

    by_space : (b : Bool) (before : List Lexeme) → is_space k.token ≡ b → (if b then without_spaces ls else (k ∷ without_spaces ls)) ≡ before ++ l ∷ left → ((before' left' : List Lexeme) (l' : Lexeme) → without_spaces ls ≡ before' ++ l' ∷ left' → (pre post : List Lexeme) × (ls ≡ pre ++ l' ∷ post) × (without_spaces pre ≡ before')) → Splits (k ∷ ls) before
    by_space true before h e others =
        let (pre, post, same, front) = others before left l e in
        (k ∷ pre, post, ap (λ (x : List Lexeme). k ∷ x) same, space_step k pre h ∙ front)
    by_space false [] h e others = let first : k ≡ l = cc in ([], ls, ap (λ (x : Lexeme). x ∷ ls) first, refl)
    by_space false (r ∷ before) h e others =
        let first : k ≡ r = cc in
        let (pre, post, same, front) = others before left l (let f : without_spaces ls ≡ before ++ l ∷ left = cc in f) in
        (k ∷ pre, post, ap (λ (x : List Lexeme). k ∷ x) same, no_space_step k pre h ∙ (λ i. first i ∷ front i))
