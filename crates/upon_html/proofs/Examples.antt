-- Of which pieces the texts of some pages are made, and which texts the clause `markup` refuses.
use Rattle.std.proofs.Common.{◌≡◌, ℕ, pos, List, [], ◌∷◌, Some, None, Ok, refl, sym, subst, ◌∙◌, codes}
use Rattle.std.specs.Prelude.{String, string_bytes}
use Rattle.std.specs.declared.alloc.Global.{Global}
use Rattle.upon_types.specs.Expression.{base}
use Rattle.upon_types.specs.Path.{item}
use Rattle.upon_types.specs.Tree.{for_loop, include, no_else}
use Rattle.upon_types.specs.Val.{Val, text_val, int_val}
use Rattle.upon_language_spec.specs.Search.{DelimiterText}
use Rattle.upon_meaning_spec.specs.Alone.{running}
use Rattle.upon_meaning_spec.specs.Engine.{Template}
use Rattle.upon_meaning_spec.proofs.Computing.{computing}
use Rattle.upon_meaning_spec.proofs.Examples.ShortContexts.{at, word, quoted, name, statements, shows, text, map_of, list_of, template, held}
use Rattle.upon_meaning_spec.specs.Marks.{only, raw_text, FromRawParts}
use Rattle.upon_meaning_spec.specs.Parts.{WovenOf}
use Rattle.upon_meaning_spec.specs.Pieces.{TextPiece, raw_part, written, joined}
use Rattle.upon_engine.specs.Texts.{Texts}
use Rattle.upon_engine.specs.Theorem.{rendering}
use Rattle.upon_html.specs.Escape.{is_markup}
use Rattle.upon_html.specs.Escaped.{escaped}
use Rattle.upon_html.specs.EscapedPage.{escaping_all, page_pieces, MarkupIsRaw}

-- texts that are not the same
other_marks : codes "<><><>" ≡ codes "<><>" → ⊥
other_marks same = absurd cc

other_order : codes "-ab" ≡ codes "ab-" → ⊥
other_order same = absurd cc

-- an engine without callables, whatever its delimiters are
module _ (syntax : List DelimiterText) where
  abbrev plain : Texts
  plain = record { texts = λ name. None; callables = λ name. None; default_formatter = None; depth = 64; syntax = syntax }

  -- the pieces of a page, and of the same text without escaping, with these templates for its includes
  abbrev page_on : List (List ℕ × Template) → Template → Val → List TextPiece
  page_on templates t v = page_pieces (escaping_all plain) (held templates) None t.source t.tree v

  abbrev unescaped_on : List (List ℕ × Template) → Template → Val → List TextPiece
  unescaped_on templates t v = page_pieces plain (held templates) None t.source t.tree v

  -- ---- `<b>{{ x }}</b>` on {x: "<b>"}: a raw part, what the formatter wrote for the value, a raw part
  abbrev bold : Template
  bold = template (codes "<b>{{ x }}</b>") (text 0 3 ∷ shows 3 10 (name 6 (codes "x")) ∷ text 10 14 ∷ [])

  abbrev marked : Val
  marked = map_of ((codes "x", text_val (codes "<b>")) ∷ [])

  bold_pieces : page_on [] bold marked ≡ raw_part (running bold None) (at 0 3) ∷ written escaped (text_val (codes "<b>")) ∷ raw_part (running bold None) (at 10 14) ∷ []
  unfolding computing
  bold_pieces = refl

  bold_raw : only is_markup (raw_text (page_on [] bold marked)) ≡ codes "<><>"
  unfolding computing
  bold_raw = refl

  -- the escaped text meets the clause
  escaped_met : (answer : String Global) → string_bytes answer ≡ codes "<b>&lt;b&gt;</b>" → MarkupIsRaw (escaping_all plain) (held []) None bold.source bold.tree marked (Ok answer)
  unfolding computing
  escaped_met answer is = subst (FromRawParts is_markup (page_on [] bold marked)) (sym is) (record { joins = refl; unwritten = (tt, (refl, (tt, tt))); theirs = refl })

  unescaped_marks : only is_markup (codes "<b><b></b>") ≡ codes "<><><>"
  unescaped_marks = refl

  -- the unescaped text is refused, by its marks alone
  unescaped_refused : (answer : String Global) → string_bytes answer ≡ codes "<b><b></b>" → MarkupIsRaw (escaping_all plain) (held []) None bold.source bold.tree marked (Ok answer) → ⊥
  unescaped_refused answer is h =
      other_marks (sym unescaped_marks ∙ ((subst (FromRawParts is_markup (page_on [] bold marked)) is h).theirs ∙ bold_raw))

  -- so is one in which a raw part stands twice, though each of its marks is a raw part's
  twice_marks : only is_markup (codes "<b><b>&lt;b&gt;</b>") ≡ codes "<><><>"
  twice_marks = refl

  twice_refused : (answer : String Global) → string_bytes answer ≡ codes "<b><b>&lt;b&gt;</b>" → MarkupIsRaw (escaping_all plain) (held []) None bold.source bold.tree marked (Ok answer) → ⊥
  twice_refused answer is h =
      other_marks (sym twice_marks ∙ ((subst (FromRawParts is_markup (page_on [] bold marked)) is h).theirs ∙ bold_raw))

  -- ---- `{{ x }}-` on {x: "ab"}, not escaped: pieces in another order are refused
  abbrev dashed : Template
  dashed = template (codes "{{ x }}-") (shows 0 7 (name 3 (codes "x")) ∷ text 7 8 ∷ [])

  abbrev letters : Val
  letters = map_of ((codes "x", text_val (codes "ab")) ∷ [])

  dashed_joined : joined (unescaped_on [] dashed letters) ≡ codes "ab-"
  unfolding computing
  dashed_joined = refl

  exchanged_refused : WovenOf (rendering plain (held [])).calls (rendering plain (held [])).resolve dashed (unescaped_on [] dashed letters) (codes "-ab") → ⊥
  exchanged_refused h = other_order (h.joins ∙ dashed_joined)

  -- ---- `{% for x in xs %}<p>{% include "t" %}{% endfor %}` on {xs: [1, "<"]}, where t is `<i>{{ x }}</i>`: the pieces of both templates, in the order of the run
  abbrev looping : Template
  looping = template (codes "{% for x in xs %}<p>{% include \"t\" %}{% endfor %}") (for_loop (item (word 7 (codes "x"))) (base (name 12 (codes "xs"))) (statements (text 17 20 ∷ include (quoted 31 (codes "t")) None ∷ [])) no_else ∷ [])

  abbrev inner : Template
  inner = template (codes "<i>{{ x }}</i>") (text 0 3 ∷ shows 3 10 (name 6 (codes "x")) ∷ text 10 14 ∷ [])

  looping_pieces : page_on ((codes "t", inner) ∷ []) looping (map_of ((codes "xs", list_of (int_val (pos 1) ∷ text_val (codes "<") ∷ [])) ∷ [])) ≡
      raw_part (running looping None) (at 17 20) ∷ raw_part (running inner (Some (codes "t"))) (at 0 3) ∷ written escaped (int_val (pos 1)) ∷ raw_part (running inner (Some (codes "t"))) (at 10 14) ∷
      raw_part (running looping None) (at 17 20) ∷ raw_part (running inner (Some (codes "t"))) (at 0 3) ∷ written escaped (text_val (codes "<")) ∷ raw_part (running inner (Some (codes "t"))) (at 10 14) ∷ []
  unfolding computing
  looping_pieces = refl

  -- ---- `a{{ y }}b` on {}: the pieces up to the first fault
  abbrev broken : Template
  broken = template (codes "a{{ y }}b") (text 0 1 ∷ shows 1 8 (name 4 (codes "y")) ∷ text 8 9 ∷ [])

  broken_pieces : page_on [] broken (map_of []) ≡ raw_part (running broken None) (at 0 1) ∷ []
  unfolding computing
  broken_pieces = refl
