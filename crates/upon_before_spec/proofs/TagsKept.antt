-- A tag of before is a tag of today, and the other way round; so too what begins one, and what is wanted in one.
use Rattle.std.proofs.Common.{ℕ, List, ◌<◌}
use Rattle.upon_types.specs.Path.{Ident, LoopVars}
use Rattle.upon_types.specs.Expression.{Expression}
use Rattle.upon_types.specs.BlockKinds.{if_block, for_block, with_block, if_tag, for_tag, with_tag}
use Rattle.upon_language_spec.specs.Cut.{Lexeme}
use Rattle.upon_language_spec.specs.Grammar.{IsOpeningTag}
use Rattle.upon_language_spec.specs.Tags.{Symbol, IsTag, an_inline, an_include, an_opening, an_else_if, an_else, an_end, BeginsTag}
use Rattle.upon_language_spec.specs.Wanted.{Wanted, IsWanted}
use Rattle.upon_before_spec.specs.Grammar.{IsForTag, IsWithTag}
use Rattle.upon_before_spec.specs.Tags.{IsTag as WasTag, an_inline as was_inline, an_include as was_include, an_if, an_else_if as was_else_if, an_else as was_else, an_endif, a_for, an_endfor, a_with, an_endwith, BeginsTag as BeganTag}
use Rattle.upon_before_spec.specs.Wanted.{IsWanted as WasWanted}

module _ (s : List ℕ) where
  -- the first tags of a `for` and a `with`; that of an `if` is written in the same way
  pub for_now : (names : LoopVars) (e : Expression) (ts rest : List Lexeme) → IsForTag s names e ts rest → IsOpeningTag s (for_tag names) e ts rest
  for_now names e ts rest g = (g.0, g.3, g.4, (g.1, g.2, g.5, g.6, g.7), g.8)

  pub for_was : (names : LoopVars) (e : Expression) (ts rest : List Lexeme) → IsOpeningTag s (for_tag names) e ts rest → IsForTag s names e ts rest
  for_was names e ts rest g = (g.0, g.3.0, g.3.1, g.1, g.2, g.3.2, g.3.3, g.3.4, g.4)

  pub with_now : (e : Expression) (name : Ident) (ts rest : List Lexeme) → IsWithTag s e name ts rest → IsOpeningTag s (with_tag name) e ts rest
  with_now e name ts rest g = (g.0, g.3, g.4, (g.1, g.2, g.5, g.6, g.7), g.8)

  pub with_was : (e : Expression) (name : Ident) (ts rest : List Lexeme) → IsOpeningTag s (with_tag name) e ts rest → IsWithTag s e name ts rest
  with_was e name ts rest g = (g.0, g.3.0, g.3.1, g.1, g.2, g.3.2, g.3.3, g.3.4, g.4)

  pub tag_now : (ts rest : List Lexeme) → WasTag s ts rest → IsTag s ts rest
  tag_now ts rest (was_inline e span g) = an_inline e span g
  tag_now ts rest (was_include name context g) = an_include name context g
  tag_now ts rest (an_if negated e g) = an_opening (if_tag negated) e g
  tag_now ts rest (was_else_if negated e g) = an_else_if negated e g
  tag_now ts rest (was_else g) = an_else g
  tag_now ts rest (an_endif g) = an_end if_block g
  tag_now ts rest (a_for names e g) = an_opening (for_tag names) e (for_now names e ts rest g)
  tag_now ts rest (an_endfor g) = an_end for_block g
  tag_now ts rest (a_with e name g) = an_opening (with_tag name) e (with_now e name ts rest g)
  tag_now ts rest (an_endwith g) = an_end with_block g

  pub tag_was : (ts rest : List Lexeme) → IsTag s ts rest → WasTag s ts rest
  tag_was ts rest (an_inline e span g) = was_inline e span g
  tag_was ts rest (an_include name context g) = was_include name context g
  tag_was ts rest (an_opening (if_tag negated) e g) = an_if negated e g
  tag_was ts rest (an_opening (for_tag names) e g) = a_for names e (for_was names e ts rest g)
  tag_was ts rest (an_opening (with_tag name) e g) = a_with e name (with_was e name ts rest g)
  tag_was ts rest (an_else_if negated e g) = was_else_if negated e g
  tag_was ts rest (an_else g) = was_else g
  tag_was ts rest (an_end if_block g) = an_endif g
  tag_was ts rest (an_end for_block g) = an_endfor g
  tag_was ts rest (an_end with_block g) = an_endwith g

pub begins_now : (row : List Symbol) → BeganTag row → BeginsTag row
begins_now row b = record { text = b.text; lexemes = b.lexemes; rest = b.rest; tag = tag_now b.text b.lexemes b.rest b.tag; more = b.more; begins = b.begins; within = b.within }

pub begins_was : (row : List Symbol) → BeginsTag row → BeganTag row
begins_was row b = record { text = b.text; lexemes = b.lexemes; rest = b.rest; tag = tag_was b.text b.lexemes b.rest b.tag; more = b.more; begins = b.begins; within = b.within }

pub wanted_now : (row : List Symbol) (w : Wanted) → WasWanted row w → IsWanted row w
wanted_now row w h = record { may_follow = begins_now _ h.may_follow; least = λ v less follows. h.least v less (begins_was _ follows) }

pub wanted_was : (row : List Symbol) (w : Wanted) → IsWanted row w → WasWanted row w
wanted_was row w h = record { may_follow = begins_was _ h.may_follow; least = λ v less follows. h.least v less (begins_now _ follows) }
