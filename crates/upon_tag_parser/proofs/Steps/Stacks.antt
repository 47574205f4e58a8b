-- The steps of all that is open.
use Rattle.std.proofs.Common.{◌≡◌, ◌≤◌, ◌<◌, ℕ, List, [], ◌∷◌, ◌++◌, length, Bool, true, None, refl, sym, ap, ◌∙◌, subst, arith, length-append}
use Rattle.upon_types.specs.declared.types.Span.{Span}
use Rattle.upon_types.specs.Expression.{Bases, no_bases, base_then}
use Rattle.upon_machine_spec.specs.Instr.{Instr, expr_start_list, expr_start_map}
use Rattle.upon_machine_spec.specs.Code.{base_code, bases_code, list_code, map_code, count_bases}
use Rattle.upon_lexer.specs.declared.literal.Lexed.{Lexed}
use Rattle.upon_tag_parser.specs.declared.compile.parse.want.Want.{Want}
use Rattle.upon_tag_parser.specs.declared.compile.parse.brackets.Open.{Open}
use Rattle.upon_tag_parser.specs.declared.compile.parse.brackets.Open.TheVariants as opened
use Rattle.upon_tag_parser.specs.declared.compile.parse.brackets.Step.{Step}
use Rattle.upon_tag_parser.specs.declared.compile.parse.brackets.Step.TheVariants as stepped
use Rattle.upon_tag_parser.specs.PartReadings.{bases_before, entries_before}
use Rattle.upon_types.specs.Expression.{no_items}
use Rattle.upon_tag_parser.specs.Brackets.{Place, BaseRead, ExpressionRead, AreOpen, IsStep, AreRead, IsBaseGiven, HasInstructions, is_whole, StuckFrom, PartGoesOn, PartStuck, OpenGoesOnAt, OpenStuckAt}
use Rattle.upon_tag_parser.proofs.Shown.{base_code-some}
use Rattle.upon_tag_parser.proofs.Stack.{around_stuck, around_push, around_pop, whole_alone}
use Rattle.upon_tag_parser.proofs.Steps.Filters.{part_of_base}

-- ---- what is counted fits
bases_code-some : (bases : Bases) → count_bases bases ≤ length (bases_code bases)
bases_code-some no_bases = omega arith
bases_code-some (base_then b bases) = omega (arith, base_code-some b, bases_code-some bases, length-append (base_code b) (bases_code bases))

-- an instruction and what comes after it, after others
number_fits : (n : ℕ) (from first made mid here : List Instr) (start : Instr) → n ≡ length from → mid ≡ from ++ start ∷ first → here ≡ mid ++ made → n < length here
number_fits n from first made mid here start at a b =
    omega (arith, at, ap length a, ap length b, length-append from (start ∷ first), length-append mid made)

count_fits : (n : ℕ) (bases : Bases) (from made mid here : List Instr) → n ≡ count_bases bases → mid ≡ from ++ bases_code bases → here ≡ mid ++ made → n ≤ length here
count_fits n bases from made mid here at a b =
    omega (arith, at, bases_code-some bases, ap length a, ap length b, length-append from (bases_code bases), length-append mid made)

pub open_fits : (s : List ℕ) (whole : Bool) (top : Open) (span : Span) (from here : Place) → IsBaseGiven s whole top span from here → HasInstructions top (length here.code)
open_fits s whole (opened.List start) span from here g =
    let h = g.around.0 in
    number_fits start.at from.code (list_code (bases_before h.items no_bases)) (base_code g.read.tree) g.mid.code here.code (expr_start_list h.span) h.number h.code g.read.code
open_fits s whole (opened.Map start key) span from here g =
    let h = g.around.before in
    number_fits start.at from.code (map_code (entries_before h.entries no_items)) (base_code g.read.tree) g.mid.code here.code (expr_start_map h.span) h.number (g.around.code ∙ h.code) g.read.code
open_fits s whole (opened.Call applied) span from here g =
    let h = g.around in
    count_fits applied.count (bases_before h.values no_bases) from.code (base_code g.read.tree) g.mid.code here.code h.number h.code g.read.code
open_fits s whole (opened.Paren opening) span from here g = tt
open_fits s whole (opened.Filter receiver applied) span from here g =
    let h = g.around in
    count_fits applied.count (bases_before h.values no_bases) h.mid.code (base_code g.read.tree) g.mid.code here.code h.number h.code g.read.code

module _ (s : List ℕ) where
  -- ---- what opens
  pub entered : (old new : List Open) (top : Open) (next : Step) (from here there : Place) → new ≡ old ++ top ∷ [] → AreRead s old (stepped.Opens top) from here → ((whole : Bool) → IsStep s whole next here there) → AreRead s new next from there
  entered old new top next from here there e h f =
      let F : List Open → Type 0 = λ stack. AreRead s stack next from there in
      subst F (sym e) (record { mid = here; around = around_push s true old top from h.mid here h.around h.step; step = f (is_whole true (old ++ top ∷ [])) })

  pub entered_stuck : (old : List Open) (top : Open) (from here : Place) (want : Want) (left : List Lexed) → AreRead s old (stepped.Opens top) from here → ((whole : Bool) → StuckFrom s whole here.tokens want left) → StuckFrom s true from.tokens want left
  entered_stuck old top from here want left h f =
      let stack = old ++ top ∷ [] in
      around_stuck s true stack from here want left (around_push s true old top from h.mid here h.around h.step) (f (is_whole true stack))

  -- ---- a Base in what is open
  -- the innermost, and the Base in it
  pub record LastGiven (rest : List Open) (top : Open) (span : Span) (from here : Place) : Type 0 where
    pub mid : Place
    pub around : AreOpen s true rest from mid
    pub given : IsBaseGiven s (is_whole true rest) top span mid here

  pub last_given : (old rest : List Open) (top : Open) (span : Span) (from here : Place) → old ≡ rest ++ top ∷ [] → AreRead s old (stepped.Base span) from here → LastGiven rest top span from here
  last_given old rest top span from here e h =
      let F : List Open → Type 0 = λ stack. AreOpen s true stack from h.mid in
      let p = around_pop s true rest top from h.mid (subst F e h.around) in
      record { mid = p.mid; around = p.around; given = record { mid = h.mid; around = p.here; read = h.step } }

  pub left : (old rest : List Open) (top : Open) (span : Span) (next : Step) (from here there : Place) → old ≡ rest ++ top ∷ [] → AreRead s old (stepped.Base span) from here → OpenGoesOnAt s top span here next there → AreRead s rest next from there
  left old rest top span next from here there e h f =
      let g = last_given old rest top span from here e h in
      record { mid = g.mid; around = g.around; step = f (is_whole true rest) g.mid g.given }

  pub left_stuck : (old rest : List Open) (top : Open) (span : Span) (from here : Place) (want : Want) (tokens : List Lexed) → old ≡ rest ++ top ∷ [] → AreRead s old (stepped.Base span) from here → OpenStuckAt s top span here want tokens → StuckFrom s true from.tokens want tokens
  left_stuck old rest top span from here want tokens e h f =
      let g = last_given old rest top span from here e h in
      around_stuck s true rest from g.mid want tokens g.around (f (is_whole true rest) g.mid g.given)

  -- ---- a Base in nothing that is open
  alone : (old : List Open) (span : Span) (from here : Place) → old ≡ [] → AreRead s old (stepped.Base span) from here → BaseRead s span from here
  alone old span from here e h =
      let F : List Open → Type 0 = λ stack. AreOpen s true stack from h.mid in
      let G : Place → Type 0 = λ p. BaseRead s span p here in
      subst G (sym (subst F e h.around)) h.step

  pub left_alone : (old new : List Open) (span : Span) (next : Step) (from here there : Place) → old ≡ [] → new ≡ [] → AreRead s old (stepped.Base span) from here → PartGoesOn s None span here next there → AreRead s new next from there
  left_alone old new span next from here there e n h f =
      let F : List Open → Type 0 = λ stack. AreRead s stack next from there in
      let read = part_of_base s span from here (alone old span from here e h) in
      subst F (sym n) (record { mid = from; around = refl; step = f true from from (refl, refl, refl) read })

  pub left_alone_stuck : (old : List Open) (span : Span) (from here : Place) (want : Want) (tokens : List Lexed) → old ≡ [] → AreRead s old (stepped.Base span) from here → PartStuck s None span here want tokens → StuckFrom s true from.tokens want tokens
  left_alone_stuck old span from here want tokens e h f =
      f true from from (refl, refl, refl) (part_of_base s span from here (alone old span from here e h))

  -- ---- the whole
  pub whole_read : (stack : List Open) (span : Span) (from here : Place) → AreRead s stack (stepped.Whole span) from here → ExpressionRead s span from here
  whole_read stack span from here h =
      let F : List Open → Type 0 = λ stack. AreOpen s true stack from h.mid in
      let G : Place → Type 0 = λ p. ExpressionRead s span p here in
      subst G (sym (subst F (whole_alone stack h.step.0) h.around)) h.step.1

  -- nothing is open yet
  pub first_read : (stack : List Open) (next : Step) (from there : Place) → stack ≡ [] → ((whole : Bool) → IsStep s whole next from there) → AreRead s stack next from there
  first_read stack next from there e f =
      let F : List Open → Type 0 = λ stack. AreRead s stack next from there in
      subst F (sym e) (record { mid = from; around = refl; step = f true })
