-- The steps of all that is open.
use Rattle.std.proofs.Common.{◌≡◌, ℕ, List, [], ◌∷◌, ◌++◌, Bool, true, None, refl, sym, subst}
use Rattle.upon_types.specs.Expression.{base}
use Rattle.upon_language_spec.specs.Cut.{Lexeme}
use Rattle.upon_lexer.specs.declared.literal.Lexed.{Lexed}
use Rattle.upon_tag_parser.specs.declared.compile.parse.want.Want.{Want}
use Rattle.upon_tag_parser.specs.TagParsing.{ReadsBase, ReadsExpression}
use Rattle.upon_tree.specs.AstExpression.{base_tree, expression_tree}
use Rattle.upon_tree.specs.declared.ast.expression.BaseExpr.{BaseExpr}
use Rattle.upon_tree.specs.declared.ast.expression.Expr.{Expr}
use Rattle.upon_tree.specs.declared.opened.Open.{Open}
use Rattle.upon_tree.specs.declared.opened.Step.{Step}
use Rattle.upon_tree.specs.declared.opened.Step.TheVariants as stepped
use Rattle.upon_tag_parser.specs.Brackets.{StuckFrom}
use Rattle.upon_tree.specs.Opened.{AreTreesOpen, IsTreeStep, AreTreesRead, IsBaseTreeGiven, is_tree_whole, PartTreeGoesOn, PartTreeStuck, OpenTreeGoesOn, OpenTreeStuck}
use Rattle.upon_tree.proofs.Starts.{around_stuck, around_push, around_pop, whole_alone}
use Rattle.upon_tree.proofs.Filters.{part_of_base}

module _ (s : List ℕ) where
  -- ---- what opens
  pub entered : (old new : List Open) (top : Open) (next : Step) (from here there : List Lexeme) → new ≡ old ++ top ∷ [] → AreTreesRead s old (stepped.Opens top) from here → ((whole : Bool) → IsTreeStep s whole next here there) → AreTreesRead s new next from there
  entered old new top next from here there e h f =
      let F : List Open → Type 0 = λ stack. AreTreesRead s stack next from there in
      subst F (sym e) (record { mid = here; around = around_push s true old top from h.mid here h.around h.step; step = f (is_tree_whole true (old ++ top ∷ [])) })

  pub entered_stuck : (old : List Open) (top : Open) (from here : List Lexeme) (want : Want) (left : List Lexed) → AreTreesRead s old (stepped.Opens top) from here → ((whole : Bool) → StuckFrom s whole here want left) → StuckFrom s true from want left
  entered_stuck old top from here want left h f =
      let stack = old ++ top ∷ [] in
      around_stuck s true stack from here want left (around_push s true old top from h.mid here h.around h.step) (f (is_tree_whole true stack))

  -- ---- a Base in what is open
  -- the innermost, and the Base in it
  pub record LastGiven (rest : List Open) (top : Open) (b : BaseExpr) (from here : List Lexeme) : Type 0 where
    pub mid : List Lexeme
    pub around : AreTreesOpen s true rest from mid
    pub given : IsBaseTreeGiven s (is_tree_whole true rest) top b mid here

  last_given : (old rest : List Open) (top : Open) (b : BaseExpr) (from here : List Lexeme) → old ≡ rest ++ top ∷ [] → AreTreesRead s old (stepped.Base b) from here → LastGiven rest top b from here
  last_given old rest top b from here e h =
      let F : List Open → Type 0 = λ stack. AreTreesOpen s true stack from h.mid in
      let p = around_pop s true rest top from h.mid (subst F e h.around) in
      record { mid = p.mid; around = p.around; given = record { mid = h.mid; around = p.here; read = h.step } }

  pub left : (old rest : List Open) (top : Open) (b : BaseExpr) (next : Step) (from here there : List Lexeme) → old ≡ rest ++ top ∷ [] → AreTreesRead s old (stepped.Base b) from here → OpenTreeGoesOn s top b here next there → AreTreesRead s rest next from there
  left old rest top b next from here there e h f =
      let g = last_given old rest top b from here e h in
      record { mid = g.mid; around = g.around; step = f (is_tree_whole true rest) g.mid g.given }

  pub left_stuck : (old rest : List Open) (top : Open) (b : BaseExpr) (from here : List Lexeme) (want : Want) (tokens : List Lexed) → old ≡ rest ++ top ∷ [] → AreTreesRead s old (stepped.Base b) from here → OpenTreeStuck s top b here want tokens → StuckFrom s true from want tokens
  left_stuck old rest top b from here want tokens e h f =
      let g = last_given old rest top b from here e h in
      around_stuck s true rest from g.mid want tokens g.around (f (is_tree_whole true rest) g.mid g.given)

  -- ---- a Base in nothing that is open
  alone : (old : List Open) (b : BaseExpr) (from here : List Lexeme) → old ≡ [] → AreTreesRead s old (stepped.Base b) from here → ReadsBase s (base_tree b) from here
  alone old b from here e h =
      let F : List Open → Type 0 = λ stack. AreTreesOpen s true stack from h.mid in
      let G : List Lexeme → Type 0 = λ p. ReadsBase s (base_tree b) p here in
      subst G (sym (subst F e h.around)) h.step

  pub left_alone : (old new : List Open) (b : BaseExpr) (part : Expr) (next : Step) (from here there : List Lexeme) → expression_tree part ≡ base (base_tree b) → old ≡ [] → new ≡ [] → AreTreesRead s old (stepped.Base b) from here → PartTreeGoesOn s None part here next there → AreTreesRead s new next from there
  left_alone old new b part next from here there is e n h f =
      let F : List Open → Type 0 = λ stack. AreTreesRead s stack next from there in
      let read = part_of_base s b part from here is (alone old b from here e h) in
      subst F (sym n) (record { mid = from; around = refl; step = f true from from (refl, refl) read })

  pub left_alone_stuck : (old : List Open) (b : BaseExpr) (part : Expr) (from here : List Lexeme) (want : Want) (tokens : List Lexed) → expression_tree part ≡ base (base_tree b) → old ≡ [] → AreTreesRead s old (stepped.Base b) from here → PartTreeStuck s None part here want tokens → StuckFrom s true from want tokens
  left_alone_stuck old b part from here want tokens is e h f =
      f true from from (refl, refl) (part_of_base s b part from here is (alone old b from here e h))

  -- ---- the whole
  pub whole_read : (stack : List Open) (e : Expr) (from here : List Lexeme) → AreTreesRead s stack (stepped.Whole e) from here → ReadsExpression s (expression_tree e) from here
  whole_read stack e from here h =
      let F : List Open → Type 0 = λ stack. AreTreesOpen s true stack from h.mid in
      let G : List Lexeme → Type 0 = λ p. ReadsExpression s (expression_tree e) p here in
      subst G (sym (subst F (whole_alone stack h.step.0) h.around)) h.step.1

  -- nothing is open yet
  pub first_read : (stack : List Open) (next : Step) (from there : List Lexeme) → stack ≡ [] → ((whole : Bool) → IsTreeStep s whole next from there) → AreTreesRead s stack next from there
  first_read stack next from there e f =
      let F : List Open → Type 0 = λ stack. AreTreesRead s stack next from there in
      subst F (sym e) (record { mid = from; around = refl; step = f true })
