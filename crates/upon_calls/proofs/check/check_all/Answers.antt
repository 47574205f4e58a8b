use Rattle.std.proofs.Common.{string_bytes, ap, refl}
use Rattle.upon_types.specs.View.{view}
use Rattle.upon_delimiters.specs.Syntax.{syntax_delimiters}
use Rattle.upon_engine.specs.Engine.{engine_syntax}
use Rattle.upon_calls.proofs.Checked.{all_checked, checked_more, none_checked}
use Rattle.upon_calls.proofs.Shown.{all_shown, none_shown, shown_more}
use Rattle.upon_calls.proofs.check.check_all.Goals as goal

pub returns-clause-right : goal.returns-clause-right
returns-clause-right c =
    all_checked (syntax_delimiters c.args.syntax) (view c.args.templates.now) c.args.sources.now c.loop-name.name-index c.loop-name.is_right c.loop-name-test.false c.loop-name.invariant.right

pub returns-clause-shown : goal.returns-clause-shown
returns-clause-shown c =
    all_shown (syntax_delimiters c.args.syntax) (view c.args.templates.now) c.args.sources.now c.loop-name.name-index (string_bytes c.args.pictures.now) (string_bytes c.loop-name.pictures) c.loop-name-test.false c.loop-name.invariant.shown

pub loop-name-init : goal.loop-name-init
loop-name-init c = record {
  right = none_checked (syntax_delimiters c.args.syntax) (view c.args.templates.now) c.args.sources.now;
  shown = none_shown (syntax_delimiters c.args.syntax) (view c.args.templates.now) c.args.sources.now (string_bytes c.args.pictures.now);
}

pub loop-name-preserved : goal.loop-name-preserved
loop-name-preserved c =
    let same = ap (λ e. e.syntax) c.set_syntax.ensures in
    let templates = view c.args.templates.now in
    record {
      right = checked_more (syntax_delimiters c.args.syntax) (engine_syntax c.set_syntax.new.self) templates c.args.sources.now c.loop-name.name-index _ c.loop-name.is_right c.in_ok-is_right.field-0 _ _ c.loop-name-test.true same refl refl c.loop-name.invariant.right c.in_ok-is_right.ensures.right;
      shown = shown_more (syntax_delimiters c.args.syntax) templates (engine_syntax c.set_syntax.new.self) c.args.sources.now c.loop-name.name-index _ _ _ (string_bytes c.args.pictures.now) (string_bytes c.loop-name.pictures) (string_bytes c.check_text.new.pictures) c.loop-name-test.true same refl refl c.loop-name.invariant.shown c.in_ok-is_right.ensures.shown;
    }
