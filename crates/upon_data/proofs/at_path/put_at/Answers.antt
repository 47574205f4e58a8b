use Rattle.std.proofs.Common.{sym, ap, ◌∙◌, rules}
use Rattle.upon_types.specs.View.{view}
use Rattle.upon_data.specs.AtPath.{put_inside}
use Rattle.upon_data.specs.Entries.{keys_of}
use Rattle.upon_data.proofs.Paths.{put_inside-keys}
use Rattle.upon_data.proofs.at_path.put_at.Goals as goal

pub loop-before-preserved : goal.loop-before-preserved
loop-before-preserved c =
    let before = c.in-Some.before.now in
    record {
      text = search rules;
      puts = λ es.
          c.loop-before.invariant.puts es
          ∙ put_inside-keys c.loop-before.rest.now before c.in-Some.key.now (view c.loop-before.inner) es c.in-Some.ensures.keys
          ∙ ap (λ inner. put_inside (keys_of before) inner es) (sym c.in_ok-inner.ensures);
    }
