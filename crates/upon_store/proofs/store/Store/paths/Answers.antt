use Rattle.std.proofs.Common.{rules, ◌≡◌, sym, subst}
use Rattle.std.specs.BTreeMap.{keys}
use Rattle.upon_store.specs.Paths.{path_texts}
use Rattle.upon_store.specs.Stored.{paths, PathsRise}
use Rattle.upon_store.proofs.Rising.{keys_rise}
use Rattle.upon_store.proofs.store.Store.paths.Goals as goal

pub returns-clause-rise : goal.returns-clause-rise
returns-clause-rise c =
    let all : path_texts c.loop-path.paths.items ≡ paths c.args.self.now = search rules in
    subst PathsRise (sym all) (keys_rise (keys c.args.self.now.templates) c.keys-path-items.ensures.ordered)
