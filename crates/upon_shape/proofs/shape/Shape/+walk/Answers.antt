use Rattle.std.proofs.Common.{◌<◌, List, Some, length, map, drop, sym, ap, ◌∙◌, arith}
use Rattle.std.proofs.lemmas.Grind.{common_steps}
use Rattle.upon_types.specs.AstPath.{member_of}
use Rattle.upon_types.specs.declared.types.ast.path.Member.{Member}
use Rattle.upon_shape_spec.specs.Paths.{MemberShape, after_member_shape, walk_shape}
use Rattle.upon_shape.specs.View.{shape_view}
use Rattle.upon_shape.proofs.Steps.{cut_before}
use Rattle.upon_shape.proofs.Walks.{walk-never}
use Rattle.upon_shape.proofs.shape.Shape.+walk.Goals as goal

pub returns-in-Never : goal.returns-in-Never
returns-in-Never t c =
    let path = c.args.path.now in
    let rest = map member_of (drop 1 path) in
    let some : 0 < length path = omega arith in
    ap Some c.never.ensures
    ∙ sym (walk-never rest)
    ∙ ap (λ (f : MemberShape). after_member_shape f (walk_shape rest)) c.in-Never.ensures
    ∙ ap (λ (p : List Member). walk_shape (map member_of p) (shape_view c.args.self.now)) (sym (cut_before path 0 c.member-item.result some c.member-item.is))

-- the search finds no proof of these, and takes long
pub returns-in_ok-try_clone-in-empty : goal.returns-in_ok-try_clone-in-empty
returns-in_ok-try_clone-in-empty = grind (arith, common_steps)

pub returns-in-Finds : goal.returns-in-Finds
returns-in-Finds = grind (arith, common_steps)

pub returns-in_ok-walk-in-MayMiss : goal.returns-in_ok-walk-in-MayMiss
returns-in_ok-walk-in-MayMiss = grind (arith, common_steps)
