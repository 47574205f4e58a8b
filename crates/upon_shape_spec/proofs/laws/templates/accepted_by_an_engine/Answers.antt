use Rattle.upon_lookup.specs.Environment.{context}
use Rattle.upon_meaning_spec.specs.Alone.{includes_left, alone}
use Rattle.upon_meaning_spec.specs.Engine.{calls_of, limit_of, rendering_of}
use Rattle.upon_meaning_spec.proofs.NumberedDepth.{numbered_depth}
use Rattle.upon_shape_spec.proofs.IncludesFit.{planned_alone, within_alone, depth_alone, not_too_deep}
use Rattle.upon_shape_spec.proofs.laws.templates.accepted_by_an_engine.Goals as goal

pub returns-clause-by_a_plan : goal.returns-clause-by_a_plan
returns-clause-by_a_plan g c = λ declared engine plan ask depth t name s v q f keeps closed accepted fits e.
    depth_alone (limit_of depth engine) (alone (rendering_of engine ask depth) t name (context v) q).end f
    (planned_alone declared engine.templates plan (calls_of engine ask) keeps closed (includes_left (limit_of depth engine)) t name s v q accepted fits) e

pub returns-clause-numbered : goal.returns-clause-numbered
returns-clause-numbered g c = λ declared engine plan ask depth number k t name s v q keeps closed accepted fits numbered less.
    not_too_deep (alone (rendering_of engine ask depth) t name (context v) q).end
    (planned_alone declared engine.templates plan (calls_of engine ask) keeps closed (includes_left (limit_of depth engine)) t name s v q accepted fits)
    (numbered_depth engine ask depth number k t name (context v) q numbered less)

pub returns-clause-within : goal.returns-clause-within
returns-clause-within g c = λ declared engine n ask depth t name s v q keeps accepted le fits.
    within_alone declared engine.templates (calls_of engine ask) keeps n (includes_left (limit_of depth engine)) le t name s v q accepted fits
