use Rattle.std.proofs.Common.{◌≡◌, ◌+◌, ◌-◌, ◌<◌, length, codes, false, ap, sym, ◌∙◌, arith}
use Rattle.upon_types.specs.Val.{text_val}
use Rattle.upon_types.specs.View.{view}
use Rattle.upon_types.proofs.Views.{view-String}
use Rattle.upon_shape.specs.View.{shape_view}
use Rattle.upon_schema.proofs.TypeShapes.{types_before}
use Rattle.upon_shape_spec.specs.Wider.{is_listed}
use Rattle.upon_types.specs.View.{vals_view}
use Rattle.upon_schema.specs.Refusal.{SaysWrongIf}
use Rattle.upon_schema.specs.Refused.{each_is, is_type, known_types}
use Rattle.upon_schema.proofs.OtherKinds.{not_type}
use Rattle.upon_schema.proofs.Refusals.{each_not, handed_on, says_if, says_more}
use Rattle.upon_schema.proofs.types.joined_types.Goals as goal

pub loop-index-preserved-in_ok-shape : goal.loop-index-preserved-in_ok-shape
loop-index-preserved-in_ok-shape c =
    let i = c.loop-index.index in
    let next : i - 1 + 1 ≡ i = omega (arith, c.loop-index-test.true) in
    let less : i - 1 < length c.args.names.now = omega (arith, c.loop-index-test.true, c.loop-index.auto.index) in
    types_before c.args.names.now i (i - 1) c.index-names-index.result c.deref.result.now (shape_view c.in_ok-type_shape.field-0) (shape_view c.loop-index.shape) (shape_view c.in_ok-shape.shape)
    next less c.index-names-index.is (ap view c.in-String.is ∙ view-String c.in-String.name ∙ ap text_val (sym c.deref.ensures))
    c.in_ok-shape.ensures c.in_ok-type_shape.ensures.covers c.loop-index.invariant

pub loop-index-preserved-in_ok-shape-2 : goal.loop-index-preserved-in_ok-shape-2
loop-index-preserved-in_ok-shape-2 c =
    let i = c.loop-index.index in
    let next : i - 1 + 1 ≡ i = omega (arith, c.loop-index-test.true) in
    let less : i - 1 < length c.args.names.now = omega (arith, c.loop-index-test.true, c.loop-index.auto.index) in
    types_before c.args.names.now i (i - 1) c.index-names-index.result c.deref.result.now (shape_view c.in_ok-type_shape.field-0) (shape_view c.loop-index.shape) (shape_view c.in_ok-shape.shape)
    next less c.index-names-index.is (ap view c.in-String.is ∙ view-String c.in-String.name ∙ ap text_val (sym c.deref.ensures))
    c.in_ok-shape.ensures c.in_ok-type_shape.ensures.covers c.loop-index.invariant

pub returns-in_default : goal.returns-in_default
returns-in_default c =
    let i = c.loop-index.index in
    let less : i - 1 < length c.args.names.now = omega (arith, c.loop-index-test.true, c.loop-index.auto.index) in
    let no : each_is is_type (vals_view c.args.names.now) ≡ false = each_not is_type c.args.names.now (i - 1) c.index-names-index.result less c.index-names-index.is (not_type c.index-names-index.result c.in_default.not-String) in
    record { covers = tt; refused = says_if (codes "type") (each_is is_type (vals_view c.args.names.now) ≡ false) c.wrong_value.result no c.wrong_value.ensures }

pub returns-in_err-type_shape-clause-refused : goal.returns-in_err-type_shape-clause-refused
returns-in_err-type_shape-clause-refused c =
    let i = c.loop-index.index in
    let name = c.deref.result.now in
    let less : i - 1 < length c.args.names.now = omega (arith, c.loop-index-test.true, c.loop-index.auto.index) in
    let is : view c.index-names-index.result ≡ text_val name = ap view c.in-String.is ∙ view-String c.in-String.name ∙ ap text_val (sym c.deref.ensures) in
    let fault = c.in_err-type_shape.field-0.0 in
    handed_on (SaysWrongIf (codes "type") (each_is is_type (vals_view c.args.names.now) ≡ false)) fault c.from_residual.result c.from_residual.ensures.1
    (says_more (codes "type") (is_listed name known_types ≡ false) (each_is is_type (vals_view c.args.names.now) ≡ false) fault
    (λ no. each_not is_type c.args.names.now (i - 1) c.index-names-index.result less c.index-names-index.is (ap is_type is ∙ no)) c.in_err-type_shape.ensures.refused)
