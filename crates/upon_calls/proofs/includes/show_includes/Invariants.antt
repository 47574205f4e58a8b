use Rattle.std.proofs.Common.{◌≡◌, drop, string_bytes}
use Rattle.upon_types.specs.Pretty.{pretty}
use Rattle.upon_engine.specs.Template.{template_source}
use Rattle.upon_calls.specs.Pictures.{include_fault}
use Rattle.upon_calls.proofs.FirstIncludes.{to_show}
use Rattle.upon_calls.proofs.includes.show_includes.Given as goal

-- with what is still to be shown the text is the one with all
abbrev pub invariant-loop-place : goal.invariant-loop-place
invariant-loop-place l =
    to_show (λ word. pretty (include_fault l.name (template_source l.template) word)) l.left (drop l.place-index l.place-items) (string_bytes l.pictures)
    ≡ to_show (λ word. pretty (include_fault l.name (template_source l.template) word)) l.initial.left l.place-items (string_bytes l.initial.pictures)
