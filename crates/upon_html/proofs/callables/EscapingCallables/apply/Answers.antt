use Rattle.std.proofs.Common.{option_map, ap, refl}
use Rattle.upon_html.specs.Escaped.{escaping, escaping_callable}
use Rattle.upon_html.proofs.callables.EscapingCallables.apply.Goals as goal

pub returns-in-Formatted : goal.returns-in-Formatted
returns-in-Formatted g c =
    let done = c.in-Formatted.ensures {u = tt} in
    (escaping done.0, done.1, ap (option_map escaping_callable) done.2, done.3, c.append_escaped.ensures c.new-inner.result (done.0 done.1) c.new-inner.ensures.text done.4)

pub returns-in-Called : goal.returns-in-Called
returns-in-Called g c =
    let done = c.in-Called.ensures {u = tt} in
    (done.0, ap (option_map escaping_callable) done.1, done.2, done.3, refl)

pub returns-in-Miscounted : goal.returns-in-Miscounted
returns-in-Miscounted g c =
    let done = c.in-Miscounted.ensures {u = tt} in
    (escaping done.0, ap (option_map escaping_callable) done.1, done.2, refl)

pub returns-in-Unknown : goal.returns-in-Unknown
returns-in-Unknown g c =
    let done = c.in-Unknown.ensures {u = tt} in
    (ap (option_map escaping_callable) done.0, refl)
