-- `discount_curve::curve_of` meets its contract: each year's divisor is the book's. Assumes nothing.
use mathlib.Core.Path.{◌≡◌, ap, ◌∙◌}
use native.Mathlib.Omega.{arith}
use Rattle.std.proofs.Common.{rules, of_calls}
use Rattle.std.proofs.lemmas.List.{get_or-map}
use Rattle.valuation.specs.Portfolio.{divisor_of}
use Rattle.discount_curve.proofs.Made.{each_made}
use Rattle.discount_curve.proofs.curve_of.Goals as goal

pub returns : goal.returns
returns c = λ k h.
    let made = c.from_fn.ensures.items in
    let (y, at, is) = each_made _ _ (λ i y. y.divisor ≡ divisor_of c.args.book.now i) c.from_fn.result 50
    (λ i y q l called. search (rules, of_calls)) made k h in
    get_or-map (λ y. y.divisor) c.from_fn.result k y 0 (omega (arith, made.long)) ∙ ap (λ y. y.divisor) (at y) ∙ is
