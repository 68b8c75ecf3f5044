-- `listing::write_listing` meets its contract: a refusal of Totals is given and nothing is written; else the run on no
-- bytes says the length, and the listing is written where it fits. Assumes nothing.
use mathlib.Core.Path.{sym, ◌∙◌}
use native.Mathlib.Omega.{arith}
use borrow.Author.Tests.{leb-true, leb-false}
use Rattle.buffer.proofs.Digits.{trial, kept}
use Rattle.verdict.proofs.Verdicts.{need_true, need_fails, handed_on}
use Rattle.text_reply.proofs.Replies.{text_refused, text_short}
use Rattle.listing.proofs.Refusals.{totals_accepted, totals_refused}
use Rattle.listing.proofs.ListingContract.{listing_promised, listing_written, listing_fits, refused_short}
use Rattle.listing.proofs.write_listing.Goals as goal

pub returns-then-reply-ne0 : goal.returns-then-reply-ne0
returns-then-reply-ne0 c =
    let e = totals_refused _ _ c.totals-reply.ensures.reply_is c.if-reply-ne0.true in
    listing_promised _ _ _ _ (text_refused _ _ _ _ e) (refused_short _ _ e)

pub returns-in_err-need : goal.returns-in_err-need
returns-in_err-need c =
    let f = need_fails _ _ _ _ (sym c.need.ensures ∙ c.in_err-need.was) in
    let is = c.totals-reply.ensures.reply_is in
    let told = listing_written _ _ is c.put_listing-length.ensures in
    let e = totals_accepted _ _ is c.if-reply-ne0.false in
    rw (handed_on _ c.from_residual.ensures, f.1)
    (listing_promised _ _ _ _ (text_short _ _ _ _ e (omega (arith, trial told.0, leb-false _ _ f.0))) told.1)

pub shape_of-out : goal.shape_of-out
shape_of-out c = kept c.put_listing.ensures.0

pub returns : goal.returns
returns c =
    let is = c.totals-reply.ensures.reply_is in
    let told = listing_written _ _ is c.put_listing-length.ensures in
    let text = listing_written _ _ is c.put_listing.ensures in
    let e = totals_accepted _ _ is c.if-reply-ne0.false in
    let h = leb-true _ _ (need_true _ _ _ _ (sym c.need.ensures ∙ c.in_ok-need.was)) in
    listing_fits _ _ e (omega (arith, trial told.0, h)) text
