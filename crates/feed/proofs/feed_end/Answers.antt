-- `feed::feed_end` meets its contract. Assumes nothing.
use mathlib.Core.Path.{ap}
use mathlib.Core.Bool.{not}
use mathlib.Core.Path.{subst}
use Rattle.validator.specs.Calls.{buffers}
use Rattle.progress.specs.Feed.{Feed}
use Rattle.progress.specs.Code.{feed_of}
use Rattle.progress.proofs.Fitness.{fit_facts}
use Rattle.feed.specs.Fed.{Ended}
use Rattle.feed.proofs.Turns.{found_fit, found_unfit, call_unfit, call_fit}
use Rattle.feed.proofs.feed_end.Goals as goal

pub returns-then-not-fits_feed : goal.returns-then-not-fits_feed
returns-then-not-fits_feed c =
    let a = c.args in
    rw (c.unfit.ensures.0, c.unfit.ensures.1) (call_unfit a.feed.now _ _ (found_unfit a.feed.now _ c.fits_feed.ensures (ap not c.if-not-fits_feed.true)))

pub load-requires : goal.load-requires
load-requires c =
    let f = fit_facts c.args.feed.now (found_fit c.args.feed.now _ c.fits_feed.ensures (ap not c.if-not-fits_feed.false)) in
    (f.long, f.few)

pub save-requires : goal.save-requires
save-requires c =
    ((fit_facts c.args.feed.now (found_fit c.args.feed.now _ c.fits_feed.ensures (ap not c.if-not-fits_feed.false))).long, c.take_end-next.ensures.1)

pub returns : goal.returns
returns c =
    let a = c.args in
    let t = c.take_end-next in
    let b = buffers a.desk.now a.sheet.now a.seen.now a.history.now a.slip.now in
    let b' = buffers t.new.desk t.new.sheet t.new.seen t.new.history t.new.slip in
    rw (c.from.ensures.0, c.from.ensures.1)
    (call_fit a.feed.now b _ _ b' (feed_of t.result) (found_fit c.args.feed.now _ c.fits_feed.ensures (ap not c.if-not-fits_feed.false)) (subst (λ (f : Feed). Ended f b (feed_of t.result) b') c.load.ensures.0 t.ensures.0) c.save.ensures)
