-- What each exit of the feed's functions comes to. Assumes nothing.
use mathlib.Core.Path.{◌≡◌, refl, sym, subst, ◌∙◌}
use mathlib.Core.Bool.{Bool, true, false, not, false≢true}
use mathlib.Core.List.{List}
use Prim.Native.Nat.{ℕ, ◌≤◌, ◌<◌}
use native.Mathlib.Omega.{arith}
use lib.ListN.{length, take}
use borrow.Author.Tests.{le-leb, lt-leb, not-true, not-false}
use Rattle.rules.specs.Verdict.{bad_opening, unfit}
use Rattle.rules.specs.Log.{unit_size}
use Rattle.validator.specs.Calls.{Buffers}
use Rattle.progress.specs.declared.Progress.{Progress}
use Rattle.progress.specs.Feed.{Feed, fresh, feed_size, view, fits, unit_begun}
use Rattle.progress.specs.Code.{feed_of, Counted}
use Rattle.progress.proofs.Fitness.{fit_facts, formed_loose}
use Rattle.unit.specs.Units.{UnitValidated}
use Rattle.feed.specs.Fed.{Ended, no_header, between, short}
use Rattle.feed.specs.Calls.{holding, Started, FeedCall}

-- ---- The end.

module _ (p : Progress) (b : Buffers) (e : p.answer ≡ 0) where
  pub end_in_header : {f' : Feed} → p.opened ≡ false → f' ≡ unit_begun bad_opening false p.number → Ended (feed_of p) b f' b
  end_in_header o q = rw q (no_header e o)

  pub end_between : p.opened ≡ true → p.count ≡ 0 → Ended (feed_of p) b (feed_of p) b
  end_between o z = between e o (rw z refl)

  pub end_in_record : {f' : Feed} {b' : Buffers} → p.opened ≡ true → Counted p → (p.count ≡ 0 → ⊥)
      → UnitValidated true p.number b (take p.count p.loose) f' b' → Ended (feed_of p) b f' b'
  end_in_record o k n j = short e o (omega arith) j

-- ---- The calls.

pub no_room : (feed : List ℕ) → length feed < feed_size → Started feed bad_opening feed
no_room feed h = let e = lt-leb feed_size (length feed) h in record { number_is = rw e refl; bytes = rw e refl }

pub started : (feed feed' : List ℕ) (f : Feed) → feed_size ≤ length feed → f ≡ fresh → feed' ≡ holding f feed → Started feed 0 feed'
started feed feed' f h q e =
    let l = le-leb feed_size (length feed) h in
    record { number_is = rw l refl; bytes = e ∙ rw (q, l) refl }

module _ (feed : List ℕ) (b : Buffers) (Next : Feed → Buffers → Type 0) where
  pub call_unfit : fits feed ≡ false → FeedCall feed b Next unfit 0 feed b
  call_unfit e = record { is_unfit = λ _. (refl, refl, refl, refl); goes_on = λ h. absurd (false≢true (sym e ∙ h)) }

  pub call_fit : (feed' : List ℕ) (b' : Buffers) (f : Feed) → fits feed ≡ true → Next f b' → feed' ≡ holding f feed
      → FeedCall feed b Next f.answer f.number feed' b'
  call_fit feed' b' f e n q =
      record {
        is_unfit = λ h. absurd (false≢true (sym h ∙ e));
        goes_on = λ _. record { after = f; next = n; answer_is = refl; number_is = refl; bytes = q };
      }

-- The count, where the loose bytes are fewer than the unit has.
pub counted_few : (p : Progress) → Counted p → length (feed_of p).loose < unit_size p.opened (feed_of p).loose → p.count < unit_size p.opened (feed_of p).loose
counted_few p k h = omega arith

-- A fit feed has fewer loose bytes than a unit.
pub few_loose : (feed : List ℕ) (p : Progress) → fits feed ≡ true → feed_of p ≡ view feed → Counted p → p.count < unit_size p.opened (feed_of p).loose
few_loose feed p e q k =
    counted_few p k (subst (λ (f : Feed). length f.loose < unit_size f.opened f.loose) (sym q) (formed_loose (view feed) (fit_facts feed e).formed))

-- What the test says.
pub found_fit : (feed : List ℕ) (t : Bool) → t ≡ fits feed → not t ≡ false → fits feed ≡ true
found_fit feed t e h = sym e ∙ not-false t h

pub found_unfit : (feed : List ℕ) (t : Bool) → t ≡ fits feed → not t ≡ true → fits feed ≡ false
found_unfit feed t e h = sym e ∙ not-true t h
