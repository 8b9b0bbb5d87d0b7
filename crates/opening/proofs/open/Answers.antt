-- The code's tests are those of `opens`, in its order: a law for each exit.
use mathlib.Core.Path.{◌≡◌, refl, sym, ◌∙◌}
use mathlib.Core.Bool.{true, false}
use mathlib.Core.List.{List}
use Prim.Native.Nat.{ℕ, ◌≤◌, ◌<◌}
use lib.ListN.{length}
use borrow.Author.Tests.{lt-leb, le-leb}
use Rattle.rules.specs.Limits.{max_classes}
use Rattle.layout.specs.Layout.{desk_size, sheet_size, seen_size, history_size}
use Rattle.layout.specs.Fit.{word_fits}
use Rattle.opening.specs.Open.{Opened, opens, opened_desk, opened_sheet, opened_seen, opened_history}
use Rattle.opening.proofs.Opens.{zeroed_front}
use Rattle.opening.proofs.open.Goals as goal
use Rattle.opening.proofs.open.Goals.{then-k-lt1-via-then-k-lt1, then-k-lt1-via-else-k-lt1+then-k-gt-MAX_CLASSES, then-k-lt1-via-else-k-lt1+else-k-gt-MAX_CLASSES+then-not-declares_below}
use Rattle.opening.proofs.open.Goals.{then-desk-lt-DESK_SIZE-via-then-desk-lt-DESK_SIZE, then-desk-lt-DESK_SIZE-via-else-desk-lt-DESK_SIZE+then-sheet-size, then-desk-lt-DESK_SIZE-via-else-desk-lt-DESK_SIZE+else-sheet-size+then-seen-numbers, then-desk-lt-DESK_SIZE-via-else-desk-lt-DESK_SIZE+else-sheet-size+else-seen-numbers+then-history-lt-HISTORY_SIZE}

module _ (K declared : ℕ) (desk sheet seen history : List ℕ) where
  abbrev Refused : Type 0
  Refused = Opened K declared desk sheet seen history 2 desk sheet seen history

  refused : opens K declared desk sheet seen history ≡ false → Refused
  refused e = record { answer = rw e; desk = rw e; sheet = rw e; seen = rw e; history = rw e }

  no_such_class : K < 1 → Refused
  unfolding opens
  no_such_class h = refused (rw (lt-leb _ _ h))

  module _ (some : 1 ≤ K) where
    many_classes : max_classes < K → Refused
    unfolding opens
    many_classes h = refused (rw (le-leb _ _ some, lt-leb _ _ h))

    module _ (few : K ≤ max_classes) where
      bad_word : word_fits K declared ≡ false → Refused
      unfolding opens
      bad_word h = refused (rw (le-leb _ _ some, le-leb _ _ few, h))

      module _ (word : word_fits K declared ≡ true) where
        short_desk : length desk < desk_size → Refused
        unfolding opens
        short_desk h = refused (rw (le-leb _ _ some, le-leb _ _ few, word, lt-leb _ _ h))

        module _ (long : desk_size ≤ length desk) where
          short_sheet : length sheet < sheet_size K → Refused
          unfolding opens
          short_sheet h = refused (rw (le-leb _ _ some, le-leb _ _ few, word, le-leb _ _ long, lt-leb _ _ h))

          module _ (square : sheet_size K ≤ length sheet) where
            short_seen : length seen < seen_size K → Refused
            unfolding opens
            short_seen h = refused (rw (le-leb _ _ some, le-leb _ _ few, word, le-leb _ _ long, le-leb _ _ square, lt-leb _ _ h))

            module _ (room : seen_size K ≤ length seen) where
              short_history : length history < history_size → Refused
              unfolding opens
              short_history h =
                  refused (rw (le-leb _ _ some, le-leb _ _ few, word, le-leb _ _ long, le-leb _ _ square, le-leb _ _ room, lt-leb _ _ h))

              opened : (desk' sheet' seen' history' : List ℕ) → history_size ≤ length history → desk' ≡ opened_desk K declared desk
                  → sheet' ≡ opened_sheet K sheet → seen' ≡ opened_seen K seen → history' ≡ opened_history history
                  → Opened K declared desk sheet seen history 0 desk' sheet' seen' history'
              unfolding opens
              opened desk' sheet' seen' history' h x y z w =
                  let e : opens K declared desk sheet seen history ≡ true =
                  rw (le-leb _ _ some, le-leb _ _ few, word, le-leb _ _ long, le-leb _ _ square, le-leb _ _ room, le-leb _ _ h) in
                  record { answer = rw e; desk = rw e x; sheet = rw e y; seen = rw e z; history = rw e w }

pub returns-then-k-lt1 : goal.returns-then-k-lt1
returns-then-k-lt1 c =
    elim c.then-k-lt1.branch [
      | then-k-lt1-via-then-k-lt1 w ↦ no_such_class _ _ _ _ _ _ w.if-k-lt1.true
      | then-k-lt1-via-else-k-lt1+then-k-gt-MAX_CLASSES w ↦ many_classes _ _ _ _ _ _ w.if-k-lt1.false w.if-k-gt-MAX_CLASSES.true
      | then-k-lt1-via-else-k-lt1+else-k-gt-MAX_CLASSES+then-not-declares_below w ↦
          bad_word _ _ _ _ _ _ w.if-k-lt1.false w.if-k-gt-MAX_CLASSES.false (sym w.declares_below.ensures ∙ w.if-not-declares_below.true)
    ]

pub returns-then-desk-lt-DESK_SIZE : goal.returns-then-desk-lt-DESK_SIZE
returns-then-desk-lt-DESK_SIZE c =
    let some = c.if-k-lt1.false in
    let few = c.if-k-gt-MAX_CLASSES.false in
    let word = sym c.declares_below.ensures ∙ c.if-not-declares_below.false in
    elim c.then-desk-lt-DESK_SIZE.branch [
      | then-desk-lt-DESK_SIZE-via-then-desk-lt-DESK_SIZE w ↦ short_desk _ _ _ _ _ _ some few word w.if-desk-lt-DESK_SIZE.true
      | then-desk-lt-DESK_SIZE-via-else-desk-lt-DESK_SIZE+then-sheet-size w ↦
          short_sheet _ _ _ _ _ _ some few word w.if-desk-lt-DESK_SIZE.false w.if-sheet-size.true
      | then-desk-lt-DESK_SIZE-via-else-desk-lt-DESK_SIZE+else-sheet-size+then-seen-numbers w ↦
          short_seen _ _ _ _ _ _ some few word w.if-desk-lt-DESK_SIZE.false w.if-sheet-size.false w.if-seen-numbers.true
      | then-desk-lt-DESK_SIZE-via-else-desk-lt-DESK_SIZE+else-sheet-size+else-seen-numbers+then-history-lt-HISTORY_SIZE w ↦
          short_history _ _ _ _ _ _ some few word w.if-desk-lt-DESK_SIZE.false w.if-sheet-size.false w.if-seen-numbers.false w.if-history-lt-HISTORY_SIZE.true
    ]

pub returns : goal.returns
returns c =
    let a = c.args in
    opened _ _ _ _ _ _ c.if-k-lt1.false c.if-k-gt-MAX_CLASSES.false
    (sym c.declares_below.ensures ∙ c.if-not-declares_below.false) c.if-desk-lt-DESK_SIZE.false c.if-sheet-size.false c.if-seen-numbers.false
    _ _ _ _ c.if-history-lt-HISTORY_SIZE.false c.fresh_desk.ensures
    (zeroed_front (sheet_size a.classes) a.sheet.now c.if-sheet-size.false _ _ refl (c.fill.ensures.after (λ y e. e)))
    (zeroed_front (seen_size a.classes) a.seen.now c.if-seen-numbers.false _ _ refl (c.fill-2.ensures.after (λ y e. e)))
    (zeroed_front history_size a.history.now c.if-history-lt-HISTORY_SIZE.false _ _ refl (c.fill-3.ensures.after (λ y e. e)))
