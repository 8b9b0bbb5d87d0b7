-- `unit::is_header` meets its contract: a law for each exit. Assumes nothing.
use Rattle.unit.proofs.Header.{by_length, by_mark_0, by_mark_1, by_none, by_classes, by_word, by_version, by_plain}
use Rattle.unit.proofs.is_header.Goals as goal

pub returns-then-size-lt-PLAIN_SIZE : goal.returns-then-size-lt-PLAIN_SIZE
returns-then-size-lt-PLAIN_SIZE c = by_length _ c.if-size-lt-PLAIN_SIZE.true

pub returns-then-bytes-ne76 : goal.returns-then-bytes-ne76
returns-then-bytes-ne76 c = by_mark_0 _ c.if-bytes-ne76.true

pub returns-then-bytes-ne72 : goal.returns-then-bytes-ne72
returns-then-bytes-ne72 c = by_mark_1 _ c.if-bytes-ne72.true

pub returns-then-bytes-lt1 : goal.returns-then-bytes-lt1
returns-then-bytes-lt1 c = by_none _ c.if-bytes-lt1.true

pub returns-then-bytes-gt-MOST_CLASSES : goal.returns-then-bytes-gt-MOST_CLASSES
returns-then-bytes-gt-MOST_CLASSES c = by_classes _ c.if-bytes-gt-MOST_CLASSES.true

pub returns-then-bytes-eq-DECLARING : goal.returns-then-bytes-eq-DECLARING
returns-then-bytes-eq-DECLARING c = by_word _ c.if-bytes-ne76.false c.if-bytes-ne72.false c.if-bytes-lt1.false c.if-bytes-gt-MOST_CLASSES.false c.if-bytes-eq-DECLARING.true

pub returns-then-bytes-ne1 : goal.returns-then-bytes-ne1
returns-then-bytes-ne1 c = by_version _ c.if-bytes-eq-DECLARING.false c.if-bytes-ne1.true

pub returns : goal.returns
returns c = by_plain _ c.if-bytes-ne76.false c.if-bytes-ne72.false c.if-bytes-lt1.false c.if-bytes-gt-MOST_CLASSES.false c.if-bytes-eq-DECLARING.false c.if-bytes-ne1.false
