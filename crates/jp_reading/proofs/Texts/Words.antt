-- Words of several characters, as words one after another.
use Rattle.std.proofs.Common.{[], ◌++◌, refl}
use Rattle.jp_reading.specs.Texts.{Text}
use Rattle.jp_reading.specs.Forms.{◌⌢◌, word}
use Rattle.jp_reading.proofs.States.Between.{Within}

pub words-join : (v w : Text) → Within (word v ⌢ word w) (word (v ++ w))
words-join v w s o t h = record {
  none = rw (h.spans, h.one.none, h.two.none) refl;
  is = rw (h.is, h.one.is, h.two.is) refl;
}

pub words-apart : (v w : Text) → Within (word (v ++ w)) (word v ⌢ word w)
words-apart v w s o t h = record {
  first_spans = [];
  second_spans = [];
  first = v;
  second = w;
  spans = h.none;
  is = h.is;
  one = record { none = refl; is = refl };
  two = record { none = refl; is = refl };
}
