-- Items that are counted from an array's end, as other languages write them, and as an index (RFC 9535
-- section 2.3.3).
use Rattle.std.specs.Prelude.{◌≡◌, ◌++◌, false, codes}
use Rattle.std.specs.List.{list_any}
use Rattle.jp_reading.specs.Forms.{AllPassing}
use Rattle.jp_reading.specs.Texts.{Text, is_among}
use Rattle.jp_explain.specs.declared.class.Class.TheVariants.{Blank, Digit}
use Rattle.jp_explain.specs.Private.Classes.{holds}

-- a text with a minus, digits behind it, perhaps after blanks, and a parenthesis that closes; the text is
-- the front, a minus, those digits, and what comes after the parenthesis
pub record IsScriptIndex (front rest text : Text) : Type 0 where
  pub before : Text
  pub blanks : Text
  pub digits : Text
  pub after : Text
  pub parts : rest ≡ before ++ codes "-" ++ blanks ++ digits ++ codes ")" ++ after
  pub first : list_any (is_among (codes "-")) before ≡ false
  pub blank : AllPassing (holds Blank) blanks
  pub number : AllPassing (holds Digit) digits
  pub is : text ≡ front ++ codes "-" ++ digits ++ after

-- the front goes on with `last()`, for which the text has the index -1, or with such a script as
-- `(@.length-2)`, for which it has the index of its digits
pub data IsFromEnd (front rest text : Text) : Type 0 where
  last : (after : Text) → rest ≡ codes "last()" ++ after → text ≡ front ++ codes "-1" ++ after
      → IsFromEnd front rest text
  script : IsScriptIndex front rest text → IsFromEnd front rest text
