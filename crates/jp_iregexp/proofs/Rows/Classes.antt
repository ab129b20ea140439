-- What classes hold.
use Rattle.std.proofs.Common.{◌≡◌, true, false, [], ◌∷◌, refl}
use Rattle.jp_reading.specs.Characters as char
use Rattle.jp_iregexp.specs.Category.{stands_for}
use Rattle.jp_iregexp.specs.Class.{class_holds, element_holds}
use Rattle.jp_iregexp.specs.declared.class.ClassElement.TheVariants.{Range}
use Rattle.jp_iregexp.specs.declared.category.Category.TheVariants.{L, Lu}
use Rattle.unicode.specs.declared.properties.GeneralCategory.TheVariants.{UppercaseLetter}
use Rattle.unicode.specs.declared.properties.GeneralCategory.TheVariants.{LowercaseLetter}
use Rattle.unicode.specs.declared.properties.GeneralCategory.TheVariants.{ModifierLetter}
use Rattle.unicode.specs.declared.properties.GeneralCategory.TheVariants.{NonspacingMark}

-- a range holds its first character and its last, and none past it; a range whose last character is
-- below its first holds none
ranges : (class_holds false (Range char.letter_a char.letter_c ∷ []) char.letter_a ≡ true) ×
    (class_holds false (Range char.letter_a char.letter_c ∷ []) char.letter_c ≡ true) ×
    (class_holds false (Range char.letter_a char.letter_c ∷ []) char.letter_d ≡ false) ×
    (class_holds false (Range char.letter_c char.letter_a ∷ []) char.letter_b ≡ false)
unfolding class_holds element_holds
ranges = (refl, refl, refl, refl)

-- the class of no elements holds nothing, and its negation all
no_items : (class_holds false [] char.letter_a ≡ false) × (class_holds true [] char.letter_a ≡ true)
unfolding class_holds
no_items = (refl, refl)

-- `.` holds U+0085, and neither U+000A nor U+000D
dots : (class_holds true (Range char.line_feed char.line_feed ∷ Range char.carriage_return
    char.carriage_return ∷ []) 0x85 ≡ true) ×
    (class_holds true (Range char.line_feed char.line_feed ∷ Range char.carriage_return
    char.carriage_return ∷ []) char.line_feed ≡ false)
unfolding class_holds element_holds
dots = (refl, refl)

-- `Lu` stands for one general category, `L` for all that begin with that letter
categories : (stands_for Lu UppercaseLetter ≡ true) × (stands_for Lu LowercaseLetter ≡ false) ×
    (stands_for L ModifierLetter ≡ true) × (stands_for L NonspacingMark ≡ false)
unfolding stands_for
categories = (refl, refl, refl, refl)
