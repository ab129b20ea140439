-- The general categories that a code stands for, and the characters that it holds (RFC 9485 section
-- 3, charProp).
use Rattle.std.specs.Prelude.{ℕ, Bool}
use Rattle.unicode.specs.GeneralCategory.{general_category, general_category_eq}
use Rattle.unicode.specs.GeneralCategoryGroup.{in_group}
use Rattle.unicode.specs.declared.properties.GeneralCategory.{GeneralCategory}
use Rattle.unicode.specs.declared.properties.GeneralCategory.TheVariants.{LowercaseLetter}
use Rattle.unicode.specs.declared.properties.GeneralCategory.TheVariants.{ModifierLetter}
use Rattle.unicode.specs.declared.properties.GeneralCategory.TheVariants.{OtherLetter}
use Rattle.unicode.specs.declared.properties.GeneralCategory.TheVariants.{TitlecaseLetter}
use Rattle.unicode.specs.declared.properties.GeneralCategory.TheVariants.{UppercaseLetter}
use Rattle.unicode.specs.declared.properties.GeneralCategory.TheVariants.{SpacingMark}
use Rattle.unicode.specs.declared.properties.GeneralCategory.TheVariants.{EnclosingMark}
use Rattle.unicode.specs.declared.properties.GeneralCategory.TheVariants.{NonspacingMark}
use Rattle.unicode.specs.declared.properties.GeneralCategory.TheVariants.{DecimalNumber}
use Rattle.unicode.specs.declared.properties.GeneralCategory.TheVariants.{LetterNumber, OtherNumber}
use Rattle.unicode.specs.declared.properties.GeneralCategory.TheVariants.{ConnectorPunctuation}
use Rattle.unicode.specs.declared.properties.GeneralCategory.TheVariants.{DashPunctuation}
use Rattle.unicode.specs.declared.properties.GeneralCategory.TheVariants.{ClosePunctuation}
use Rattle.unicode.specs.declared.properties.GeneralCategory.TheVariants.{FinalPunctuation}
use Rattle.unicode.specs.declared.properties.GeneralCategory.TheVariants.{InitialPunctuation}
use Rattle.unicode.specs.declared.properties.GeneralCategory.TheVariants.{OtherPunctuation}
use Rattle.unicode.specs.declared.properties.GeneralCategory.TheVariants.{OpenPunctuation}
use Rattle.unicode.specs.declared.properties.GeneralCategory.TheVariants.{LineSeparator}
use Rattle.unicode.specs.declared.properties.GeneralCategory.TheVariants.{ParagraphSeparator}
use Rattle.unicode.specs.declared.properties.GeneralCategory.TheVariants.{SpaceSeparator}
use Rattle.unicode.specs.declared.properties.GeneralCategory.TheVariants.{CurrencySymbol}
use Rattle.unicode.specs.declared.properties.GeneralCategory.TheVariants.{ModifierSymbol}
use Rattle.unicode.specs.declared.properties.GeneralCategory.TheVariants.{MathSymbol, OtherSymbol}
use Rattle.unicode.specs.declared.properties.GeneralCategory.TheVariants.{Control, Format}
use Rattle.unicode.specs.declared.properties.GeneralCategory.TheVariants.{Unassigned, PrivateUse}
use Rattle.unicode.specs.declared.properties.GeneralCategoryGroup.TheVariants.{Letter, Mark}
use Rattle.unicode.specs.declared.properties.GeneralCategoryGroup.TheVariants.{Number, Punctuation}
use Rattle.unicode.specs.declared.properties.GeneralCategoryGroup.TheVariants.{Separator, Symbol}
use Rattle.unicode.specs.declared.properties.GeneralCategoryGroup.TheVariants.{Other}
use Rattle.jp_iregexp.specs.declared.category.Category.{Category}
use Rattle.jp_iregexp.specs.declared.category.Category.TheVariants.{L, Ll, Lm, Lo, Lt, Lu, M, Mc}
use Rattle.jp_iregexp.specs.declared.category.Category.TheVariants.{Me, Mn, N, Nd, Nl, No, P, Pc}
use Rattle.jp_iregexp.specs.declared.category.Category.TheVariants.{Pd, Pe, Pf, Pi, Po, Ps, Z}
use Rattle.jp_iregexp.specs.declared.category.Category.TheVariants.{Zl, Zp, Zs, S, Sc, Sk, Sm}
use Rattle.jp_iregexp.specs.declared.category.Category.TheVariants.{So, C, Cc, Cf, Cn, Co}

-- whether a code stands for a general category: two letters for the one of that name, one letter
-- for all whose names begin with it (RFC 9485 section 3, charProp)
unfoldable pub stands_for : Category → GeneralCategory → Bool
stands_for L g = in_group Letter g
stands_for Ll g = general_category_eq g LowercaseLetter
stands_for Lm g = general_category_eq g ModifierLetter
stands_for Lo g = general_category_eq g OtherLetter
stands_for Lt g = general_category_eq g TitlecaseLetter
stands_for Lu g = general_category_eq g UppercaseLetter
stands_for M g = in_group Mark g
stands_for Mc g = general_category_eq g SpacingMark
stands_for Me g = general_category_eq g EnclosingMark
stands_for Mn g = general_category_eq g NonspacingMark
stands_for N g = in_group Number g
stands_for Nd g = general_category_eq g DecimalNumber
stands_for Nl g = general_category_eq g LetterNumber
stands_for No g = general_category_eq g OtherNumber
stands_for P g = in_group Punctuation g
stands_for Pc g = general_category_eq g ConnectorPunctuation
stands_for Pd g = general_category_eq g DashPunctuation
stands_for Pe g = general_category_eq g ClosePunctuation
stands_for Pf g = general_category_eq g FinalPunctuation
stands_for Pi g = general_category_eq g InitialPunctuation
stands_for Po g = general_category_eq g OtherPunctuation
stands_for Ps g = general_category_eq g OpenPunctuation
stands_for Z g = in_group Separator g
stands_for Zl g = general_category_eq g LineSeparator
stands_for Zp g = general_category_eq g ParagraphSeparator
stands_for Zs g = general_category_eq g SpaceSeparator
stands_for S g = in_group Symbol g
stands_for Sc g = general_category_eq g CurrencySymbol
stands_for Sk g = general_category_eq g ModifierSymbol
stands_for Sm g = general_category_eq g MathSymbol
stands_for So g = general_category_eq g OtherSymbol
stands_for C g = in_group Other g
stands_for Cc g = general_category_eq g Control
stands_for Cf g = general_category_eq g Format
stands_for Cn g = general_category_eq g Unassigned
stands_for Co g = general_category_eq g PrivateUse

-- whether a code holds a character: it stands for the character's general category
unfoldable pub in_category : Category → ℕ → Bool
in_category code c = stands_for code (general_category c)
