-- The codes of categories as texts (RFC 9485 section 3, charProp).
use Rattle.std.specs.Prelude.{codes}
use Rattle.jp_reading.specs.Texts.{Text}
use Rattle.jp_iregexp.specs.declared.category.Category.{Category}
use Rattle.jp_iregexp.specs.declared.category.Category.TheVariants.{L, Ll, Lm, Lo, Lt, Lu, M, Mc}
use Rattle.jp_iregexp.specs.declared.category.Category.TheVariants.{Me, Mn, N, Nd, Nl, No, P, Pc}
use Rattle.jp_iregexp.specs.declared.category.Category.TheVariants.{Pd, Pe, Pf, Pi, Po, Ps, Z}
use Rattle.jp_iregexp.specs.declared.category.Category.TheVariants.{Zl, Zp, Zs, S, Sc, Sk, Sm}
use Rattle.jp_iregexp.specs.declared.category.Category.TheVariants.{So, C, Cc, Cf, Cn, Co}

-- the letters of a code
unfoldable pub letters : Category → Text
letters L = codes "L"
letters Ll = codes "Ll"
letters Lm = codes "Lm"
letters Lo = codes "Lo"
letters Lt = codes "Lt"
letters Lu = codes "Lu"
letters M = codes "M"
letters Mc = codes "Mc"
letters Me = codes "Me"
letters Mn = codes "Mn"
letters N = codes "N"
letters Nd = codes "Nd"
letters Nl = codes "Nl"
letters No = codes "No"
letters P = codes "P"
letters Pc = codes "Pc"
letters Pd = codes "Pd"
letters Pe = codes "Pe"
letters Pf = codes "Pf"
letters Pi = codes "Pi"
letters Po = codes "Po"
letters Ps = codes "Ps"
letters Z = codes "Z"
letters Zl = codes "Zl"
letters Zp = codes "Zp"
letters Zs = codes "Zs"
letters S = codes "S"
letters Sc = codes "Sc"
letters Sk = codes "Sk"
letters Sm = codes "Sm"
letters So = codes "So"
letters C = codes "C"
letters Cc = codes "Cc"
letters Cf = codes "Cf"
letters Cn = codes "Cn"
letters Co = codes "Co"
