-- What a reader's stop becomes.
use Rattle.jp_reading.specs.declared.reader.Stop.{Stop}
use Rattle.jp_reading.specs.declared.reader.Stop.TheVariants as stop
use Rattle.jp_query.specs.declared.refusal.Refusal.{Refusal}
use Rattle.jp_query.specs.declared.refusal.RefusalKind.TheVariants.{Syntax, TooDeep, NoMemory}

-- the refusal of a reader that stopped: out of memory has place 0
abbrev pub refusal_of : Stop → Refusal
refusal_of stop.Memory = record { kind = NoMemory; place = 0 }
refusal_of (stop.Syntax at) = record { kind = Syntax; place = at }
refusal_of (stop.TooDeep at) = record { kind = TooDeep; place = at }
