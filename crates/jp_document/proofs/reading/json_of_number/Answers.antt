use Rattle.std.proofs.Common.{map, reverse, sym, ap, subst}
use Rattle.serde_json.specs.Data.{number}
use Rattle.serde_json.specs.View.{number_view}
use Rattle.jp_document.specs.Document.{IsFirstFraction}
use Rattle.jp_document.specs.Location.{owned_step}
use Rattle.jp_document.proofs.Readings.Fractions.{IsFirstFraction-neither}
use Rattle.jp_document.proofs.reading.json_of_number.Goals as goal

pub returns-in_default-as_i64-clause-fault : goal.returns-in_default-as_i64-clause-fault
returns-in_default-as_i64-clause-fault c =
    subst (IsFirstFraction (number (number_view c.args.number)))
    (sym (ap (λ steps. reverse (map owned_step steps)) c.new.ensures.items))
    (IsFirstFraction-neither (number_view c.args.number) c.in_default.ensures
    c.in_default-as_i64.ensures)
