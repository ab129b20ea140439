-- What a sentence is that is told to whoever wrote a document or typed a query.
use Rattle.std.specs.Prelude.{Bool, ◌&&◌, not, ◌==◌, nat_le, length}
use Rattle.std.specs.List.{list_all}
use Rattle.jp_reading.specs.Texts.{Text}

-- one line of printable characters, which has some: in ASCII these are those from a space to `~`
abbrev pub is_sentence : Text → Bool
is_sentence text = not (length text == 0) && list_all (λ c. nat_le 32 c && nat_le c 126) text
