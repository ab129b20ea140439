-- Texts that are JSON, as `json` reads them and with as many levels as `serde_json` does.
use Rattle.std.specs.Prelude.{ℕ, List, Option, option_and_then}
use Rattle.json.specs.Lex.{tokens}
use Rattle.json.specs.Json.{Json, if_last, value}
use Rattle.serde_json.specs.Read.{max_depth}

-- the JSON value that a text is, with its numbers as they are written
abbrev pub json_of : List ℕ → Option Json
json_of text = option_and_then (λ p. if_last p.0 p.1) (value max_depth (tokens text))
