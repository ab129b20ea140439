-- Why clap answers words with an error. A clause of `read_words` cites it.
use Rattle.std.specs.Prelude.{◌≡◌, ℕ, List, None}
use Rattle.clap.specs.declared.error.kind.ErrorKind.{ErrorKind}
use Rattle.jp_command.specs.Help.{IsClapsAnswer}
use Rattle.jp_lines.specs.CommandLine.{asked, jp_lines}

-- the words are no command: clap finds something of this kind in them, or they name no subcommand
abbrev pub IsNoCommand : ErrorKind → List (List ℕ) → Type 0
IsNoCommand k words = (asked words ≡ None) × IsClapsAnswer jp_lines k words
