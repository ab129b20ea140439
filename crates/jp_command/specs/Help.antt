-- Words that ask a command line for help or for its version, and words that ask it for nothing. `Line`
-- cites it, and the program over lines does.
use Rattle.std.specs.Prelude.{◌≡◌, ◌⊎◌, Bool, true, false, List, []}
use Rattle.clap.specs.Words.{App, IsAmong, Text, fault_of}
use Rattle.clap.specs.declared.error.kind.ErrorKind.{ErrorKind}
use Rattle.clap.specs.declared.error.kind.ErrorKind.TheVariants as kind

-- help and the version are no faults of the words, though clap's error tells that they are asked for
abbrev pub is_shown : ErrorKind → Bool
is_shown kind.DisplayHelp = true
is_shown kind.DisplayVersion = true
is_shown _ = false

-- clap answers words with an error of this kind: it finds something of it in them, or nothing in words
-- that ask for nothing
abbrev pub IsClapsAnswer : App → ErrorKind → List Text → Type 0
IsClapsAnswer app k words = IsAmong k (fault_of app words)
    ⊎ ((fault_of app words ≡ []) × (k ≡ kind.MissingSubcommand))

-- clap finds that the words ask this command line for help or for the version
abbrev pub AsksToShow : App → List Text → Type 0
AsksToShow app words = (k : ErrorKind) × IsAmong k (fault_of app words) × (is_shown k ≡ true)

-- it finds a fault in them, or none in words that ask for nothing
abbrev pub AreNoCommand : App → List Text → Type 0
AreNoCommand app words = (fault_of app words ≡ [])
    ⊎ ((k : ErrorKind) × IsAmong k (fault_of app words) × (is_shown k ≡ false))
