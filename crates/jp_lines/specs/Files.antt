-- Which input a name opens in a process.
use Rattle.std.specs.Prelude.{◌≡◌, ⊤, ℕ, true, false, List, Result, Ok, Err}
use Rattle.std.specs.Str.{bytes_eq}
use Rattle.jp_command.specs.Device.{carried}
use Rattle.jp_command.specs.declared.device.Device.{Device}
use Rattle.jp_lines.specs.Inputs.{standard_input}
use Rattle.jp_lines.specs.declared.files.Opened.{Opened}
use Rattle.jp_lines.specs.declared.files.Opened.TheVariants.{File, Standard}
use Rattle.jp_lines.specs.declared.inputs.Unopened.{Unopened}

module _ {F S : Type 0} where
  -- it is a file
  abbrev pub IsFile : Opened F S → Type 0
  IsFile (File file) = ⊤
  IsFile (Standard standard) = ⊥

  -- the standard input is opened
  abbrev pub OpensStandard : S → Result (Device (Opened F S)) Unopened → Type 0
  OpensStandard standard (Ok device) = carried device ≡ Standard standard
  OpensStandard standard (Err why) = ⊥

  -- a file is opened, if it can be
  abbrev pub OpensFile : Result (Device (Opened F S)) Unopened → Type 0
  OpensFile (Ok device) = IsFile (carried device)
  OpensFile (Err why) = ⊤

  -- `-` opens the standard input, and any other name a file
  pub record OpensNamed (standard : S) (name : List ℕ) (result : Result (Device (Opened F S)) Unopened)
      : Type 0 where
    pub input : bytes_eq name standard_input ≡ true → OpensStandard standard result
    pub file : bytes_eq name standard_input ≡ false → OpensFile result
