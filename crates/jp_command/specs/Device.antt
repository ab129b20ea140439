-- What a `Device` carries, and what it knows of it. The clauses of `Device::new`, and what
-- a device is as a `Source` and as an `Output`, cite it.
use Rattle.std.specs.Prelude.{ℕ, Bool}
use Rattle.jp_command.specs.declared.device.Device.{Device}

-- the reader or the writer inside
abbrev pub carried : {T : Type 0} → Device T → T
carried device = device.inner

-- whether a call of it failed
abbrev pub carrier_failed : {T : Type 0} → Device T → Bool
carrier_failed device = device.failed

-- whether a write or a flush of it failed because its reader hung up
abbrev pub carrier_hung_up : {T : Type 0} → Device T → Bool
carrier_hung_up device = device.hung_up

-- whether it wrote to what it carries since it was made, or since the last flush of that which did not
-- fail
abbrev pub carrier_holds_back : {T : Type 0} → Device T → Bool
carrier_holds_back device = device.holds_back

-- how many bytes it says that it has
abbrev pub size_carried : {T : Type 0} → Device T → ℕ
size_carried device = device.size
