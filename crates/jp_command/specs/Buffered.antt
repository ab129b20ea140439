-- What stands behind a program's buffer. The clauses of `buffered` and `unbuffered`, and what a
-- `BufferedOutput` is as an `Output`, cite it.
use Rattle.std.specs.declared.alloc.Global.{Global}
use Rattle.std.specs.declared.io.buffered.BufWriter.{BufWriter}
use Rattle.jp_command.specs.declared.buffer.BufferedOutput.{BufferedOutput}
use Rattle.jp_command.specs.declared.device.Device.{Device}

-- what carries the buffer, and with it the writer behind that
abbrev pub carrier_of : {W : Type 0} → BufferedOutput W → Device (BufWriter W Global)
carrier_of output = output.device
