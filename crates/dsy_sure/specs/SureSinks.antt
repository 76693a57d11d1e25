-- What a sink in memory tells whose calls never fail.
use Rattle.std.specs.Prelude.{Some}
use Rattle.dsy_base.specs.Disk.{Output}
use Rattle.dsy_sure.specs.declared.sure_sink.SureSink.{SureSink}

-- what a sink that never fails has taken; its count is 0
abbrev pub output_of : SureSink → Output
output_of s = record { taken = Some s.taken.items; faults = 0 }
