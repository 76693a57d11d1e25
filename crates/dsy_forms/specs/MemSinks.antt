-- What a sink in memory tells.
use Rattle.std.specs.Prelude.{Some}
use Rattle.dsy_base.specs.Disk.{Output}
use Rattle.dsy_forms.specs.declared.mem_sink.MemSink.{MemSink}

abbrev pub output_of : MemSink → Output
output_of s = record { taken = Some s.taken.items; faults = s.faults }
