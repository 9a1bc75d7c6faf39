-- What is printed of a fault.
use Rattle.std.specs.Prelude.{ℕ, List, codes}
use Rattle.assise_record.specs.declared.fault.FrameFault.{FrameFault}
use Rattle.assise_record.specs.declared.fault.FrameFault.TheVariants.{Short, BadMagic, BadVersion, BadTag, BadLength, BadValue, Memory}

abbrev pub frame_fault_text : FrameFault → List ℕ
frame_fault_text Short = codes "short frame"
frame_fault_text BadMagic = codes "bad magic"
frame_fault_text BadVersion = codes "bad version"
frame_fault_text BadTag = codes "bad tag"
frame_fault_text BadLength = codes "bad length"
frame_fault_text BadValue = codes "bad value"
frame_fault_text Memory = codes "out of memory"
