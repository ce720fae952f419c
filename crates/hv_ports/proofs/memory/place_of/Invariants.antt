use Rattle.std.proofs.Common.{◌≡◌, drop, map}
use Rattle.hv_ports.specs.Memory.{bytes_named, file_of}
use Rattle.hv_ports.proofs.memory.place_of.Given as goal

abbrev pub invariant-loop-i : goal.invariant-loop-i
invariant-loop-i l = bytes_named (map file_of l.files) l.name ≡ bytes_named (map file_of (drop l.i l.files)) l.name
